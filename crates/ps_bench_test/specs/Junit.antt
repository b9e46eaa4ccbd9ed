-- Results in the XML of JUnit.
use Rattle.std.specs.Prelude.{ℕ, ◌==◌, List, [], ◌∷◌, ◌++◌, codes, decimal, length, nat_lt, if◌then◌else◌}
use Rattle.std.specs.List.{flat_map}
use Rattle.ps_bench_cases.specs.declared.rule.CaseRefusal.{CaseRefusal}
use Rattle.ps_bench_frame.specs.Refusing.{refused_line}
use Rattle.ps_bench_test.specs.Lines.{all_failures}
use Rattle.ps_bench_test.specs.Outcome.{Ran, passes}
use Rattle.ps_bench_frame.specs.Pieces.{count_text, shown}

-- a byte of a text or an attribute: what has a meaning of its own is escaped, and a control byte that is no line feed is
-- `?`
abbrev pub xml_byte : ℕ → List ℕ
xml_byte b =
    if b == 38 then codes "&amp;"
    else if b == 60 then codes "&lt;"
    else if b == 62 then codes "&gt;"
    else if b == 34 then codes "&quot;"
    else if b == 39 then codes "&apos;"
    else if b == 10 then codes "\n"
    else if nat_lt b 32 then codes "?"
    else b ∷ []

-- bytes of a text or an attribute
abbrev pub xml_escaped : List ℕ → List ℕ
xml_escaped bytes = flat_map xml_byte bytes

-- an attribute, as ` name="press.cases"`
abbrev pub attribute : (key value : List ℕ) → List ℕ
attribute key value = codes " " ++ key ++ codes "=\"" ++ xml_escaped value ++ codes "\""

-- what stands before all results
abbrev pub junit_head : List ℕ
junit_head = codes "<?xml version=\"1.0\" encoding=\"UTF-8\"?>\n<testsuites>\n"

-- the beginning of the results of a file of this name, as it stands in a line, that has so many cases
abbrev pub suite_head : (name : List ℕ) → (cases : ℕ) → List ℕ
suite_head name cases =
    codes "<testsuite" ++ attribute (codes "name") (shown name) ++ codes " tests=\"" ++ decimal cases ++ codes "\">\n"

-- the beginning of a case of this name
abbrev pub case_name : (name : List ℕ) → List ℕ
case_name name = codes "<testcase" ++ attribute (codes "name") name

-- the beginning of a case of a file, whose name is as it stands in a line
abbrev pub case_head : (name file : List ℕ) → List ℕ
case_head name file = case_name name ++ attribute (codes "classname") (shown file)

-- the beginning of so many failures of a case
abbrev pub failed_head : (count : ℕ) → List ℕ
failed_head count = codes ">\n<failure message=\"" ++ count_text count (codes "failure") ++ codes "\">\n"

-- so many failures of a case
abbrev pub failed_element : (count : ℕ) → (failures : List ℕ) → List ℕ
failed_element count failures =
    failed_head count ++ xml_escaped failures ++ codes "</failure>\n</testcase>\n"

-- the end of a case, with its failures
abbrev pub outcome_element : Ran → List ℕ
outcome_element r =
    if passes r.outcome then codes "/>\n"
    else failed_element (length r.outcome.failures.items) (all_failures [] r)

-- a case
abbrev pub junit_case : Ran → List ℕ
junit_case r = case_head r.case.name r.name ++ outcome_element r

-- what stands after the cases of a file
abbrev pub suite_foot : List ℕ
suite_foot = codes "</testsuite>\n"

-- what stands after all results
abbrev pub junit_foot : List ℕ
junit_foot = codes "</testsuites>\n"

-- The results of a file that is refused, and the end: it counts as a case with an error. The line of the refusal stands
-- in a line of its own.
abbrev pub junit_refused : (name : List ℕ) → CaseRefusal → List ℕ
junit_refused name r =
    suite_head name 1 ++ case_head (shown name) name ++ codes ">\n<error message=\"the case file is refused\">\n"
    ++ refused_line r ++ codes "</error>\n</testcase>\n</testsuite>\n</testsuites>\n"
