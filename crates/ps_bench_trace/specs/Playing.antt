-- What is run where a word stands in the place of a trace.
use Rattle.std.specs.Prelude.{◌≡◌, ℕ, List, [], Option, Some, None, Ok, IsTrue}
use Rattle.ps_bench_frame.specs.Meant.{word_meant}
use Rattle.ps_bench_frame.specs.Opening.{Source}
use Rattle.ps_bench_frame.specs.declared.meant.Part.{Part}
use Rattle.ps_bench_frame.specs.declared.meant.Part.TheVariants.{Trace, Cases, Case}
use Rattle.ps_bench_cases.specs.Alone.{alone, case_with}
use Rattle.ps_bench_cases.specs.Expanded.{expanded}
use Rattle.ps_bench_cases.specs.File.{cases_of}
use Rattle.ps_bench_cases.specs.Meant.{faults_in, whole_case}
use Rattle.ps_bench_cases.specs.declared.case.Case.{Case as CaseOf}
use Rattle.ps_bench_cases.specs.declared.case.CaseFile.{CaseFile}
use Rattle.ps_model.specs.declared.channel.Fault.{Fault}

-- the text of this name says a case file of which this holds
abbrev pub HoldsCases : Source → (name : List ℕ) → (CaseFile → Type 0) → Type 0
HoldsCases from name P =
    (text : List ℕ) × (from.held name ≡ Some text)
    × (file : CaseFile) × (cases_of from.net from.sizes text ≡ Ok file) × P file

-- What a part of a file means in the place of a trace, by the text of a trace and the faults that it brings: the text
-- of the file, and none; the trace of all of its cases, and none; or the trace of a case, as if the file had this case
-- alone, and its faults.
abbrev pub IsPlayOf : Source → (name : List ℕ) → Part → (trace : List ℕ) → List Fault → Type 0
IsPlayOf from name Trace trace faults = (from.held name ≡ Some trace) × (faults ≡ [])
IsPlayOf from name Cases trace faults =
    HoldsCases from name (λ file. (trace ≡ expanded from.net file) × (faults ≡ []))
IsPlayOf from name (Case line) trace faults =
    HoldsCases from name (λ file. (c : CaseOf) × (case_with line file.cases ≡ Some c)
    × (trace ≡ expanded from.net (alone file c)) × (faults ≡ faults_in (whole_case file c)))

-- what a word means in the place of a trace
abbrev pub IsPlay : Source → (word trace : List ℕ) → List Fault → Type 0
IsPlay from word trace faults = IsPlayOf from (word_meant word).file (word_meant word).part trace faults

-- no case of the file has the line of a part
abbrev pub LacksCaseOf : Source → (name : List ℕ) → Part → Type 0
LacksCaseOf from name Trace = ⊥
LacksCaseOf from name Cases = ⊥
LacksCaseOf from name (Case line) =
    IsTrue from.tells → HoldsCases from name (λ file. case_with line file.cases ≡ None)

-- a word means the case that has a line, and no case has it
abbrev pub LacksCase : Source → (word : List ℕ) → Type 0
LacksCase from word = LacksCaseOf from (word_meant word).file (word_meant word).part

-- the text of a trace: the one of cases, if there is one, or the one that is held
abbrev pub trace_held : (cases held : Option (List ℕ)) → Option (List ℕ)
trace_held (Some text) held = Some text
trace_held None held = held

-- what was made ready to be run is what a part of a file means, where the files tell
abbrev pub MeansPart : Source → (name : List ℕ) → Part → (cases : Option (List ℕ)) → List Fault → Type 0
MeansPart from name part cases faults =
    IsTrue from.tells → (trace : List ℕ) → trace_held cases (from.held name) ≡ Some trace →
    IsPlayOf from name part trace faults

-- the same of what a word means
abbrev pub MeansPlay : Source → (word : List ℕ) → (cases : Option (List ℕ)) → List Fault → Type 0
MeansPlay from word cases faults = MeansPart from (word_meant word).file (word_meant word).part cases faults
