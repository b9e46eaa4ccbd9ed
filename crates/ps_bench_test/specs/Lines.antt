-- Results in lines for a person.
use Rattle.std.specs.Prelude.{ℕ, ◌-◌, List, [], ◌++◌, codes, decimal, if◌then◌else◌}
use Rattle.ps_bench_test.specs.Failing.{failures_text}
use Rattle.ps_bench_frame.specs.Pieces.{count_text, place_text, shown}
use Rattle.ps_bench_test.specs.Outcome.{Ran, passes}
use Rattle.ps_bench_test.specs.declared.outcome.Tally.{Tally}

-- a case in a line, as `PASS press.cases:7 the guard stops the ram (56 scans)`
abbrev pub case_line : Ran → List ℕ
case_line r =
    (if passes r.outcome then codes "PASS " else codes "FAIL ") ++ place_text r.name r.case.line ++ codes " "
    ++ r.case.name ++ codes " (" ++ count_text r.outcome.scans (codes "scan") ++ codes ")\n"

-- the command that shows a run of an application of this name, after a mark
abbrev pub command_text : (mark app : List ℕ) → List ℕ
command_text mark app = mark ++ codes "plcsafe-bench watch " ++ shown app

-- the call that shows the run of a case, in a line after a mark, as `plcsafe-bench watch press.st press.cases:7`
abbrev pub call_text : (mark : List ℕ) → Ran → List ℕ
call_text mark r = command_text mark r.app ++ codes " " ++ place_text r.name r.case.line ++ codes "\n"

-- the same of a case that failed; nothing of one that passed
abbrev pub shown_text : (mark : List ℕ) → Ran → List ℕ
shown_text mark r = if passes r.outcome then [] else call_text mark r

-- the failures of a case, each in a line after a mark: those of lines before the first case, and then its own; and the
-- call that shows them
abbrev pub all_failures : (mark : List ℕ) → Ran → List ℕ
all_failures mark r =
    failures_text r.net mark r.file.begin r.outcome.failures.items
    ++ failures_text r.net mark r.case.statements r.outcome.failures.items
    ++ shown_text mark r

-- a case in a line, and below it its failures
abbrev pub case_lines : Ran → List ℕ
case_lines r = case_line r ++ all_failures (codes "  ") r

-- how many cases passed and failed, as `2 cases, 1 passed, 1 failed`
abbrev pub total_line : Tally → List ℕ
total_line t =
    count_text t.cases (codes "case") ++ codes ", " ++ decimal (t.cases - t.failed) ++ codes " passed, "
    ++ decimal t.failed ++ codes " failed\n"
