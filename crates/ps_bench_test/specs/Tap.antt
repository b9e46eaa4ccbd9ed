-- Results as TAP, the Test Anything Protocol, version 13.
use Rattle.std.specs.Prelude.{ℕ, ◌==◌, List, [], ◌∷◌, ◌++◌, codes, decimal, if◌then◌else◌}
use Rattle.std.specs.List.{flat_map}
use Rattle.ps_bench_cases.specs.declared.rule.CaseRefusal.{CaseRefusal}
use Rattle.ps_bench_frame.specs.Refusing.{refused_line}
use Rattle.ps_bench_test.specs.Lines.{all_failures}
use Rattle.ps_bench_test.specs.Outcome.{Ran, passes}
use Rattle.ps_bench_frame.specs.Pieces.{place_text}
use Rattle.ps_bench_test.specs.declared.outcome.Tally.{Tally}

-- a byte of a description, in which `#` would begin a directive
abbrev pub tap_byte : ℕ → List ℕ
tap_byte b = if b == 35 then codes "\\#" else if b == 92 then codes "\\\\" else b ∷ []

-- a description, where what has a meaning of its own is escaped
abbrev pub tap_escaped : List ℕ → List ℕ
tap_escaped bytes = flat_map tap_byte bytes

-- a case in a line by its number, as `ok 1 - press.cases:7 the guard stops the ram`, and its failures in comments
abbrev pub tap_case : (number : ℕ) → Ran → List ℕ
tap_case number r =
    (if passes r.outcome then codes "ok " else codes "not ok ") ++ decimal number ++ codes " - "
    ++ tap_escaped (place_text r.name r.case.line ++ codes " " ++ r.case.name) ++ codes "\n"
    ++ all_failures (codes "# ") r

-- what stands before all results
abbrev pub tap_head : List ℕ
tap_head = codes "TAP version 13\n"

-- the plan, as `1..2`
abbrev pub tap_plan : Tally → List ℕ
tap_plan t = codes "1.." ++ decimal t.cases ++ codes "\n"

-- the line of a refusal, and that nothing more comes
abbrev pub tap_refused : CaseRefusal → List ℕ
tap_refused r = refused_line r ++ codes "Bail out! a case file is refused\n"
