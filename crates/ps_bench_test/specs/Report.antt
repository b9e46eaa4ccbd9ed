-- What is told of results, in one of three forms.
use Rattle.std.specs.Prelude.{ℕ, List, []}
use Rattle.ps_bench_words.specs.declared.asking.Format.{Format}
use Rattle.ps_bench_words.specs.declared.asking.Format.TheVariants.{Text, Tap, Junit}
use Rattle.ps_bench_cases.specs.declared.rule.CaseRefusal.{CaseRefusal}
use Rattle.ps_bench_test.specs.Junit.{junit_case, junit_foot, junit_head, junit_refused, suite_foot, suite_head}
use Rattle.ps_bench_frame.specs.Refusing.{refused_line}
use Rattle.ps_bench_test.specs.Lines.{case_lines, total_line}
use Rattle.ps_bench_test.specs.Tap.{tap_case, tap_head, tap_plan, tap_refused}
use Rattle.ps_bench_test.specs.Outcome.{Ran, next}
use Rattle.ps_bench_test.specs.declared.outcome.Tally.{Tally}

-- what stands before all results
abbrev pub head_text : Format → List ℕ
head_text Text = []
head_text Tap = tap_head
head_text Junit = junit_head

-- what stands before the cases of a file of this name that has so many
abbrev pub file_head_text : Format → (name : List ℕ) → (cases : ℕ) → List ℕ
file_head_text Text name cases = []
file_head_text Tap name cases = []
file_head_text Junit name cases = suite_head name cases

-- what is told of a case, the next one after these
abbrev pub case_text : Format → (before : Tally) → Ran → List ℕ
case_text Text before r = case_lines r
case_text Tap before r = tap_case (next before.cases) r
case_text Junit before r = junit_case r

-- what stands after the cases of a file
abbrev pub file_foot_text : Format → List ℕ
file_foot_text Text = []
file_foot_text Tap = []
file_foot_text Junit = suite_foot

-- what stands after all results
abbrev pub foot_text : Format → Tally → List ℕ
foot_text Text t = total_line t
foot_text Tap t = tap_plan t
foot_text Junit t = junit_foot

-- what is told in the place of all else where a file of this name is refused
abbrev pub refused_text : Format → (name : List ℕ) → CaseRefusal → List ℕ
refused_text Text name r = refused_line r
refused_text Tap name r = tap_refused r
refused_text Junit name r = junit_refused name r
