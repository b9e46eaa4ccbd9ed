-- What campaigns wrote, read again and added.
use Rattle.std.specs.Prelude.{◌≡◌, ◌≢◌, ◌≤◌, ℕ, List, length}
use Rattle.ps_bench_trials.specs.Adding.{added}
use Rattle.ps_bench_trials.specs.Plain.{ArePlain}
use Rattle.ps_bench_trials.specs.Totals.{totals_text}
use Rattle.ps_bench_trials.specs.declared.adding.SumStop.{SumStop}
use Rattle.ps_bench_trials.specs.declared.adding.SumStop.TheVariants.{Unread, Refused, NoMemory}
use Rattle.ps_bench_trials.specs.declared.refusal.SumRule.{SumRule}
use Rattle.ps_bench_trials.specs.declared.refusal.SumRule.TheVariants.{U1, U2, U3}
use Rattle.ps_bench_trials.specs.declared.summing.TheConstants.{LARGEST_SUM}
use Rattle.ps_bench_trials.specs.declared.summing.Totals.{Totals}

-- the number of a rule
abbrev pub rank : SumRule → ℕ
rank U1 = 1
rank U2 = 2
rank U3 = 3

-- the line of the head that a rule is about
abbrev pub head_line : SumRule → ℕ
head_line U1 = 1
head_line U2 = 1
head_line U3 = 2

-- the text that tells these counts
abbrev pub text_of : Totals → List ℕ
text_of totals = totals_text totals.app totals.trace totals.tally

-- the text tells these counts, and all of them
abbrev pub IsTold : (text : List ℕ) → Totals → Type 0
IsTold text totals = (text ≡ text_of totals) × ArePlain totals.tally

-- the same of a text that is no longer than a file may be
abbrev pub IsWholly : (text : List ℕ) → Totals → Type 0
IsWholly text totals = (length text ≤ LARGEST_SUM) × IsTold text totals

-- a text is not added for its form, or if memory runs out
abbrev pub IsOfForm : SumStop → Type 0
IsOfForm (Unread place) = ⊥
IsOfForm (Refused refusal) = refusal.rule ≡ U1
IsOfForm NoMemory = Unit {0}

-- others of the same application and the same trace add their counts
pub record Adds (before more after : Totals) : Type 0 where
  pub app : (more.app ≡ before.app) × (after.app ≡ before.app)
  pub trace : (more.trace ≡ before.trace) × (after.trace ≡ before.trace)
  pub counts : after.tally ≡ added before.tally more.tally

-- others are not added that are of another application or another trace
abbrev pub IsFlaw : SumRule → (before more : Totals) → Type 0
IsFlaw U1 before more = ⊥
IsFlaw U2 before more = more.app ≢ before.app
IsFlaw U3 before more = (more.app ≡ before.app) × (more.trace ≢ before.trace)
