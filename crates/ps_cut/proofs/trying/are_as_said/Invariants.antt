use Rattle.std.proofs.Common.{◌≡◌, ◌<◌, ℕ, Some, get_or, false}
use Rattle.std.specs.Prelude.{slice_get}
use Rattle.ps_reach.specs.Asking.{Point, input_value}
use Rattle.ps_reach.specs.declared.asked.InputRule.{InputRule}
use Rattle.ps_cut.proofs.trying.are_as_said.Given as goal

-- the inputs so far are as is said
abbrev pub invariant-loop-s : goal.invariant-loop-s
invariant-loop-s l =
    (p : Point) → l.moment.is_begun ≡ p.begun → l.moment.signals.items ≡ p.state.signals → (s : ℕ) (rule : InputRule) → s < l.s →
    slice_get l.asked.inputs.items s ≡ Some rule → get_or l.ins s false ≡ input_value rule p (get_or l.ins s false)
