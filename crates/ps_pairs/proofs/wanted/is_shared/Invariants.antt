use Rattle.std.proofs.Common.{◌≡◌, ◌<◌, ℕ, false}
use Rattle.ps_base.specs.LetterCase.{is_same_name}
use Rattle.ps_model.specs.Network.{signal_name}
use Rattle.ps_pairs.proofs.wanted.is_shared.Given as goal

-- none so far
abbrev pub invariant-loop-s : goal.invariant-loop-s
invariant-loop-s l = (j : ℕ) → j < l.s → is_same_name l.text (signal_name l.app j) ≡ false
