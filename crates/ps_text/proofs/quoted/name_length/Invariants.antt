use Rattle.std.proofs.Common.{◌≡◌, ℕ, ◌<◌, get_or, false, not}
use Rattle.ps_text.specs.Quoted.{is_of_name}
use Rattle.ps_text.proofs.quoted.name_length.Given as goal

abbrev pub invariant-loop-index : goal.invariant-loop-index
invariant-loop-index l = (k : ℕ) → k < l.index → not (is_of_name (get_or l.bytes k 0)) ≡ false
