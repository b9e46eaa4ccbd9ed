use Rattle.std.proofs.Common.{ℕ, ◌<◌}
use Rattle.ps_lsp_text.specs.Hovering.{IsPinOf}
use Rattle.ps_lsp_text.proofs.described.pin_named.Given as goal

abbrev pub invariant-loop-pin : goal.invariant-loop-pin
invariant-loop-pin l = (k : ℕ) → k < l.pin → IsPinOf l.kind l.name l.is_input k → ⊥
