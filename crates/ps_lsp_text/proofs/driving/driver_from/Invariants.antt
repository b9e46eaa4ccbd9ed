use Rattle.std.proofs.Common.{ℕ, ◌<◌, ◌≤◌}
use Rattle.ps_lsp_text.specs.Driving.{Drives}
use Rattle.ps_lsp_text.proofs.driving.driver_from.Given as goal

abbrev pub invariant-loop-at : goal.invariant-loop-at
invariant-loop-at l = (k : ℕ) → l.from ≤ k → k < l.at → Drives l.tokens l.name k → ⊥
