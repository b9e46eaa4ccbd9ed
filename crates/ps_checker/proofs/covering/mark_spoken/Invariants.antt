use Rattle.std.proofs.Common.{◌≡◌, ℕ, false, ◌||◌, length, drop, get_or}
use Rattle.std.specs.Prelude.{◌==◌}
use Rattle.std.specs.List.{list_any}
use Rattle.ps_checker.proofs.covering.mark_spoken.Given as goal

-- the marks, and those that are still to be made
abbrev pub invariant-loop-l : goal.invariant-loop-l
invariant-loop-l l = record {
  len : length l.marks ≡ length l.fn.marks;
  each : (m : ℕ) → (get_or l.marks m false || list_any (λ x. x.node == m) (drop l.l-index l.lines))
      ≡ (get_or l.fn.marks m false || list_any (λ x. x.node == m) l.lines);
}
