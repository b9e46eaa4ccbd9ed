use Rattle.std.proofs.Common.{◌≡◌, ℕ, ◌≤◌, length, take}
use Rattle.ps_lexer.specs.Gaps.{place_after}
use Rattle.ps_lsp_text.proofs.PlacesBefore.{IsOnTheWay}
use Rattle.ps_lsp_text.proofs.looking.bytes_before.Given as goal

abbrev pub invariant-loop-i : goal.invariant-loop-i
invariant-loop-i l = (at : ℕ) → at ≤ length l.text → place_after (take at l.text) ≡ l.place → IsOnTheWay l.text l.i l.line at
