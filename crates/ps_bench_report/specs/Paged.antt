-- A page, as contracts see it.
use Rattle.std.specs.Prelude.{◌≡◌, Bool, List, ◌++◌, IsTrue}
use Rattle.ps_bench_report.specs.declared.page.Piece.{Piece}

-- the pieces of a page, and whether it has all that were added: memory ran out for none of them
pub record Paged : Type 0 where
  pub pieces : List Piece
  pub whole : Bool

-- Unless it is not whole, a page was whole before, and its pieces stand so to those that it had.
abbrev pub OnWhole : (before after : Paged) → (List Piece → List Piece → Type 0) → Type 0
OnWhole before after holds = IsTrue after.whole → IsTrue before.whole × holds before.pieces after.pieces

-- These pieces stand at the end of a page, unless it is not whole.
abbrev pub Adds : (before after : Paged) → List Piece → Type 0
Adds before after pieces = IsTrue after.whole → IsTrue before.whole × (after.pieces ≡ before.pieces ++ pieces)
