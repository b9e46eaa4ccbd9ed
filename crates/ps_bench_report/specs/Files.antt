-- The row of a file, and a part that is a text.
use Rattle.std.specs.Prelude.{ℕ, List, [], ◌∷◌, ◌++◌, codes}
use Rattle.ps_bench_report.specs.Pieces.{element, marked}
use Rattle.ps_bench_report.specs.declared.names.Key.TheVariants.{Class, Scope}
use Rattle.ps_bench_report.specs.declared.names.Tag.TheVariants.{H2, P, Pre, Section, Td, Th, Tr}
use Rattle.ps_bench_report.specs.declared.page.Piece.{Piece}
use Rattle.ps_bench_report.specs.declared.page.Piece.TheVariants.{Begin, End, Inside}

-- the row of a file of this name, with what it is named by
abbrev pub file_row : (name digest : List ℕ) → List Piece
file_row name digest =
    (Begin Tr ∷ Inside ∷ []) ++ marked Th Scope (codes "row") name ++ marked Td Class (codes "digest") digest
    ++ End Tr ∷ []

-- what is told in a part: a text, or one sentence where it is empty
abbrev pub told_piece : (text none : List ℕ) → List Piece
told_piece [] none = element P none
told_piece (c ∷ cs) none = element Pre (c ∷ cs)

-- a part that is a text, with its heading
abbrev pub text_part : (heading text none : List ℕ) → List Piece
text_part heading text none =
    (Begin Section ∷ Inside ∷ []) ++ element H2 heading ++ told_piece text none ++ End Section ∷ []
