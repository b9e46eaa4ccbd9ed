-- Pieces that stand together.
use Rattle.std.specs.Prelude.{ℕ, List, [], ◌∷◌}
use Rattle.ps_bench_report.specs.declared.names.Key.{Key}
use Rattle.ps_bench_report.specs.declared.names.Key.TheVariants.{Class}
use Rattle.ps_bench_report.specs.declared.names.Tag.{Tag}
use Rattle.ps_bench_report.specs.declared.page.Piece.{Piece}
use Rattle.ps_bench_report.specs.declared.page.Piece.TheVariants.{Attribute, Begin, End, Inside, Value}

-- an element without attributes that holds a text
abbrev pub element : Tag → (value : List ℕ) → List Piece
element tag value = Begin tag ∷ Inside ∷ Value value ∷ End tag ∷ []

-- an element with one attribute that holds a text
abbrev pub marked : Tag → Key → (mark value : List ℕ) → List Piece
marked tag key mark value = Begin tag ∷ Attribute key mark ∷ Inside ∷ Value value ∷ End tag ∷ []

-- the class of an element, which may be none
abbrev pub class_pieces : (class : List ℕ) → List Piece
class_pieces [] = []
class_pieces (c ∷ cs) = Attribute Class (c ∷ cs) ∷ []
