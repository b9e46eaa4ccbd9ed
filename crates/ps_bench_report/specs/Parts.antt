-- The pieces of a part.
use Rattle.std.specs.Prelude.{List, [], ◌∷◌, decimal}
use Rattle.ps_bench_report.specs.Pieces.{class_pieces, element, marked}
use Rattle.ps_bench_report.specs.declared.page.Piece.{Piece}
use Rattle.ps_bench_report.specs.declared.page.Piece.TheVariants.{Alone, Attribute, Begin, Body, End, Epilogue}
use Rattle.ps_bench_report.specs.declared.page.Piece.TheVariants.{Inside, Prologue, Value}
use Rattle.ps_bench_report.specs.declared.parts.Part.{Part}
use Rattle.ps_bench_report.specs.declared.parts.Part.TheVariants as part

-- the pieces that a part is
abbrev pub pieces_of : Part → List Piece
pieces_of part.Prologue = Prologue ∷ []
pieces_of part.Body = Body ∷ []
pieces_of part.Epilogue = Epilogue ∷ []
pieces_of (part.Begin tag) = Begin tag ∷ []
pieces_of (part.Attribute key value) = Attribute key value.now ∷ []
pieces_of (part.Class class) = class_pieces class.now
pieces_of (part.Number key number) = Attribute key (decimal number) ∷ []
pieces_of part.Inside = Inside ∷ []
pieces_of part.Alone = Alone ∷ []
pieces_of (part.Value value) = Value value.now ∷ []
pieces_of (part.End tag) = End tag ∷ []
pieces_of (part.Open tag) = Begin tag ∷ Inside ∷ []
pieces_of (part.Element tag value) = element tag value.now
pieces_of (part.Marked tag key mark value) = marked tag key mark.now value.now
