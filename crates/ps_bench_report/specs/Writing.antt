-- The text of a page: each piece is one of the program's own, or a value that is escaped.
use Rattle.std.specs.Prelude.{ℕ, List, ◌++◌, codes}
use Rattle.std.specs.List.{flat_map}
use Rattle.ps_text.specs.Escaping.{attribute_text, escaped}
use Rattle.ps_bench_report.specs.Names.{key_name, tag_name}
use Rattle.ps_bench_report.specs.declared.names.Tag.{Tag}
use Rattle.ps_bench_report.specs.declared.page.Piece.{Piece}
use Rattle.ps_bench_report.specs.declared.page.Piece.TheVariants.{Alone, Attribute, Begin, Body, End, Epilogue}
use Rattle.ps_bench_report.specs.declared.page.Piece.TheVariants.{Inside, Prologue, Value}
use Rattle.ps_bench_report.specs.declared.writing.TheConstants.{BODY, EPILOGUE, PROLOGUE}

-- the beginning of an element, as `<td`
abbrev pub begin_text : Tag → List ℕ
begin_text tag = codes "<" ++ tag_name tag

-- the end of an element, as `</td>`
abbrev pub end_text : Tag → List ℕ
end_text tag = codes "</" ++ tag_name tag ++ codes ">"

-- a piece
abbrev pub piece_text : Piece → List ℕ
piece_text Prologue = PROLOGUE.now
piece_text Body = BODY.now
piece_text Epilogue = EPILOGUE.now
piece_text (Begin tag) = begin_text tag
piece_text (Attribute key value) = attribute_text (key_name key) value
piece_text Inside = codes ">"
piece_text Alone = codes "/>"
piece_text (Value value) = escaped value
piece_text (End tag) = end_text tag

-- pieces, one after another
abbrev pub written : List Piece → List ℕ
written pieces = flat_map piece_text pieces
