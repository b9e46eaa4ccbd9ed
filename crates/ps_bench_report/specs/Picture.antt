-- Words, lines and bands of a picture, as pieces of a page.
use Rattle.std.specs.Prelude.{ℕ, ◌==◌, ◌+◌, ◌-◌, ◌*◌, ◌/◌, ◌&&◌, List, [], ◌∷◌, ◌++◌, codes, decimal, if◌then◌else◌}
use Rattle.std.specs.Prelude.{length, min, nat_le, take}
use Rattle.ps_text.specs.Lanes.{line_text, merged, start_text, step_text}
use Rattle.ps_text.specs.declared.lanes.Span.{Span}
use Rattle.ps_bench_report.specs.Pieces.{class_pieces, element}
use Rattle.ps_bench_report.specs.declared.names.Key.TheVariants.{D, Height, Width, X, Y}
use Rattle.ps_bench_report.specs.declared.names.Tag.TheVariants.{Path, Rect, Text, Title}
use Rattle.ps_bench_report.specs.declared.page.Piece.{Piece}
use Rattle.ps_bench_report.specs.declared.page.Piece.TheVariants.{Alone, Attribute, Begin, End, Inside, Value}

-- the upper side of the line of this number
abbrev pub row_top : (row : ℕ) → ℕ
row_top row = row * 24 + 34

-- words with their class at a place
abbrev pub words_pieces : (class : List ℕ) → (x y : ℕ) → (words : List ℕ) → List Piece
words_pieces class x y words =
    Begin Text ∷ class_pieces class
    ++ Attribute X (decimal x) ∷ Attribute Y (decimal y) ∷ Inside ∷ Value words ∷ End Text ∷ []

-- lines with their class
abbrev pub path_pieces : (class lines : List ℕ) → List Piece
path_pieces class lines = Begin Path ∷ class_pieces class ++ Attribute D lines ∷ Alone ∷ []

-- an upright line
abbrev pub upright_text : (x top bottom : ℕ) → List ℕ
upright_text x top bottom = start_text x top ++ step_text (codes "V") bottom

-- the name before a line
abbrev pub name_pieces : (row : ℕ) → (name : List ℕ) → List Piece
name_pieces row name = words_pieces (codes "name") 132 (row_top row + 16) name

-- the line of FALSE below a line, up to a right side
abbrev pub base_text : (row end : ℕ) → List ℕ
base_text row end = start_text 140 (row_top row + 21) ++ step_text (codes "H") end

-- the line of a signal, by its values in scans side by side: high for TRUE
abbrev pub level_text : (row : ℕ) → List Span → List ℕ
level_text row spans = line_text (row_top row + 5) (row_top row + 19) (merged spans)

-- the same as pieces
abbrev pub level_pieces : (row : ℕ) → List Span → List Piece
level_pieces row spans = path_pieces [] (level_text row spans)

-- how a band of a code looks: 16#0000 is idle, 16#8000 is well, and an error has its first bits
abbrev pub band_class : (code : ℕ) → List ℕ
band_class code =
    if code == 0 then codes "idle" else if code == 32768 then codes "well"
    else if nat_le 49152 code then codes "error" else []

-- what of words has room in a width: all of them, their first four letters, or nothing
abbrev pub room_in : (words : List ℕ) → (width : ℕ) → List ℕ
room_in words width =
    if nat_le (length words) ((width - 6) / 6) then words
    else if nat_le 4 ((width - 6) / 6) && nat_le 4 (length words) then take 4 words else []

-- the box of a code in scans side by side, which has its words as its title
abbrev pub bar_pieces : (row : ℕ) → Span → (words : List ℕ) → List Piece
bar_pieces row s words =
    Begin Rect ∷ class_pieces (band_class s.value)
    ++ Attribute X (decimal s.x) ∷ Attribute Y (decimal (row_top row + 3)) ∷ Attribute Width (decimal (s.end - s.x))
    ∷ Attribute Height (decimal 18) ∷ Inside ∷ element Title words ++ End Rect ∷ []

-- words in a box, where some have room
abbrev pub shown_pieces : (x y : ℕ) → (words : List ℕ) → List Piece
shown_pieces x y [] = []
shown_pieces x y (c ∷ cs) = words_pieces [] x y (c ∷ cs)

-- a band of a code in scans side by side
abbrev pub band_pieces : (row : ℕ) → Span → (words : List ℕ) → List Piece
band_pieces row s words =
    bar_pieces row s words
    ++ shown_pieces (min (s.x + 4) 4294967295) (row_top row + 16) (room_in words (s.end - s.x))
