-- What a picture is drawn on: its frame, the lines of its scans and names, and the times below them.
use Rattle.std.specs.Prelude.{ℕ, ◌+◌, ◌-◌, ◌==◌, List, [], ◌∷◌, ◌++◌, Option, Some, None, codes, decimal, if◌then◌else◌}
use Rattle.std.specs.Prelude.{length, min, slice_get}
use Rattle.std.specs.List.{flat_map}
use Rattle.ps_bench_names.specs.declared.name.Name.{Name}
use Rattle.ps_bench_names.specs.declared.name.Name.TheVariants.{Code, Pin, Signal}
use Rattle.ps_bench_report.specs.Picture.{base_text, path_pieces, room_in, upright_text, words_pieces}
use Rattle.ps_bench_report.specs.declared.drawing.Lane.{Lane}
use Rattle.ps_bench_report.specs.declared.names.Key.TheVariants.{Height, Id, LabelledBy, Role, ViewBox, Width}
use Rattle.ps_bench_report.specs.declared.names.Tag.TheVariants.{Svg, Title}
use Rattle.ps_bench_report.specs.declared.page.Piece.{Piece}
use Rattle.ps_bench_report.specs.declared.page.Piece.TheVariants.{Attribute, Begin, End, Inside, Value}
use Rattle.ps_bench_report.specs.declared.picture.TheConstants.{LEFT}
use Rattle.ps_bench_report.specs.declared.scale.Scan.{Scan}

-- an upright line at the beginning of each scan
abbrev pub ticks_text : (bottom : ℕ) → List Scan → List ℕ
ticks_text bottom scans = flat_map (λ (s : Scan). upright_text s.x 30 bottom) scans

-- the right side of a scan, if there is one
abbrev pub side_of : Option Scan → ℕ
side_of None = LEFT
side_of (Some s) = s.end

-- the last one of scans
abbrev pub last_of : List Scan → Option Scan
last_of scans = slice_get scans (length scans - 1)

-- the line of FALSE below that of a signal or a pin, up to a right side
abbrev pub base_of : (row end : ℕ) → Name → List ℕ
base_of row end (Code i) = []
base_of row end (Signal s) = base_text row end
base_of row end (Pin i j) = base_text row end

-- the same of each name that is drawn
abbrev pub bases_text : (end : ℕ) → List Lane → List ℕ
bases_text end lanes = flat_map (λ (l : Lane). base_of l.row end l.name) lanes

-- the sign of a break at the end of a scan that would be wider to scale
abbrev pub break_text : (bottom : ℕ) → Scan → List ℕ
break_text bottom s =
    if s.is_broken
    then codes "M" ++ decimal (s.end - 20) ++ codes " " ++ decimal (min (bottom + 4) 4294967295)
    ++ codes "l4 -9m4 0l-4 9"
    else []

-- the time of a scan, where it has room
abbrev pub time_pieces : (y : ℕ) → Scan → List Piece
time_pieces y s =
    if length (room_in (decimal s.moment.now.now) (min (s.end - s.x + 6) 4294967295))
    == length (decimal s.moment.now.now)
    then words_pieces (codes "time") s.x y (decimal s.moment.now.now) else []

-- what stands below the lines of a picture, and what they are drawn on
abbrev pub ground_pieces : List Lane → List Scan → (bottom : ℕ) → List Piece
ground_pieces lanes scans bottom =
    path_pieces (codes "tick") (ticks_text bottom scans)
    ++ path_pieces (codes "base") (bases_text (side_of (last_of scans)) lanes)
    ++ path_pieces (codes "break") (flat_map (break_text bottom) scans)
    ++ words_pieces (codes "name") 132 26 (codes "expected at")
    ++ words_pieces (codes "name") 132 (min (bottom + 14) 4294967295) (codes "time in ms")
    ++ flat_map (time_pieces (min (bottom + 14) 4294967295)) scans

-- the beginning of a picture of a height: what it is called within the page, and the part of it that is seen
abbrev pub frame_pieces : (height : ℕ) → (id view : List ℕ) → List Piece
frame_pieces height id view =
    Begin Svg ∷ Attribute Role (codes "img") ∷ Attribute LabelledBy id ∷ Attribute Width (decimal 690)
    ∷ Attribute Height (decimal height) ∷ Attribute ViewBox view ∷ Inside ∷ []

-- what a picture shows, in words: its first time and its last one
abbrev pub caption_of_times : (id first last : List ℕ) → List Piece
caption_of_times id first last =
    Begin Title ∷ Attribute Id id ∷ Inside ∷ Value (codes "Timing diagram from ") ∷ Value first
    ∷ Value (codes " ms to ") ∷ Value last ∷ Value (codes " ms; the table below it says the same") ∷ End Title ∷ []

-- the time of a scan in ms, if there is one
abbrev pub time_of : Option Scan → ℕ
time_of None = 0
time_of (Some s) = s.moment.now.now

-- what a picture is called within the page, by its number among those of the case
abbrev pub called : (id : List ℕ) → (number : ℕ) → List ℕ
called id number = id ++ codes "-" ++ decimal number

-- what stands in a picture of a height before its scans and lines
abbrev pub front_of : (id : List ℕ) → (number height : ℕ) → List Lane → List Scan → List Piece
front_of id number height lanes scans =
    frame_pieces height (called id number) (codes "0 0 " ++ decimal 690 ++ codes " " ++ decimal height)
    ++ caption_of_times (called id number) (decimal (time_of (slice_get scans 0))) (decimal (time_of (last_of scans)))
    ++ ground_pieces lanes scans (height - 18)
