-- The timing diagram of a case: what is drawn of its scans.
use Rattle.std.specs.Prelude.{ℕ, Bool, true, ◌==◌, List, [], ◌∷◌, ◌++◌, codes, decimal, if◌then◌else◌}
use Rattle.std.specs.Prelude.{filter, map, slice_index_or}
use Rattle.std.specs.List.{flat_map, list_any}
use Rattle.ps_text.specs.Lanes.{merged}
use Rattle.ps_text.specs.declared.lanes.Span.{Span}
use Rattle.ps_bench_report.specs.Picture.{band_pieces, level_pieces, name_pieces, path_pieces, upright_text, words_pieces}
use Rattle.ps_bench_report.specs.Pieces.{element, marked}
use Rattle.ps_bench_report.specs.declared.names.Key.TheVariants.{Scope}
use Rattle.ps_bench_report.specs.declared.names.Tag.TheVariants.{Td, Th, Tr}
use Rattle.ps_bench_report.specs.declared.page.Piece.{Piece}
use Rattle.ps_bench_report.specs.declared.page.Piece.TheVariants.{Begin, End, Inside}
use Rattle.ps_model.specs.Network.{Network}
use Rattle.ps_bench_report.specs.declared.drawing.Lane.{Lane}
use Rattle.ps_bench_report.specs.declared.marks.Mark.{Mark}
use Rattle.ps_bench_report.specs.declared.recording.Course.{Course}
use Rattle.ps_bench_report.specs.declared.recording.Course.TheVariants.{Down, Runs, Trips}
use Rattle.ps_bench_report.specs.declared.recording.Moment.{Moment}
use Rattle.ps_bench_report.specs.declared.scale.Scan.{Scan}
use Rattle.ps_bench_names.specs.declared.name.Name.{Name}
use Rattle.ps_bench_names.specs.declared.name.Name.TheVariants.{Code, Pin, Signal}
use Rattle.ps_bench_test.specs.Naming.{name_text, value_text}

-- the value of the name of this number in a scan
abbrev pub value_at : Moment → (number : ℕ) → ℕ
value_at m number = slice_index_or m.values.items number 0

-- the same at the place of the scan in a picture
abbrev pub span_of : (number : ℕ) → Scan → Span
span_of number s = record { value = value_at s.moment.now number; x = s.x; end = s.end }

-- a band of an instance: its code, with the words of the state
abbrev pub band_of : Network → Lane → Span → List Piece
band_of net lane s = band_pieces lane.row s (value_text net lane.name s.value)

-- the values of a name: of an instance a band for each state, of a signal or a pin a line that is high for TRUE
abbrev pub values_of : Network → Lane → List Span → Name → List Piece
values_of net lane spans (Code i) = flat_map (band_of net lane) (merged spans)
values_of net lane spans (Signal s) = level_pieces lane.row spans
values_of net lane spans (Pin i j) = level_pieces lane.row spans

-- the line of a name over scans: the name, and its values in these scans
abbrev pub lane_pieces : Network → List Scan → Lane → List Piece
lane_pieces net scans lane =
    name_pieces lane.row (name_text net lane.name) ++ values_of net lane (map (span_of lane.number) scans) lane.name

-- an upright line with its class
abbrev pub upright_pieces : (class : List ℕ) → (x bottom : ℕ) → List Piece
upright_pieces class x bottom = path_pieces class (upright_text x 30 bottom)

-- what happens to the world at a scan that goes on so
abbrev pub event_in : Course → (restarted : Bool) → List ℕ
event_in Trips restarted = codes "TRIP"
event_in Down restarted = codes "down"
event_in Runs restarted = if restarted then codes "restart" else []

-- what happens to the world at a scan
abbrev pub event_of : Moment → List ℕ
event_of m = event_in m.course m.restarted

-- whether a scan is the first one after a restart, or trips
abbrev pub is_turn : Course → (restarted : Bool) → Bool
is_turn Trips restarted = true
is_turn Down restarted = restarted
is_turn Runs restarted = restarted

-- words of a class above the lines, where there are any
abbrev pub above_pieces : (class : List ℕ) → (x y : ℕ) → (words : List ℕ) → List Piece
above_pieces class x y [] = []
above_pieces class x y (c ∷ cs) = words_pieces class x y (c ∷ cs)

-- what stands above a scan of what happens to the world
abbrev pub event_pieces : (bottom : ℕ) → Scan → List Piece
event_pieces bottom s =
    above_pieces (codes "happens") s.x 12 (event_of s.moment.now)
    ++ (if is_turn s.moment.now.course s.moment.now.restarted then upright_pieces (codes "event") s.x bottom else [])

-- the expectations of a scan
abbrev pub marks_at : (scan : ℕ) → List Mark → List Mark
marks_at scan marks = filter (λ (m : Mark). m.scan == scan) marks

-- an expectation by its line, and whether it failed
abbrev pub mark_text : Mark → List ℕ
mark_text m = decimal m.line ++ (if m.failed then codes " FAIL" else [])

-- the same after another expectation
abbrev pub further_text : Mark → List ℕ
further_text m = codes ", " ++ mark_text m

-- expectations by their lines, as `line 23, 25 FAIL`
abbrev pub marks_text : List Mark → List ℕ
marks_text [] = []
marks_text (m ∷ ms) = codes "line " ++ mark_text m ++ flat_map further_text ms

-- whether one of some expectations failed
abbrev pub fails : List Mark → Bool
fails ms = list_any (λ (m : Mark). m.failed) ms

-- how expectations look: as one that failed, where one of them did
abbrev pub marks_class : List Mark → List ℕ
marks_class ms = if fails ms then codes "fail" else codes "pass"

-- what stands above a scan of which something is expected, and nothing else
abbrev pub expected_pieces : (bottom x : ℕ) → List Mark → List Piece
expected_pieces bottom x [] = []
expected_pieces bottom x (m ∷ ms) =
    upright_pieces (codes "mark") x bottom ++ words_pieces (marks_class (m ∷ ms)) x 26 (marks_text (m ∷ ms))

-- what stands above a scan: what happens to the world, and what is expected of it
abbrev pub scan_pieces : (bottom : ℕ) → List Mark → Scan → List Piece
scan_pieces bottom marks s =
    event_pieces bottom s ++ expected_pieces bottom s.x (marks_at s.moment.now.scan marks)

-- the scans that a picture shows
abbrev pub shown_in : List Scan → List Moment
shown_in scans = map (λ (s : Scan). s.moment.now) scans

-- a row of the table of changes: a time, what changes, and what is expected
abbrev pub change_row : (time changes expected : List ℕ) → List Piece
change_row time changes expected =
    (Begin Tr ∷ Inside ∷ []) ++ marked Th Scope (codes "row") time ++ element Td changes ++ element Td expected
    ++ End Tr ∷ []
