-- The pictures of a case: which names are drawn, and which scans each picture shows.
use Rattle.std.specs.Prelude.{◌≡◌, ℕ, suc, Bool, true, not, ◌+◌, ◌-◌, ◌*◌, ◌==◌, ◌||◌, List, [], ◌∷◌, ◌++◌, length, min, nat_le}
use Rattle.std.specs.Prelude.{codes, drop, if◌then◌else◌, map, nat_lt}
use Rattle.std.specs.List.{flat_map, list_all}
use Rattle.ps_bench_cases.specs.Meant.{whole_case}
use Rattle.ps_bench_report.specs.declared.names.Tag.TheVariants.{Figcaption, Figure, Svg}
use Rattle.ps_bench_report.specs.declared.page.Piece.{Piece}
use Rattle.ps_bench_report.specs.declared.page.Piece.TheVariants.{Begin, End, Inside, Value}
use Rattle.ps_bench_report.specs.declared.picture.TheConstants.{LANE, TOP}
use Rattle.ps_model.specs.Network.{Network}
use Rattle.ps_bench_report.specs.Changes.{changes_pieces}
use Rattle.ps_bench_report.specs.Diagram.{lane_pieces, scan_pieces, shown_in, value_at}
use Rattle.ps_bench_report.specs.Ground.{front_of}
use Rattle.ps_bench_report.specs.Scale.{side_by_side, stand_of, unit_of}
use Rattle.ps_bench_report.specs.declared.diagram.TheConstants.{FEW_NAMES}
use Rattle.ps_bench_report.specs.declared.drawing.Lane.{Lane}
use Rattle.ps_bench_report.specs.declared.scale.Scan.{Scan}
use Rattle.ps_bench_report.specs.Marks.{marks_in}
use Rattle.ps_bench_report.specs.declared.marks.Mark.{Mark}
use Rattle.ps_bench_report.specs.declared.recording.Moment.{Moment}
use Rattle.ps_bench_report.specs.declared.recording.Recording.{Recording}
use Rattle.ps_bench_names.specs.declared.name.Name.{Name}
use Rattle.ps_bench_test.specs.Outcome.{Ran}

-- ---- the names that are drawn

-- the name of a number has this value in all of these scans
abbrev pub has_value : List Moment → (number value : ℕ) → Bool
has_value moments number value = list_all (λ m. value_at m number == value) moments

-- it has the same value in all of them
abbrev pub is_constant : List Moment → (number : ℕ) → Bool
is_constant [] number = true
is_constant (m ∷ moments) number = has_value moments number (value_at m number)

-- it is drawn: all of a few are, and of many those that change
abbrev pub is_drawn : Recording → (number : ℕ) → Bool
is_drawn r number = nat_le (length r.names.items) FEW_NAMES || not (is_constant r.moments.items number)

-- one more name below others
abbrev pub with_lane : List Lane → Name → (number : ℕ) → List Lane
with_lane lanes name number = lanes ++ record { name = name; number = number; row = min (length lanes) 65535 } ∷ []

-- those of these names, of which the first has this number, that are drawn, below others
abbrev pub lanes_from : Recording → List Lane → (number : ℕ) → List Name → List Lane
lanes_from r lanes number [] = lanes
lanes_from r lanes number (n ∷ names) =
    lanes_from r (if is_drawn r number then with_lane lanes n number else lanes) (suc number) names

-- the names that are drawn, each by its number
abbrev pub lanes_of : Recording → List Lane
lanes_of r = lanes_from r [] 0 r.names.items

-- ---- the pictures

-- a picture: what stands before its scans and lines, and the scans that it shows
pub record Picture : Type 0 where
  pub front : List Piece
  pub scans : List Scan

-- how high a picture of so many names is
abbrev pub height_of : (lanes : ℕ) → ℕ
height_of lanes = min lanes 1000 * LANE + TOP + 20

-- a picture: what stands above each of its scans, and the line of each name over them
abbrev pub picture_pieces : Network → List Mark → List Lane → Picture → List Piece
picture_pieces net marks lanes p =
    p.front ++ flat_map (scan_pieces (height_of (length lanes) - 18) marks) p.scans
    ++ flat_map (lane_pieces net p.scans) lanes ++ End Svg ∷ []

-- what some pictures show
abbrev pub all_shown : List Picture → List Moment
all_shown pictures = flat_map (λ (p : Picture). shown_in p.scans) pictures

-- Pictures, of which the first has this number, show these scans: each as many of those that are left as it has room
-- for, side by side, after what it is drawn on. After them these scans are left.
abbrev pub AreDrawn : (id : List ℕ) → List Mark → List Lane → (unit number : ℕ) → List Moment → List Picture →
    (left : List Moment) → Type 0
AreDrawn id marks lanes unit number moments [] left = moments ≡ left
AreDrawn id marks lanes unit number moments (p ∷ ps) left =
    (p.front ≡ front_of id (min number 1000000) (height_of (length lanes)) lanes p.scans)
    × (map stand_of p.scans ≡ side_by_side marks unit moments)
    × AreDrawn id marks lanes unit (suc number) (drop (length p.scans) moments) ps left

-- Pictures show these scans, each once and in order, and are called by this word within the page.
pub record ShowsPictures (net : Network) (id : List ℕ) (marks : List Mark) (lanes : List Lane) (moments : List Moment)
    (before after : List Piece) : Type 0 where
  pub pictures : List Picture
  pub shows : all_shown pictures ≡ moments
  pub drawn : AreDrawn id marks lanes (unit_of moments) 0 moments pictures []
  pub is : after ≡ before ++ flat_map (picture_pieces net marks lanes) pictures

-- ---- what stands below the pictures

-- what is said of names that are not drawn, if there are any
abbrev pub names_left_out : (drawn all : ℕ) → List ℕ
names_left_out drawn all = if nat_lt drawn all then codes " Of many names only those are drawn that change." else []

-- what is said of scans that are not shown, if there are any that show a change
abbrev pub scans_left_out : (is_cut : Bool) → List ℕ
scans_left_out is_cut = if is_cut then codes " Only the first 400 changes are shown." else []

-- what a picture shows of a case
abbrev pub shown_text : List ℕ
shown_text =
    codes "Inputs, outputs, instances and what is expected of others; scans in which nothing changes are left out."

-- what stands below the pictures of a recording, of which so many names are drawn
abbrev pub caption_pieces : Recording → (drawn : ℕ) → List Piece
caption_pieces r drawn =
    Begin Figcaption ∷ Inside ∷ Value shown_text ∷ Value (names_left_out drawn (length r.names.items))
    ∷ Value (scans_left_out r.is_cut) ∷ End Figcaption ∷ End Figure ∷ []

-- What is recorded is shown by pictures of these names, with what is said of the others below them, and by a row for
-- each scan.
pub record ShowsSheet (net : Network) (id : List ℕ) (r : Recording) (marks : List Mark) (lanes : List Lane)
    (before after : List Piece) : Type 0 where
  pub pictures : List Picture
  pub shows : all_shown pictures ≡ r.moments.items
  pub drawn : AreDrawn id marks lanes (unit_of r.moments.items) 0 r.moments.items pictures []
  pub is : after ≡ before ++ (Begin Figure ∷ Inside ∷ []) ++ flat_map (picture_pieces net marks lanes) pictures
      ++ caption_pieces r (length lanes)
      ++ changes_pieces net r.names.items marks r.moments.items

-- The diagram of a case that was run, with what the case expects. Its pictures are called by this word within the page.
abbrev pub ShowsDiagram : Ran → (id : List ℕ) → Recording → (before after : List Piece) → Type 0
ShowsDiagram ran id r before after =
    ShowsSheet ran.net id r (marks_in ran.outcome.failures.items (whole_case ran.file ran.case)) (lanes_of r)
    before after
