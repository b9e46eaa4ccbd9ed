-- Where scans stand in a picture: time to scale, with breaks where nothing happens for long.
use Rattle.std.specs.Prelude.{ℕ, Bool, ◌+◌, ◌*◌, ◌/◌, ◌==◌, ◌&&◌, ◌||◌, List, [], ◌∷◌, if◌then◌else◌}
use Rattle.std.specs.Prelude.{fold, max, min, nat_lt}
use Rattle.std.specs.List.{list_any}
use Rattle.ps_bench_report.specs.declared.marks.Mark.{Mark}
use Rattle.ps_bench_report.specs.declared.picture.TheConstants.{LEFT}
use Rattle.ps_bench_report.specs.declared.recording.Moment.{Moment}
use Rattle.ps_bench_report.specs.declared.scale.Scan.{Scan}
use Rattle.ps_bench_report.specs.declared.scale.TheConstants.{BREAK_WIDTH, LEAST_WIDTH, MOST_WIDTH, WORD_WIDTH}

-- the shorter one of a time and of what passes up to the scan after this one, where any time passes
abbrev pub shorter : ℕ → Moment → ℕ
shorter unit m = if nat_lt 0 m.wait && nat_lt m.wait unit then m.wait else unit

-- the shortest time between scans that are shown, in ms
abbrev pub unit_of : List Moment → ℕ
unit_of moments = fold shorter 4294967295 moments

-- whether something is expected of a scan
abbrev pub is_expected : Moment → List Mark → Bool
is_expected m marks = list_any (λ (mark : Mark). mark.scan == m.scan) marks

-- how wide a scan is to scale, and at least as wide as what stands above it
abbrev pub width_of : Moment → List Mark → (unit : ℕ) → ℕ
width_of m marks unit =
    max (min (m.wait * LEAST_WIDTH) 4294967295 / unit)
    (if m.restarted || is_expected m marks then WORD_WIDTH else LEAST_WIDTH)

-- where a scan stands: its sides, and whether it would be wider to scale
pub record Stand : Type 0 where
  pub moment : Moment
  pub x : ℕ
  pub end : ℕ
  pub is_broken : Bool

-- where a scan of a picture stands
abbrev pub stand_of : Scan → Stand
stand_of s = record { moment = s.moment.now; x = s.x; end = s.end; is_broken = s.is_broken }

-- where a scan stands that begins at a place
abbrev pub stand_at : List Mark → (unit x : ℕ) → Moment → Stand
stand_at marks unit x m = record {
  moment = m;
  x = x;
  end = min (x + min (width_of m marks unit) BREAK_WIDTH) 4294967295;
  is_broken = nat_lt BREAK_WIDTH (width_of m marks unit);
}

-- The first ones of these scans that a picture has room for beside so many others, from a place on; one at least.
abbrev pub side_from : List Mark → (unit others x : ℕ) → List Moment → List Stand
side_from marks unit others x [] = []
side_from marks unit others x (m ∷ ms) =
    if nat_lt 0 others && nat_lt (LEFT + MOST_WIDTH) (stand_at marks unit x m).end then []
    else stand_at marks unit x m ∷ side_from marks unit (others + 1) (stand_at marks unit x m).end ms

-- the first ones of these scans, side by side, as many as a picture has room for
abbrev pub side_by_side : List Mark → (unit : ℕ) → List Moment → List Stand
side_by_side marks unit moments = side_from marks unit 0 LEFT moments
