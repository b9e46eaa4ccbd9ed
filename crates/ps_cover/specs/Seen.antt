-- What is known of what scans may show.
use Rattle.std.specs.Prelude.{ℕ, ◌&&◌, Bool, false, true, List, Option, Some, None, count_by, length, slice_get}
use Rattle.std.specs.List.{range_with_len}
use Rattle.ps_base.specs.declared.failing.Place.{Place}
use Rattle.ps_cover.specs.Applying.{ScanStep}
use Rattle.ps_model.specs.Network.{Network}
use Rattle.ps_cover.specs.Covering.{point_of}
use Rattle.ps_cover.specs.Listing.{points_of}
use Rattle.ps_cover.specs.Points.{Point}
use Rattle.ps_cover.specs.Shown.{is_shown}
use Rattle.ps_cover.specs.Tallying.{counts, percent, seen_with}
use Rattle.ps_cover.specs.declared.cover.Cover.{Cover}
use Rattle.ps_cover.specs.declared.excluding.Row.{Row}
use Rattle.ps_cover.specs.declared.point.Point as points
use Rattle.ps_cover.specs.declared.tallying.Sort.{Sort}
use Rattle.ps_cover.specs.declared.tallying.Status.{Status}
use Rattle.ps_cover.specs.declared.tallying.Status.TheVariants.{Covered, Counted}

-- A point, and whether it was shown with FALSE, and with TRUE.
pub record Seen : Type 0 where
  pub point : Point
  pub off : Bool
  pub on : Bool

-- What is known of an application: what is excluded of each step, where the operands stand in its source, how many
-- points there are, and what was seen of each.
pub record Known : Type 0 where
  pub net : Network
  pub rows : List Row
  pub places : List Place
  pub size : ℕ
  pub at : ℕ → Option Seen

-- what is kept of a point
abbrev pub kept_of : Cover → (n : ℕ) → Option points.Point → Option Seen
kept_of c n (Some p) = Some (record { point = point_of p; off = seen_with c false n; on = seen_with c true n })
kept_of c n None = None

-- what traces show of a point
abbrev pub shown_of : Network → List (List ScanStep) → Option Point → Option Seen
shown_of net traces (Some p) =
    Some (record { point = p; off = is_shown net traces false p; on = is_shown net traces true p })
shown_of net traces None = None

-- what is known by what is kept
abbrev pub known_in : Network → List Row → List Place → Cover → Known
known_in net rows places c = record {
  net = net;
  rows = rows;
  places = places;
  size = length c.points.items;
  at = λ n. kept_of c n (slice_get c.points.items n);
}

-- what traces show, each begun anew
abbrev pub known_by : Network → List Row → List Place → List (List ScanStep) → Known
known_by net rows places traces = record {
  net = net;
  rows = rows;
  places = places;
  size = length (points_of net);
  at = λ n. shown_of net traces (slice_get (points_of net) n);
}

-- a point of a sort, and of a step or of all, has a status or of all, have a status
abbrev pub does_count : Known → Sort → Option ℕ → Status → Option Seen → Bool
does_count x sort step status (Some s) = counts x.net x.rows sort step status s.point (s.off && s.on)
does_count x sort step status None = false

-- how many do
abbrev pub count_of : Known → Sort → Option ℕ → Status → ℕ
count_of x sort step status = count_by (λ n. does_count x sort step status (x.at n)) (range_with_len 0 x.size)

-- the part that was shown of those that are not excluded, in percent
abbrev pub part_of : Known → Sort → ℕ
part_of x sort = percent (count_of x sort None Covered) (count_of x sort None Counted)
