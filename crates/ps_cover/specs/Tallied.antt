-- What the counts say of the scans of several traces.
use Rattle.std.specs.Prelude.{◌≡◌, ℕ, false, List, [], ◌∷◌, ◌++◌, Option, Some, count_by, length, map, slice_get}
use Rattle.std.specs.Prelude.{slice_index_or}
use Rattle.std.specs.List.{flat_map}
use Rattle.ps_model.specs.Network.{Network}
use Rattle.ps_cover.specs.Applying.{ScanStep}
use Rattle.ps_cover.specs.Covering.{point_of}
use Rattle.ps_cover.specs.Covers.{BeginsAnew, Joins, Knows}
use Rattle.ps_cover.specs.Listing.{points_of}
use Rattle.ps_cover.specs.Shown.{is_covered}
use Rattle.ps_cover.specs.Tallying.{counts, shown_at, tally}
use Rattle.ps_cover.specs.declared.cover.Cover.{Cover}
use Rattle.ps_cover.specs.declared.excluding.Row.{Row}
use Rattle.ps_cover.specs.declared.point.Point.{Point}
use Rattle.ps_cover.specs.declared.tallying.Sort.{Sort}
use Rattle.ps_cover.specs.declared.tallying.Status.{Status}

-- nothing was shown so far
pub record IsUnseen (c : Cover) : Type 0 where
  pub off : (n : ℕ) → slice_index_or c.off.items n false ≡ false
  pub on : (n : ℕ) → slice_index_or c.on.items n false ≡ false

-- of each point it is known whether it was shown before some traces or by a scan of one of them
abbrev pub KnowsTraces : Network → List (List ScanStep) → (old new : Cover) → Type 0
KnowsTraces net traces old new = Knows net (flat_map (λ steps. steps) traces) old new

-- What is known after some traces, and after one more, before which all began anew, is known after them all.
abbrev pub TracesAddUp : Type 0
TracesAddUp = (net : Network) (traces : List (List ScanStep)) (more : List ScanStep) (old behind begun new : Cover) →
    KnowsTraces net traces old behind → BeginsAnew behind begun → Knows net more begun new →
    KnowsTraces net (traces ++ more ∷ []) old new

-- a cover knows of all points of an application
pub record IsWhole (net : Network) (c : Cover) : Type 0 where
  pub points : map point_of c.points.items ≡ points_of net
  pub off_each : length c.off.items ≡ length c.points.items
  pub on_each : length c.on.items ≡ length c.points.items

-- What is known after some traces, to which is added what one more shows to a cover of its own that had seen nothing,
-- is known after them all.
abbrev pub JoinsAddUp : Type 0
JoinsAddUp = (net : Network) (traces : List (List ScanStep)) (more : List ScanStep) (old behind begun other new : Cover) →
    IsWhole net old → KnowsTraces net traces old behind → IsWhole net begun → IsUnseen begun →
    Knows net more begun other → Joins behind other new → KnowsTraces net (traces ++ more ∷ []) old new

-- After some traces a point was shown exactly where its definition says so.
abbrev pub CoveredIsDefined : Type 0
CoveredIsDefined = (net : Network) (traces : List (List ScanStep)) (old new : Cover) →
    IsUnseen old → KnowsTraces net traces old new →
    (n : ℕ) (p : Point) → slice_get old.points.items n ≡ Some p → shown_at new n ≡ is_covered net traces (point_of p)

-- Each count is that of the points of which their definitions say so.
abbrev pub CountsAreDefined : Type 0
CountsAreDefined = (net : Network) (rows : List Row) (traces : List (List ScanStep)) (old new : Cover)
    (sort : Sort) (step : Option ℕ) (status : Status) →
    IsUnseen old → KnowsTraces net traces old new →
    tally net rows new sort step status
    ≡ count_by (λ q. counts net rows sort step status q (is_covered net traces q)) (map point_of new.points.items)
