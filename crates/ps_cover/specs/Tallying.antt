-- How many points were shown, of a sort, and of one step or of all.
use Rattle.std.specs.Prelude.{ℕ, Bool, true, false, List, Option, Some, None, ◌&&◌, ◌==◌, ◌*◌, ◌/◌, count_by, length}
use Rattle.std.specs.Prelude.{nat_lt, not, slice_get, slice_index_or, if◌then◌else◌}
use Rattle.std.specs.List.{range_with_len}
use Rattle.ps_model.specs.Action.{Action, assigns, calls}
use Rattle.ps_model.specs.Network.{Network, kind_at}
use Rattle.ps_model.specs.declared.kind.Kind.{Kind}
use Rattle.ps_model.specs.declared.kind.Kind.TheVariants.{Equivalent}
use Rattle.ps_ways.specs.Tables.{ways_of}
use Rattle.ps_cover.specs.Covering.{point_of}
use Rattle.ps_cover.specs.Points as points
use Rattle.ps_cover.specs.declared.cover.Cover.{Cover}
use Rattle.ps_cover.specs.declared.excluding.Row.{Row}
use Rattle.ps_cover.specs.declared.point.Point.{Point}
use Rattle.ps_cover.specs.declared.tallying.Sort.{Sort}
use Rattle.ps_cover.specs.declared.tallying.Sort.TheVariants.{States, Ways, Values, Decisions}
use Rattle.ps_cover.specs.declared.tallying.Status.{Status}
use Rattle.ps_cover.specs.declared.tallying.Status.TheVariants.{Covered, Missed, Excluded, Counted}

-- the kind of the block that a step calls; of one that assigns nothing is asked
abbrev pub called_kind : Network → Option Action → Kind
called_kind net (Some (calls i args)) = kind_at net i
called_kind net (Some (assigns t e)) = Equivalent
called_kind net None = Equivalent

-- a mark is a way that is taken; the others are states that are entered
abbrev pub is_way_mark : Network → (step mark : ℕ) → Bool
is_way_mark net k mark = nat_lt mark (length (ways_of (called_kind net (slice_get net.steps k))))

-- a point is of a sort
abbrev pub is_of : Network → Sort → points.Point → Bool
is_of net States (points.marks k mark) = not (is_way_mark net k mark)
is_of net States (points.has s) = false
is_of net States (points.decision o) = false
is_of net Ways (points.marks k mark) = is_way_mark net k mark
is_of net Ways (points.has s) = false
is_of net Ways (points.decision o) = false
is_of net Values (points.marks k mark) = false
is_of net Values (points.has s) = true
is_of net Values (points.decision o) = false
is_of net Decisions (points.marks k mark) = false
is_of net Decisions (points.has s) = false
is_of net Decisions (points.decision o) = true

-- a point is of a step, where one is asked for
abbrev pub is_in : Option ℕ → points.Point → Bool
is_in None p = true
is_in (Some k) (points.marks j mark) = j == k
is_in (Some k) (points.has s) = false
is_in (Some k) (points.decision o) = o.step == k

-- a bit of a row, where there is one
abbrev pub row_bit : Option Row → (mark : ℕ) → Bool
row_bit None mark = false
row_bit (Some r) mark = slice_index_or r.marks.items mark false

-- a point is a mark that is excluded
abbrev pub excluded_in : List Row → points.Point → Bool
excluded_in rows (points.marks k mark) = row_bit (slice_get rows k) mark
excluded_in rows (points.has s) = false
excluded_in rows (points.decision o) = false

-- a point that is or is not excluded, and was or was not shown with both values, has this status
abbrev pub has_status : Status → (excluded shown : Bool) → Bool
has_status Excluded excluded shown = excluded
has_status Covered excluded shown = not excluded && shown
has_status Missed excluded shown = not excluded && not shown
has_status Counted excluded shown = not excluded

-- the point with this number was shown with both values
abbrev pub shown_at : Cover → (n : ℕ) → Bool
shown_at c n = slice_index_or c.off.items n false && slice_index_or c.on.items n false

-- the point with this number was shown with value b
abbrev pub seen_with : Cover → (b : Bool) → (n : ℕ) → Bool
seen_with c true n = slice_index_or c.on.items n false
seen_with c false n = slice_index_or c.off.items n false

-- a point counts: it is of the sort and of the step, and has the status
abbrev pub counts : Network → List Row → Sort → Option ℕ → Status → points.Point → (shown : Bool) → Bool
counts net rows sort step status p shown =
    is_of net sort p && is_in step p && has_status status (excluded_in rows p) shown

-- so it is of the point with this number
abbrev pub counts_at : Network → List Row → Sort → Option ℕ → Status → (shown : Bool) → Option Point → Bool
counts_at net rows sort step status shown None = false
counts_at net rows sort step status shown (Some p) = counts net rows sort step status (point_of p) shown

-- how many points count
abbrev pub tally : Network → List Row → Cover → Sort → Option ℕ → Status → ℕ
tally net rows c sort step status =
    count_by (λ n. counts_at net rows sort step status (shown_at c n) (slice_get c.points.items n))
    (range_with_len 0 (length c.points.items))

-- a part of a whole in percent, rounded down, and 100 where the whole is nothing
abbrev pub percent : (covered all : ℕ) → ℕ
percent covered all = if all == 0 then 100 else (100 * covered) / all

-- the part of the points of a sort that are not excluded that was shown, in percent
abbrev pub percent_of : Network → List Row → Cover → Sort → ℕ
percent_of net rows c sort = percent (tally net rows c sort None Covered) (tally net rows c sort None Counted)
