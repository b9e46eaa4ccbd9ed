-- Which ways and states a step of a block is of.
use Rattle.std.specs.Prelude.{◌-◌, ℕ, Bool, false, Option, Some, None, ◌&&◌, ◌==◌, not, length, nat_lt, slice_get}
use Rattle.std.specs.Prelude.{if◌then◌else◌}
use Rattle.ps_model.specs.Blocks.{block}
use Rattle.ps_model.specs.Table.{Conditions, row_at}
use Rattle.ps_model.specs.declared.kind.Kind.{Kind}
use Rattle.ps_ways.specs.Tables.{ways_of}
use Rattle.ps_ways.specs.Ways.{first_rule}
use Rattle.ps_ways.specs.declared.way.Way.{Way}

-- The number of the guard by which a step leaves state q, from 1 on, and 0 where none does: where Activate is FALSE, in
-- Idle, and where no guard holds.
abbrev pub number_taken : Kind → (q : ℕ) → Conditions → ℕ
number_taken kind q c = if c.pin 0 && not (q == 0) then first_rule 1 (row_at (block kind).rows q).rules c else 0

-- it is so of a way, where there is one
abbrev pub of_way : (Way → Bool) → Option Way → Bool
of_way is None = false
of_way is (Some w) = is w

-- a step makes a mark: it takes this way, or enters the state that the way leaves
abbrev pub made : Kind → (from number to mark : ℕ) → Bool
made kind q n q' mark =
    if nat_lt mark (length (ways_of kind))
    then of_way (λ (w : Way). w.state == q && w.number == n) (slice_get (ways_of kind) mark)
    else of_way (λ (w : Way). w.state == q') (slice_get (ways_of kind) (mark - length (ways_of kind)))
