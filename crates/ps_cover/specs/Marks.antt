-- Which ways and states a step of a block is of.
use Rattle.std.specs.Prelude.{◌-◌, ℕ, Bool, ◌&&◌, ◌==◌, length, nat_lt, slice_get}
use Rattle.std.specs.Prelude.{if◌then◌else◌}
use Rattle.ps_ways.specs.Marks.{number_taken, of_way}
use Rattle.ps_model.specs.Blocks.{next}
use Rattle.ps_model.specs.Table.{Conditions}
use Rattle.ps_model.specs.declared.kind.Kind.{Kind}
use Rattle.ps_ways.specs.Tables.{ways_of}
use Rattle.ps_ways.specs.declared.way.Way.{Way}

-- a step from state q takes this way: the state is the way's, and so is the guard
abbrev pub takes : Kind → (q : ℕ) → Conditions → Way → Bool
takes kind q c w = w.state == q && w.number == number_taken kind q c

-- after a step from state q the block is in the state that this way leaves
abbrev pub enters : Kind → (q : ℕ) → Conditions → Way → Bool
enters kind q c w = w.state == next kind q c

-- The marks of a step under these conditions, by number: for each way of the kind, in order, whether it is taken, and
-- after these, for each way, whether the state that it leaves is entered.
abbrev pub marked : Kind → (q : ℕ) → Conditions → (mark : ℕ) → Bool
marked kind q c mark =
    if nat_lt mark (length (ways_of kind)) then of_way (takes kind q c) (slice_get (ways_of kind) mark)
    else of_way (enters kind q c) (slice_get (ways_of kind) (mark - length (ways_of kind)))
