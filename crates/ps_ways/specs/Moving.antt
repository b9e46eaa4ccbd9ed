-- A step of a block, as the code keeps it.
use Rattle.std.specs.Prelude.{ℕ, ◌-◌, Bool, ◌==◌}
use Rattle.ps_model.specs.Kept.{Kept, counted_down, seen}
use Rattle.ps_model.specs.declared.kind.Kind.{Kind}
use Rattle.ps_rows.specs.Counted.{kept_of}
use Rattle.ps_rows.specs.declared.step.CountedBlock.{CountedBlock}
use Rattle.ps_ways.specs.Marks.{number_taken}
use Rattle.ps_ways.specs.declared.moving.Moved.{Moved}

-- a block of which this is kept
abbrev pub counted_of : Kept → CountedBlock
counted_of k = record {
  code = k.code;
  last_reset = k.last_reset;
  last_auxiliary = k.last_auxiliary;
  mode = k.mode;
  remains = k.timer;
}

-- The step of a block with these pins, with the guard by which it left its state.
abbrev pub moved_by : Kind → (limit : ℕ) → (ℕ → Bool) → (passed : ℕ) → CountedBlock → Moved
moved_by kind limit pins passed b = record {
  from = b.code;
  number = number_taken kind b.code (seen kind pins (b.remains - passed == 0) (kept_of b));
  block = counted_of (counted_down kind limit pins passed (kept_of b));
}
