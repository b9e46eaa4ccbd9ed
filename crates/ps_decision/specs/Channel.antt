-- Channel C as a machine.
use Rattle.std.specs.Prelude.{ℕ, ◌+◌, ◌*◌, List, replicate}
use Rattle.ps_model.specs.declared.sizes.Sizes.{Sizes}
use Rattle.ps_machine.specs.Machines.{Workings, Machine, machine_of}
use Rattle.ps_machine.specs.Progressing.{progress_said}
use Rattle.ps_decision.specs.declared.layout.TheConstants.{SIGNALS_AT, INSTANCE_SIZE}
use Rattle.ps_decision.specs.Cells.{progress_of}
use Rattle.ps_decision.specs.Turn.{turn_c, begin_c, report_c}

-- the cells at the start: all 0, of the length that the sizes give
abbrev pub blank_c : Sizes → List ℕ
blank_c sizes = replicate (SIGNALS_AT + sizes.signals + INSTANCE_SIZE * sizes.instances) 0

-- how channel C's cells change and what they say, for an application of these sizes
abbrev pub workings_c : Sizes → Workings
workings_c sizes = record {
  begin = begin_c;
  turn = turn_c sizes;
  progress = λ cells. progress_said (progress_of cells);
  report = report_c sizes;
  blank = blank_c sizes;
}

-- channel C as a machine, with this code and this budget of turns
abbrev pub machine_c : Sizes → (image : List ℕ) → (budget : ℕ) → Machine
machine_c sizes image budget = machine_of (workings_c sizes) image budget
