-- Channel A as a machine.
use Rattle.std.specs.Prelude.{ℕ, ◌+◌, ◌*◌, List, replicate}
use Rattle.ps_model.specs.declared.sizes.Sizes.{Sizes}
use Rattle.ps_machine.specs.Machines.{Workings, Machine, machine_of}
use Rattle.ps_machine.specs.Progressing.{progress_said}
use Rattle.ps_stackvm.specs.declared.layout.TheConstants.{SIGNALS_AT, INSTANCE_SIZE}
use Rattle.ps_stackvm.specs.Cells.{progress_of}
use Rattle.ps_stackvm.specs.Turn.{turn_a, begin_a, report_a}

-- the cells at the start: all 0, of the length that the sizes give
abbrev pub blank_a : Sizes → List ℕ
blank_a sizes = replicate (SIGNALS_AT + sizes.signals + INSTANCE_SIZE * sizes.instances) 0

-- how channel A's cells change and what they say, for an application of these sizes
abbrev pub workings_a : Sizes → Workings
workings_a sizes = record {
  begin = begin_a;
  turn = turn_a sizes;
  progress = λ cells. progress_said (progress_of cells);
  report = report_a sizes;
  blank = blank_a sizes;
}

-- channel A as a machine, with this code and this budget of turns
abbrev pub machine_a : Sizes → (image : List ℕ) → (budget : ℕ) → Machine
machine_a sizes image budget = machine_of (workings_a sizes) image budget
