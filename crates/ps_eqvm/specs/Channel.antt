-- Channel B as a machine, and what is read of its cells as they are stored. Profile.
use Rattle.std.specs.Prelude.{ℕ, ◌+◌, ◌-◌, ◌*◌, List, map, take, drop, replicate, slice_index}
use Rattle.ps_model.specs.declared.sizes.Sizes.{Sizes}
use Rattle.ps_machine.specs.Machines.{Machine, Workings, machine_of}
use Rattle.ps_machine.specs.Progressing.{progress_said}
use Rattle.ps_eqvm.specs.Turn.{turn_b, begin_b, report_b}
use Rattle.ps_eqvm.specs.declared.layout.TheConstants.{INSTANCE_SIZE, PROGRESS_AT, SIGNALS_AT, WORK_AT, WORK_CELLS}

-- the cells at the start: each of plain value 0, of the length that the sizes give
abbrev pub blank_b : Sizes → List ℕ
blank_b sizes = replicate (SIGNALS_AT + sizes.signals + INSTANCE_SIZE * sizes.instances) 255

-- the plain value of a byte of the cells
abbrev pub plain_byte : List ℕ → ℕ → ℕ
plain_byte cells at = 255 - slice_index cells at

-- the progress of the scan
abbrev pub progress_of : List ℕ → ℕ
progress_of cells = plain_byte cells PROGRESS_AT

-- how the cells of channel B change and what they say, for an application of these sizes
abbrev pub workings_b : Sizes → Workings
workings_b sizes = record {
  begin = begin_b sizes;
  turn = turn_b sizes;
  progress = λ cells. progress_said (progress_of cells);
  report = report_b sizes;
  blank = blank_b sizes;
}

-- channel B for an application of these sizes, with this code and this budget of turns
abbrev pub machine_b : Sizes → (image : List ℕ) → (budget : ℕ) → Machine
machine_b sizes image budget = machine_of (workings_b sizes) image budget

-- the plain bytes of the work cells and signals, in the numbering of the words: work cell k is cell k, and signal s is
-- cell 48 + s
abbrev pub bit_cells : Sizes → List ℕ → List ℕ
bit_cells sizes cells = take (WORK_CELLS + sizes.signals) (drop WORK_AT (map (λ byte. 255 - byte) cells))
