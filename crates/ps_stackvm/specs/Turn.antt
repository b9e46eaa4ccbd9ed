-- Channel A (profile): its Begin, one turn, and the report of its cells, for any code and any cells.
use Rattle.std.specs.Prelude.{ℕ, ◌+◌, Bool, List, map, replicate, Result, Ok, Err, Option, bit_and, bit_or}
use Rattle.std.specs.Int.{w32, to_be_bytes}
use Rattle.ps_model.specs.declared.report.Report.{Report}
use Rattle.ps_model.specs.declared.sizes.Sizes.{Sizes}
use Rattle.ps_machine.specs.Bytes.{bit, replaced}
use Rattle.ps_machine.specs.Reporting.{report_in}
use Rattle.ps_stackvm.specs.declared.trap.Trap.{Trap}
use Rattle.ps_stackvm.specs.declared.instruction.Instruction.{Instruction}
use Rattle.ps_stackvm.specs.declared.instruction.Instruction.TheVariants.{Load, Store, Const, And, Or, Call, End}
use Rattle.ps_stackvm.specs.declared.layout.TheConstants.{TIME_AT, SIGNALS_AT}
use Rattle.ps_stackvm.specs.Cells.{pc_of, trapped}
use Rattle.ps_stackvm.specs.Instructions.{size_of, fetched}
use Rattle.ps_stackvm.specs.Stack.{after_load, after_store, after_const, after_join, after_end}
use Rattle.ps_stackvm.specs.Calling.{after_call}

-- the cells after an instruction, with so many signals and instances
abbrev pub after : (signals instances : ℕ) → Instruction → (next : ℕ) → List ℕ → List ℕ
after signals instances (Load c) next cells = after_load signals c next cells
after signals instances (Store c) next cells = after_store signals c next cells
after signals instances (Const byte) next cells = after_const byte next cells
after signals instances And next cells = after_join bit_and next cells
after signals instances Or next cells = after_join bit_or next cells
after signals instances (Call instance kind first limit) next cells = after_call signals instances instance kind first limit next cells
after signals instances End next cells = after_end next cells

-- what was fetched is carried out: an instruction, or a trap
abbrev pub carried_out : (signals instances : ℕ) → Result Instruction Trap → List ℕ → List ℕ
carried_out signals instances (Ok i) cells = after signals instances i (pc_of cells + size_of i) cells
carried_out signals instances (Err trap) cells = trapped trap cells

-- the cells after one turn, which reads its instruction from the code, with so many signals and instances
abbrev pub turn_of : (signals instances : ℕ) → (code cells : List ℕ) → List ℕ
turn_of signals instances code cells = carried_out signals instances (fetched code (pc_of cells)) cells

-- the same for an application of these sizes
abbrev pub turn_a : Sizes → (code cells : List ℕ) → List ℕ
turn_a sizes code cells = turn_of sizes.signals sizes.instances code cells

-- the cells after the Begin of a scan: pc, height and progress are 0, the time is the scan's, and the inputs have their
-- values
abbrev pub begin_a : (now : ℕ) (ins : List Bool) → List ℕ → List ℕ
begin_a now ins cells = replaced (replaced (replaced cells 0 (replicate TIME_AT 0)) TIME_AT (to_be_bytes w32 now)) SIGNALS_AT (map bit ins)

-- the report that the cells hold, or none where an output, Ready or Error byte is neither 0 nor 1
abbrev pub report_a : Sizes → List ℕ → Option Report
report_a sizes cells = report_in sizes SIGNALS_AT cells
