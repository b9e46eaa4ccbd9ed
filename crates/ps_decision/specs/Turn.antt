-- Channel C (profile): its Begin, one turn, and the report of its cells, for any code and any cells.
use Rattle.std.specs.Prelude.{ℕ, ◌+◌, Bool, List, map, replicate, Result, Ok, Err, Option}
use Rattle.std.specs.Int.{w32, to_be_bytes}
use Rattle.ps_model.specs.declared.report.Report.{Report}
use Rattle.ps_model.specs.declared.sizes.Sizes.{Sizes}
use Rattle.ps_machine.specs.Bytes.{bit, replaced}
use Rattle.ps_machine.specs.Reporting.{report_in}
use Rattle.ps_stackvm.specs.declared.trap.Trap.{Trap}
use Rattle.ps_decision.specs.declared.row.Row.{Row}
use Rattle.ps_decision.specs.declared.row.Row.TheVariants.{Decide, Set, Call, End}
use Rattle.ps_decision.specs.declared.layout.TheConstants.{TIME_AT, SIGNALS_AT}
use Rattle.ps_decision.specs.Cells.{offset_of, trapped}
use Rattle.ps_decision.specs.Rows.{size_of, fetched}
use Rattle.ps_decision.specs.Acting.{after_decide, after_set, after_end}
use Rattle.ps_decision.specs.Calling.{after_call}

-- the cells after a row that ends at a place, with so many signals and instances
abbrev pub after : (signals instances : ℕ) → Row → (behind : ℕ) → List ℕ → List ℕ
after signals instances (Decide operand yes_at no_at) behind cells = after_decide signals operand yes_at no_at cells
after signals instances (Set target byte next) behind cells = after_set signals target byte next cells
after signals instances (Call instance kind first limit) behind cells = after_call signals instances instance kind first limit behind cells
after signals instances End behind cells = after_end cells

-- what was fetched is carried out: a row, or a trap
abbrev pub carried_out : (signals instances : ℕ) → Result Row Trap → List ℕ → List ℕ
carried_out signals instances (Ok row) cells = after signals instances row (offset_of cells + size_of row) cells
carried_out signals instances (Err trap) cells = trapped trap cells

-- the cells after one turn, which reads its row from the code, with so many signals and instances
abbrev pub turn_of : (signals instances : ℕ) → (code cells : List ℕ) → List ℕ
turn_of signals instances code cells = carried_out signals instances (fetched code (offset_of cells)) cells

-- the same for an application of these sizes
abbrev pub turn_c : Sizes → (code cells : List ℕ) → List ℕ
turn_c sizes code cells = turn_of sizes.signals sizes.instances code cells

-- the cells after the Begin of a scan: offset and progress are 0, the time is the scan's, and the inputs have their
-- values
abbrev pub begin_c : (now : ℕ) (ins : List Bool) → List ℕ → List ℕ
begin_c now ins cells = replaced (replaced (replaced cells 0 (replicate TIME_AT 0)) TIME_AT (to_be_bytes w32 now)) SIGNALS_AT (map bit ins)

-- the report that the cells hold, or none where an output, Ready or Error byte is neither 0 nor 1
abbrev pub report_c : Sizes → List ℕ → Option Report
report_c sizes cells = report_in sizes SIGNALS_AT cells
