-- Channel B (profile): its Begin, one turn, and the report of its cells, for any code and any cells, as the bytes are
-- stored.
use Rattle.std.specs.Prelude.{ℕ, ◌+◌, ◌-◌, Bool, List, map, Result, Ok, Err, Option, bit_and, bit_or}
use Rattle.ps_model.specs.declared.report.Report.{Report}
use Rattle.ps_model.specs.declared.sizes.Sizes.{Sizes}
use Rattle.ps_machine.specs.Bytes.{bit, replaced}
use Rattle.ps_machine.specs.Reporting.{report_in}
use Rattle.ps_eqvm.specs.Plain.{Plain, complement, laid_out, parsed}
use Rattle.ps_eqvm.specs.Rows.{EquationRow, last_row, set_row, all_row, any_row, block_row, operand_of, size_of}
use Rattle.ps_eqvm.specs.Rows.{fetched}
use Rattle.ps_eqvm.specs.Acting.{trapped, after_last, byte_of, target_of, after_set, after_join, after_block}
use Rattle.ps_eqvm.specs.declared.layout.TheConstants.{SIGNALS_AT, WORK_CELLS}
use Rattle.ps_eqvm.specs.declared.trap.Trap.{Trap}

-- the plain cells after a row, with so many signals and instances
abbrev pub after_row : (signals instances : ℕ) → EquationRow → (next : ℕ) → Plain → Plain
after_row signals instances last_row next p = after_last next p
after_row signals instances (set_row t c) next p = after_set (target_of (operand_of signals t)) (byte_of p.cells (operand_of signals c)) next p
after_row signals instances (all_row t c) next p = after_join bit_and (target_of (operand_of signals t)) (byte_of p.cells (operand_of signals c)) next p
after_row signals instances (any_row t c) next p = after_join bit_or (target_of (operand_of signals t)) (byte_of p.cells (operand_of signals c)) next p
after_row signals instances (block_row i k o limit pins) next p = after_block signals instances i k o limit pins next p

-- what was fetched is carried out: a row, or a trap
abbrev pub carried_out : (signals instances : ℕ) → Result EquationRow Trap → Plain → Plain
carried_out signals instances (Ok row) p = after_row signals instances row (p.offset + size_of row) p
carried_out signals instances (Err trap) p = trapped trap p

-- the plain cells after one turn, which does the row at the offset
abbrev pub turn_plain : (signals instances : ℕ) → List ℕ → Plain → Plain
turn_plain signals instances code p = carried_out signals instances (fetched code p.offset) p

-- the plain cells after the Begin of a scan: offset and progress are 0, the time passed is that since the last scan,
-- and the inputs have their values
abbrev pub begin_plain : (now : ℕ) (ins : List Bool) → Plain → Plain
begin_plain now ins p = record p { offset = 0; progress = 0; last = now; passed = now - p.last; cells = replaced p.cells WORK_CELLS (map bit ins) }

-- the cells after one turn, as they are stored
abbrev pub turn_b : Sizes → (code cells : List ℕ) → List ℕ
turn_b sizes code cells = laid_out (turn_plain sizes.signals sizes.instances code (parsed sizes.signals cells))

-- the cells after the Begin of a scan, as they are stored
abbrev pub begin_b : Sizes → (now : ℕ) (ins : List Bool) → (cells : List ℕ) → List ℕ
begin_b sizes now ins cells = laid_out (begin_plain now ins (parsed sizes.signals cells))

-- the report that the cells hold, or none where the plain byte of an output, a Ready or an Error is neither 0 nor 1
abbrev pub report_b : Sizes → (cells : List ℕ) → Option Report
report_b sizes cells = report_in sizes SIGNALS_AT (complement cells)
