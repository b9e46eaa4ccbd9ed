-- The report that plain cells hold, where the signal bytes begin at a place and the instances' bytes follow them.
use Rattle.std.specs.Prelude.{ℕ, ◌+◌, ◌-◌, ◌*◌, Bool, ◌&&◌, ◌==◌, not, if◌then◌else◌, List, map, slice_index}
use Rattle.std.specs.Prelude.{slice_index_or, Option, Some, None}
use Rattle.std.specs.List.{list_all, range_with_len}
use Rattle.ps_model.specs.declared.kind.Kind.TheVariants.{Equivalent}
use Rattle.ps_model.specs.declared.report.Diag.{Diag}
use Rattle.ps_model.specs.declared.report.Report.{Report}
use Rattle.ps_model.specs.declared.sizes.Sizes.{Sizes}
use Rattle.ps_model.specs.Blocks.{output_count}
use Rattle.ps_machine.specs.Bytes.{be2, is_no_bit}

module _ (z : Sizes) (first : ℕ) (cells : List ℕ) where
  -- the byte of signal s
  abbrev pub signal_byte : ℕ → ℕ
  signal_byte s = slice_index cells (first + s)

  -- the byte of output j
  abbrev pub output_byte : ℕ → ℕ
  output_byte j = signal_byte (z.inputs + j)

  -- the signal after the outputs of an instance: Ready and Error are the last two of them
  abbrev pub past_outputs : ℕ → ℕ
  past_outputs i = slice_index_or z.first_pins i 0 + output_count (slice_index_or z.kinds i Equivalent)

  -- the byte of an instance's Ready
  abbrev pub ready_byte : ℕ → ℕ
  ready_byte i = signal_byte (past_outputs i - 2)

  -- the byte of its Error
  abbrev pub error_byte : ℕ → ℕ
  error_byte i = signal_byte (past_outputs i - 1)

  -- the DiagCode of an instance
  abbrev pub code_in : ℕ → ℕ
  code_in i = be2 cells (first + z.signals + 16 * i)

  -- each output, Ready and Error byte is 0 or 1
  abbrev pub holds_report : Bool
  holds_report =
      list_all (λ j. not (is_no_bit (output_byte j))) (range_with_len 0 z.outputs)
      && list_all (λ i. not (is_no_bit (ready_byte i)) && not (is_no_bit (error_byte i))) (range_with_len 0 z.instances)

  -- what an instance says of itself
  abbrev pub diag_at : ℕ → Diag
  diag_at i = record { ready = ready_byte i == 1; error = error_byte i == 1; code = code_in i }

  -- the report, or none where one of those bytes is neither 0 nor 1
  abbrev pub report_in : Option Report
  report_in =
      if holds_report then Some (record {
        outs = map (λ j. output_byte j == 1) (range_with_len 0 z.outputs);
        diags = map diag_at (range_with_len 0 z.instances);
      }) else None
