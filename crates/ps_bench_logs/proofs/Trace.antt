-- The trace of a log is read as the items of the log.
use Rattle.std.proofs.Common.{◌≡◌, ◌≤◌, ◌+◌, ◌++◌, ◌∙◌, ◌==◌, ◌&&◌, ℕ, List, [], ◌∷◌, Bool, true, false, not, Option, Some, None, if◌then◌else◌, length, unwrap_or, nat_lt, Result, Ok, Err, refl, arith}
use Rattle.std.proofs.lemmas.List.{length-map}
use Rattle.std.specs.List.{All, list_all}
use Rattle.std.specs.Char.{is_ascii_digit}
use Rattle.std.proofs.lemmas.Bool.Decides.{nat_tests}
use Rattle.ps_base.specs.declared.limits.TheConstants.{LARGEST_TIME, LARGEST_TRACE, LONGEST_TRACE_LINE}
use Rattle.ps_bench_cases.specs.Expanded.{header_line, restart_line, scan_line}
use Rattle.ps_bench_cases.specs.Legible.{IsSeen}
use Rattle.ps_bench_logs.proofs.TraceLines.{Gives, gives_both, gives_nothing, gives_restart, gives_scan, read_behind}
use Rattle.ps_lines.specs.Lines.{Line}
use Rattle.ps_lines.specs.Lines.Line.{Kept, KeptLast, Long, Large}
use Rattle.ps_bench_logs.specs.Fields.{fields_of}
use Rattle.ps_bench_logs.specs.Header.{Columns}
use Rattle.ps_bench_logs.specs.Log.{Log, columns_in, last_after, log_behind, log_from, log_lines, log_of, onto_log, rows_of, said_of}
use Rattle.ps_bench_logs.specs.Rows.{Said, are_values, field_at, fields_said, line_said, restart_at, row_said, scan_said, value_at, values_at}
use Rattle.ps_bench_logs.specs.Rows.Said.{skips, scans, breaks}
use Rattle.ps_bench_logs.specs.declared.flaw.Flaw.{Flaw}
use Rattle.ps_bench_logs.specs.declared.flaw.Flaw.TheVariants.{V1, V3, V4}
use Rattle.ps_bench_logs.proofs.Sizes.{columns_sized}
use Rattle.ps_model.specs.Meaning.Item.{scan, restart}
use Rattle.ps_model.specs.Network.{Network, input_count}
use Rattle.ps_model.specs.Sound.{IsSound}
use Rattle.ps_trace.specs.Header.{input_names}
use Rattle.ps_trace.specs.Scans.{scans_of}
use Rattle.ps_trace.specs.Scans.End.{whole}
use Rattle.ps_trace.specs.Words.{digits_value, number_of}
use Rattle.ps_bench_logs.specs.Recording.{items_text, trace_text}

-- ---- What a line says.

-- a scan is no earlier than the last one, no later than a trace may have it, and has as many values as inputs
abbrev IsFine : (inputs last : ℕ) → Said → Type 0
IsFine inputs last skips = Unit {0}
IsFine inputs last (scans now is_restarted ins) = (last ≤ now) × (now ≤ LARGEST_TIME) × (length ins ≡ inputs)
IsFine inputs last (breaks flaw) = Unit {0}

number_small : (t : Bool) (v now : ℕ) → (if t && nat_lt v 4294967296 then Some v else None) ≡ Some now → now ≤ LARGEST_TIME
number_small t v now is = grind (arith, nat_tests)

number_fits : (word : List ℕ) (now : ℕ) → number_of word ≡ Some now → now ≤ LARGEST_TIME
number_fits [] now is = let no : ⊥ = cc in absurd no
number_fits (b ∷ word) now is = number_small (list_all is_ascii_digit (b ∷ word)) (digits_value (b ∷ word)) now is

module _ (inputs last : ℕ) where
  in_order : (t : Bool) (now : ℕ) (is_restarted : Bool) (ins : List Bool) → nat_lt now last ≡ t → now ≤ LARGEST_TIME → length ins ≡ inputs →
      IsFine inputs last (if t then breaks V4 else scans now is_restarted ins)
  in_order true now is_restarted ins is small size = tt
  in_order false now is_restarted ins is small size = let on : last ≤ now = grind (arith, nat_tests) in (on, small, size)

  scan_fine : (time : Option ℕ) (is_restarted : Option Bool) (ins : List Bool) → ((now : ℕ) → time ≡ Some now → now ≤ LARGEST_TIME) → length ins ≡ inputs →
      IsFine inputs last (scan_said last time is_restarted ins)
  scan_fine None is_restarted ins small size = tt
  scan_fine (Some now) None ins small size = tt
  scan_fine (Some now) (Some r) ins small size = in_order (nat_lt now last) now r ins refl (small now refl) size

  unless_broken : (t : Bool) (flaw : Flaw) (said : Said) → IsFine inputs last said → IsFine inputs last (if not t then breaks flaw else said)
  unless_broken true flaw said fine = fine
  unless_broken false flaw said fine = tt

  row_fine : (columns : Columns) (fields : List (List ℕ)) → length columns.inputs ≡ inputs → IsFine inputs last (row_said columns last fields)
  row_fine columns fields size =
      unless_broken (length fields == columns.width) V1 _ (unless_broken (are_values fields columns.inputs) V3 _
      (scan_fine (number_of (field_at fields columns.time)) (restart_at fields columns.restart) (values_at fields columns.inputs)
      (number_fits (field_at fields columns.time)) (length-map columns.inputs (λ k. unwrap_or (value_at fields k) false) ∙ size)))

  fields_fine : (columns : Columns) (fields : Option (List (List ℕ))) → length columns.inputs ≡ inputs → IsFine inputs last (fields_said columns last fields)
  fields_fine columns None size = tt
  fields_fine columns (Some fields) size = row_fine columns fields size

  bytes_fine : (columns : Columns) (bytes : List ℕ) → length columns.inputs ≡ inputs → IsFine inputs last (line_said columns last bytes)
  bytes_fine columns [] size = tt
  bytes_fine columns (b ∷ bytes) size = fields_fine columns (fields_of (b ∷ bytes)) size

  line_fine : (columns : Columns) (line : Line) → length columns.inputs ≡ inputs → IsFine inputs last (said_of columns last line)
  line_fine columns (Kept bytes) size = bytes_fine columns bytes size
  line_fine columns (KeptLast bytes) size = bytes_fine columns bytes size
  line_fine columns Long size = tt
  line_fine columns Large size = tt

-- ---- Items.

-- the lines of these items are read as them
abbrev AreRead : (inputs last : ℕ) → Log → Type 0
AreRead inputs last log = (after : ℕ) × Gives inputs (items_text log.items) log.items last after

module _ (inputs : ℕ) (few : inputs ≤ 512) where
  scans_read : (now last : ℕ) (is_restarted : Bool) (ins : List Bool) (number : ℕ) (later : Log) → last ≤ now → now ≤ LARGEST_TIME → length ins ≡ inputs →
      AreRead inputs now later → AreRead inputs last (onto_log (scans now is_restarted ins) number later)
  scans_read now last true ins number later on small size (after, read) =
      let here = gives_both inputs (scan_line now ins) (items_text later.items) (scan now ins ∷ []) later.items last now after (gives_scan inputs now last ins size few small on) read in (
        after,
        gives_both inputs restart_line (scan_line now ins ++ items_text later.items) (restart ∷ []) (scan now ins ∷ later.items) last last after (gives_restart inputs last) here,
      )
  scans_read now last false ins number later on small size (after, read) = (
    after,
    gives_both inputs (scan_line now ins) (items_text later.items) (scan now ins ∷ []) later.items last now after (gives_scan inputs now last ins size few small on) read,
  )

  said_read : (said : Said) (number last : ℕ) (later : Log) → IsFine inputs last said → AreRead inputs (last_after said last) later → AreRead inputs last (onto_log said number later)
  said_read skips number last later fine read = read
  said_read (scans now is_restarted ins) number last later fine read = scans_read now last is_restarted ins number later fine.0 fine.1 fine.2 read
  said_read (breaks flaw) number last later fine read = (last, gives_nothing inputs last)

  rows_read : (columns : Columns) (number last : ℕ) (lines : List Line) → length columns.inputs ≡ inputs → AreRead inputs last (log_from columns number last lines)
  rows_read columns number last [] size = (last, gives_nothing inputs last)
  rows_read columns number last (line ∷ lines) size =
      let said = said_of columns last line in
      said_read said number last (log_from columns (number + 1) (last_after said last) lines) (line_fine inputs last columns line size)
      (rows_read columns (number + 1) (last_after said last) lines size)

  log_read : (said : Result Columns Flaw) (rows : List Line) → ((columns : Columns) → said ≡ Ok columns → length columns.inputs ≡ inputs) → AreRead inputs 0 (log_behind said rows)
  log_read (Ok columns) rows sized = rows_read columns 2 0 rows (sized columns refl)
  log_read (Err flaw) rows sized = (0, gives_nothing inputs 0)

pub recorded_back : (net : Network) (text : List ℕ) → IsSound net → All IsSeen (input_names net) → length (header_line net) ≤ LONGEST_TRACE_LINE + 1 →
    length (trace_text net (log_of net text).items) ≤ LARGEST_TRACE →
    scans_of (trace_text net (log_of net text).items) net ≡ record { items = (log_of net text).items; end = whole }
recorded_back net text sound seen long fits =
    let log = log_of net text in
    let read : AreRead (input_count net) 0 log = log_read (input_count net) sound.few_inputs (columns_in net text) (rows_of (log_lines text)) (λ columns is. columns_sized net (log_lines text) columns is) in
    read_behind net (items_text log.items) log.items read.0 sound seen long fits read.1
