-- The lines of a log, one after another, and what is written of them.
use Rattle.std.proofs.Common.{◌≡◌, ◌≢◌, ◌<◌, ◌+◌, ◌++◌, ◌∙◌, ℕ, List, [], Bool, true, false, IsTrue, Result, Ok, Err, refl, sym, ap, subst}
use Rattle.std.proofs.lemmas.Grind.{flat_map-append}
use Rattle.std.proofs.lemmas.List.{append-nil}
use Rattle.ps_bench_cases.specs.Expanded.{restart_line, scan_line}
use Rattle.ps_bench_cases.specs.Writing.{Wrote, WroteAll}
use Rattle.ps_bench_cases.specs.declared.expanding.ExpandFail.{ExpandFail}
use Rattle.ps_bench_cases.specs.declared.expanding.ExpandFail.TheVariants.{Memory as NoRoom, Fault as NoWrite}
use Rattle.ps_bench_cases.proofs.Pieces.{LeftOf, left_all, left_last, left_next, left_none, left_stopped}
use Rattle.ps_lines.specs.Lines as cut
use Rattle.ps_lines.specs.Reader.{Gives, GoesOn, begin_of}
use Rattle.ps_lines.specs.declared.reader.LineReader.{LineReader}
use Rattle.ps_lines.specs.declared.reader.Got.{Got}
use Rattle.ps_lines.specs.declared.reader.Got.TheVariants.{Line, LastLine, TooLong, TooLarge, End}
use Rattle.ps_bench_logs.specs.Header.{Columns, header_said}
use Rattle.ps_bench_logs.specs.Log.{End as LogEnd, Log, at_line, columns_of, items_of, last_after, log_from, onto_log, rows_of}
use Rattle.ps_bench_logs.specs.Log.End.{whole, refused}
use Rattle.ps_bench_logs.specs.Rows.{Said, line_said}
use Rattle.ps_bench_logs.specs.Rows.Said.{skips, scans, breaks}
use Rattle.ps_bench_logs.specs.declared.flaw.Flaw.TheVariants.{V1}
use Rattle.ps_bench_logs.specs.Lines.{IsKept, Took, fail_of, restart_text, said_items, turn_of}
use Rattle.ps_bench_logs.specs.Recording.{Leaves, item_line, items_text}
use Rattle.ps_model.specs.Network.{Network}
use Rattle.ps_bench_logs.specs.declared.recording.Turn.TheVariants.{Row, End as Over, Broken}
use Rattle.ps_bench_logs.specs.declared.recording.RecordFail.{RecordFail}
use Rattle.ps_bench_logs.specs.declared.recording.RecordFail.TheVariants.{Memory, Fault, Unwritten, Refused}

-- ---- Lines.

module _ (columns : Columns) (number last : ℕ) (lines rest : List cut.Line) (bytes : List ℕ) where
  -- a line that came says what its bytes say
  pub row_came : (got : Got) → Gives lines got bytes rest → turn_of got ≡ Row →
      log_from columns number last lines
      ≡ onto_log (line_said columns last bytes) number (log_from columns (number + 1) (last_after (line_said columns last bytes) last) rest)
  row_came Line gives turn = ap (log_from columns number last) gives
  row_came LastLine gives turn = ap (log_from columns number last) gives
  row_came TooLong gives turn = let no : ⊥ = cc in absurd no
  row_came TooLarge gives turn = let no : ⊥ = cc in absurd no
  row_came End gives turn = let no : ⊥ = cc in absurd no

  -- one that is too long is refused
  pub row_long : (got : Got) → Gives lines got bytes rest → turn_of got ≡ Broken →
      log_from columns number last lines ≡ record { items = []; end = refused (at_line V1 number) }
  row_long Line gives turn = let no : ⊥ = cc in absurd no
  row_long LastLine gives turn = let no : ⊥ = cc in absurd no
  row_long TooLong gives turn = ap (log_from columns number last) gives
  row_long TooLarge gives turn = ap (log_from columns number last) gives.2
  row_long End gives turn = let no : ⊥ = cc in absurd no

  -- no line is left
  pub rows_over : (got : Got) → Gives lines got bytes rest → turn_of got ≡ Over → log_from columns number last lines ≡ record { items = []; end = whole }
  rows_over Line gives turn = let no : ⊥ = cc in absurd no
  rows_over LastLine gives turn = let no : ⊥ = cc in absurd no
  rows_over TooLong gives turn = let no : ⊥ = cc in absurd no
  rows_over TooLarge gives turn = let no : ⊥ = cc in absurd no
  rows_over End gives turn = ap (log_from columns number last) gives.0

-- a reader is past a line that came
pub goes_past : (got : Got) (old new : LineReader) → GoesOn got old new → turn_of got ≡ Row → begin_of old < begin_of new
goes_past Line old new goes turn = goes
goes_past LastLine old new goes turn = goes
goes_past TooLong old new goes turn = goes
goes_past TooLarge old new goes turn = let no : ⊥ = cc in absurd no
goes_past End old new goes turn = let no : ⊥ = cc in absurd no

-- ---- The header.

module _ (net : Network) (lines rest : List cut.Line) (bytes : List ℕ) where
  pub header_came : (got : Got) → Gives lines got bytes rest → turn_of got ≡ Row → (columns_of net lines ≡ header_said net bytes) × (rows_of lines ≡ rest)
  header_came Line gives turn = (ap (columns_of net) gives, ap rows_of gives)
  header_came LastLine gives turn = (ap (columns_of net) gives, ap rows_of gives)
  header_came TooLong gives turn = let no : ⊥ = cc in absurd no
  header_came TooLarge gives turn = let no : ⊥ = cc in absurd no
  header_came End gives turn = let no : ⊥ = cc in absurd no

  pub header_lost : (got : Got) → Gives lines got bytes rest → turn_of got ≢ Row → columns_of net lines ≡ Err V1
  header_lost Line gives turn = absurd (turn refl)
  header_lost LastLine gives turn = absurd (turn refl)
  header_lost TooLong gives turn = ap (columns_of net) gives
  header_lost TooLarge gives turn = ap (columns_of net) gives.2
  header_lost End gives turn = ap (columns_of net) gives.0

-- ---- What is written.

-- the items of a line stand before those of the later lines
pub kept_items : (said : Said) (number : ℕ) (later : Log) → IsKept said →
    (items_text (onto_log said number later).items ≡ items_text (said_items said) ++ items_text later.items) × ((onto_log said number later).end ≡ later.end)
kept_items skips number later kept = (refl, refl)
kept_items (scans now true ins) number later kept = (flat_map-append item_line (items_of now true ins) later.items, refl)
kept_items (scans now false ins) number later kept = (flat_map-append item_line (items_of now false ins) later.items, refl)
kept_items (breaks flaw) number later kept = absurd kept

-- the lines of a row
pub row_text : (now : ℕ) (is_restarted : Bool) (ins : List Bool) → items_text (items_of now is_restarted ins) ≡ restart_text is_restarted ++ scan_line now ins
row_text now true ins = ap (λ (bytes : List ℕ). restart_line ++ bytes) (append-nil (scan_line now ins))
row_text now false ins = append-nil (scan_line now ins)

module _ {S : Type 0} (tells : S → Bool) (taken : S → List ℕ) (faults : S → ℕ) where
  -- a restart is written, and then a scan
  pub row_begun : (now : ℕ) (is_restarted : Bool) (ins : List Bool) (s : S) →
      LeftOf tells taken faults (items_text (items_of now is_restarted ins)) (restart_text is_restarted ++ scan_line now ins) s s
  row_begun now is_restarted ins s =
      subst (λ (bytes : List ℕ). LeftOf tells taken faults (items_text (items_of now is_restarted ins)) bytes s s) (row_text now is_restarted ins)
      (left_all tells taken faults (items_text (items_of now is_restarted ins)) s)

  pub row_wrote : (now : ℕ) (is_restarted : Bool) (ins : List Bool) (s t u : S) (r : Result (Unit {0}) ExpandFail) →
      WroteAll tells taken faults (restart_text is_restarted) s t → Wrote tells taken faults (scan_line now ins) t u r →
      Wrote tells taken faults (items_text (items_of now is_restarted ins)) s u r
  row_wrote now is_restarted ins s t u r first second =
      left_last tells taken faults (items_text (items_of now is_restarted ins)) (scan_line now ins) s t u r
      (left_next tells taken faults (restart_text is_restarted) (scan_line now ins) t (row_begun now is_restarted ins s) first) second

  pub row_stopped : (now : ℕ) (is_restarted : Bool) (ins : List Bool) (s u : S) (fail : ExpandFail) →
      Wrote tells taken faults (restart_text is_restarted) s u (Err fail) → Wrote tells taken faults (items_text (items_of now is_restarted ins)) s u (Err fail)
  row_stopped now is_restarted ins s u fail first =
      left_stopped tells taken faults (items_text (items_of now is_restarted ins)) (restart_text is_restarted) (scan_line now ins) s s u fail
      (row_begun now is_restarted ins s) first

  -- what came of a row
  pub nothing_taken : (number last : ℕ) (s : S) → Took tells taken faults skips number last s s (Ok last)
  nothing_taken number last s = (tt, refl, record { bytes = λ told. sym (append-nil (taken s)); exact = refl; telling = refl })

  pub row_failed : (now : ℕ) (is_restarted : Bool) (ins : List Bool) (number last : ℕ) (s u : S) (fail : ExpandFail) →
      Wrote tells taken faults (items_text (items_of now is_restarted ins)) s u (Err fail) →
      Took tells taken faults (scans now is_restarted ins) number last s u (Err (fail_of fail))
  row_failed now is_restarted ins number last s u NoRoom wrote = (tt, wrote)
  row_failed now is_restarted ins number last s u NoWrite wrote = (tt, wrote)

  -- all is written where nothing is left
  pub all_left : (text rest : List ℕ) (s t : S) → LeftOf tells taken faults text rest s t → rest ≡ [] → IsTrue (tells s) → taken t ≡ taken s ++ text
  all_left text rest s t left none told =
      (left_none tells taken faults text s t (subst (λ (bytes : List ℕ). LeftOf tells taken faults text bytes s t) none left)).bytes told

  -- how a call ends at a line that is not taken
  pub row_ended : (fail : RecordFail) (said : Said) (number last : ℕ) (later : Log) (text : List ℕ) (end : LogEnd) (s t u : S) →
      LeftOf tells taken faults text (items_text (onto_log said number later).items) s t → end ≡ (onto_log said number later).end →
      Took tells taken faults said number last t u (Err fail) → IsTrue (tells s) → Leaves text end (taken s) (taken u) (Err fail)
  row_ended Memory said number last later text end s t u left is took told =
      (left_stopped tells taken faults text (items_text (said_items said)) (items_text later.items) s t u NoRoom
      (subst (λ (bytes : List ℕ). LeftOf tells taken faults text bytes s t) (kept_items said number later took.0).0 left) took.1).bytes told
  row_ended Unwritten said number last later text end s t u left is took told =
      (left_stopped tells taken faults text (items_text (said_items said)) (items_text later.items) s t u NoWrite
      (subst (λ (bytes : List ℕ). LeftOf tells taken faults text bytes s t) (kept_items said number later took.0).0 left) took.1).bytes told
  row_ended Fault said number last later text end s t u left is took told = absurd took
  row_ended (Refused refusal) said number last later text end s t u left is (flaw, broken, refusal_is, same) told =
      let none : items_text (onto_log said number later).items ≡ [] = ap (λ (x : Said). items_text (onto_log x number later).items) broken in
      let at : (onto_log said number later).end ≡ refused (at_line flaw number) = ap (λ (x : Said). (onto_log x number later).end) broken in (
        is ∙ at ∙ ap refused (sym refusal_is),
        ap taken same ∙ all_left text (items_text (onto_log said number later).items) s t left none told,
      )

  -- a line was taken, and the later ones are left
  pub row_taken : (said : Said) (number last now : ℕ) (later : Log) (text : List ℕ) (s t u : S) →
      LeftOf tells taken faults text (items_text (onto_log said number later).items) s t → Took tells taken faults said number last t u (Ok now) →
      LeftOf tells taken faults text (items_text later.items) s u
  row_taken said number last now later text s t u left took =
      left_next tells taken faults (items_text (said_items said)) (items_text later.items) u
      (subst (λ (bytes : List ℕ). LeftOf tells taken faults text bytes s t) (kept_items said number later took.0).0 left) took.2
