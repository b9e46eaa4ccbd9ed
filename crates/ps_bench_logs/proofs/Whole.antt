-- What is written of a whole log.
use Rattle.std.proofs.Common.{◌≡◌, ◌++◌, ◌∙◌, ℕ, List, [], IsTrue, Bool, Result, Ok, Err, refl, sym, ap, subst}
use Rattle.std.proofs.lemmas.List.{append-nil, append_assoc}
use Rattle.ps_bench_cases.specs.Expanded.{header_line}
use Rattle.ps_bench_cases.specs.Writing.{TookBeginning, Wrote}
use Rattle.ps_bench_cases.specs.declared.expanding.ExpandFail.{ExpandFail}
use Rattle.ps_bench_cases.specs.declared.expanding.ExpandFail.TheVariants.{Memory as NoRoom, Fault as NoWrite}
use Rattle.ps_bench_cases.proofs.Pieces.{LeftOf, left_all, left_stopped}
use Rattle.ps_lines.specs.Lines.{Line}
use Rattle.ps_bench_logs.specs.Header.{Columns}
use Rattle.ps_bench_logs.specs.Log.{End, Log, log_behind, log_from, log_lines, log_of, rows_of}
use Rattle.ps_bench_logs.specs.Log.End.{refused}
use Rattle.ps_bench_logs.specs.declared.flaw.Flaw.{Flaw}
use Rattle.ps_model.specs.Network.{Network}
use Rattle.ps_bench_logs.specs.Lines.{IsHeader, LeavesRows, fail_of}
use Rattle.ps_bench_logs.specs.Recording.{Leaves, items_text, log_trace, written_behind}
use Rattle.ps_bench_logs.specs.declared.recording.RecordFail.{RecordFail}
use Rattle.ps_bench_logs.specs.declared.recording.RecordFail.TheVariants.{Memory, Fault, Unwritten, Refused}

-- nothing is a beginning
pub took_nothing : (before text : List ℕ) → TookBeginning before text before
took_nothing before text = ([], text, sym (append-nil before), refl)

-- a log without a header
pub header_stopped : (net : Network) (text before : List ℕ) (others : List Line) (fail : RecordFail) → IsHeader net (log_lines text) others (Err fail) →
    Leaves (log_trace net text) (log_of net text).end before before (Err fail)
header_stopped net text before others Memory is = took_nothing before (log_trace net text)
header_stopped net text before others Fault is = took_nothing before (log_trace net text)
header_stopped net text before others Unwritten is = absurd is
header_stopped net text before others (Refused refusal) (flaw, broken, refusal_is) = (
  ap (λ (said : Result Columns Flaw). (log_behind said (rows_of (log_lines text))).end) broken ∙ ap refused (sym refusal_is),
  sym (append-nil before) ∙ ap (λ (said : Result Columns Flaw). before ++ written_behind net said (log_of net text).items) (sym broken),
)

-- a log with one
log_is : (net : Network) (text : List ℕ) (columns : Columns) (others : List Line) → IsHeader net (log_lines text) others (Ok columns) →
    log_of net text ≡ log_from columns 2 0 others
log_is net text columns others (said, left) =
    ap (λ (r : Result Columns Flaw). log_behind r (rows_of (log_lines text))) said ∙ ap (log_from columns 2 0) left

trace_is : (net : Network) (text : List ℕ) (columns : Columns) (others : List Line) → IsHeader net (log_lines text) others (Ok columns) →
    log_trace net text ≡ header_line net ++ items_text (log_from columns 2 0 others).items
trace_is net text columns others header =
    ap (λ (r : Result Columns Flaw). written_behind net r (log_of net text).items) header.0
    ∙ ap (λ (log : Log). header_line net ++ items_text log.items) (log_is net text columns others header)

-- a beginning of what stands after other bytes
begun_behind : (before head rest after : List ℕ) → TookBeginning (before ++ head) rest after → TookBeginning before (head ++ rest) after
begun_behind before head rest after (some, more, is, all) = (
  head ++ some,
  more,
  is ∙ append_assoc before head some,
  append_assoc head some more ∙ ap (λ (bytes : List ℕ). head ++ bytes) all,
)

leaves_behind : (before head rest after : List ℕ) (end : End) (result : Result (Unit {0}) RecordFail) →
    Leaves rest end (before ++ head) after result → Leaves (head ++ rest) end before after result
leaves_behind before head rest after end (Ok done) (is, all) = (is, all ∙ append_assoc before head rest)
leaves_behind before head rest after end (Err (Refused refusal)) (is, all) = (is, all ∙ append_assoc before head rest)
leaves_behind before head rest after end (Err Memory) some = begun_behind before head rest after some
leaves_behind before head rest after end (Err Fault) some = begun_behind before head rest after some
leaves_behind before head rest after end (Err Unwritten) some = begun_behind before head rest after some

-- the rows are written after the header
pub rows_leave : (net : Network) (text : List ℕ) (columns : Columns) (others : List Line) (before mid after : List ℕ) (result : Result (Unit {0}) RecordFail) →
    IsHeader net (log_lines text) others (Ok columns) → mid ≡ before ++ header_line net →
    LeavesRows (log_from columns 2 0 others) mid after result → Leaves (log_trace net text) (log_of net text).end before after result
rows_leave net text columns others before mid after result header is rows =
    subst (λ (bytes : List ℕ). Leaves bytes (log_of net text).end before after result) (sym (trace_is net text columns others header))
    (subst (λ (log : Log). Leaves (header_line net ++ items_text (log_from columns 2 0 others).items) log.end before after result) (sym (log_is net text columns others header))
    (leaves_behind before (header_line net) (items_text (log_from columns 2 0 others).items) after (log_from columns 2 0 others).end result
    (subst (λ (bytes : List ℕ). LeavesRows (log_from columns 2 0 others) bytes after result) is rows)))

module _ {S : Type 0} (tells : S → Bool) (taken : S → List ℕ) (faults : S → ℕ) where
  -- the header is not written
  begun : (text head rest : List ℕ) (end : End) (s u : S) (fail : ExpandFail) → text ≡ head ++ rest → Wrote tells taken faults head s u (Err fail) → IsTrue (tells s) →
      Leaves text end (taken s) (taken u) (Err (fail_of fail))
  begun text head rest end s u NoRoom is wrote told =
      (left_stopped tells taken faults text head rest s s u NoRoom (subst (λ (bytes : List ℕ). LeftOf tells taken faults text bytes s s) is (left_all tells taken faults text s)) wrote).bytes told
  begun text head rest end s u NoWrite is wrote told =
      (left_stopped tells taken faults text head rest s s u NoWrite (subst (λ (bytes : List ℕ). LeftOf tells taken faults text bytes s s) is (left_all tells taken faults text s)) wrote).bytes told

  pub header_failed : (net : Network) (text : List ℕ) (columns : Columns) (others : List Line) (s u : S) (fail : ExpandFail) →
      IsHeader net (log_lines text) others (Ok columns) → Wrote tells taken faults (header_line net) s u (Err fail) → IsTrue (tells s) →
      Leaves (log_trace net text) (log_of net text).end (taken s) (taken u) (Err (fail_of fail))
  header_failed net text columns others s u fail header wrote told =
      begun (log_trace net text) (header_line net) (items_text (log_from columns 2 0 others).items) (log_of net text).end s u fail
      (trace_is net text columns others header) wrote told
