use Rattle.std.proofs.Common.{◌≡◌, ◌<◌, ◌+◌, ◌∙◌, ℕ, List, IsTrue, Option, Some, Result, refl, sym, ap, subst, arith}
use Rattle.ps_bench_cases.proofs.Pieces.{LeftOf, left_all}
use Rattle.ps_lines.specs.Reader.{Gives, begin_of, left, limits_of, line_of, name_of}
use Rattle.ps_lines.specs.declared.reader.Limits.{Limits}
use Rattle.ps_bench_logs.specs.declared.limits.TheConstants.{LARGEST_LOG}
use Rattle.ps_bench_logs.specs.Header.{Columns}
use Rattle.ps_bench_logs.specs.Log.{End, Log, last_after, log_from, onto_log}
use Rattle.ps_bench_logs.specs.Rows.{Said, line_said}
use Rattle.ps_bench_logs.specs.Lines.{Took, turn_of}
use Rattle.ps_bench_logs.specs.Recording.{items_text}
use Rattle.ps_bench_logs.specs.declared.recording.RecordFail.{RecordFail}
use Rattle.ps_bench_logs.specs.declared.recording.Turn.TheVariants.{Row}
use Rattle.ps_bench_logs.proofs.Rows.{goes_past, kept_items, row_came, row_ended, row_taken}
use Rattle.ps_bench_logs.proofs.recording.put_rows.Goals as goal

pub rows-init : goal.rows-init
rows-init g c =
    let rows : List ℕ → Log = λ text. log_from c.args.table.now 2 0 (left c.args.lines.now text) in
    record {
      reads = λ tells text held is. is;
      wrote = λ tells text held is. left_all g.S.Sink.tells g.S.Sink.taken g.S.Sink.faults (items_text (rows text).items) c.args.out.now;
      ends = λ tells text held is. refl;
      columns = refl;
      size = c.requires.size;
      counted = omega (arith, c.requires.begun);
      near = c.requires.near;
      limited = c.requires.limited;
      named = refl;
      exact = λ other. refl;
      kept = refl;
      telling = refl;
      written = refl;
      out_telling = refl;
    }

pub returns-in-Err-take_row-clause-leaves : goal.returns-in-Err-take_row-clause-leaves
returns-in-Err-take_row-clause-leaves g c = λ tells told text held is.
    let tell = g.S.Sink.tells in
    let taken = g.S.Sink.taken in
    let faults = g.S.Sink.faults in
    let now = c.rows.invariant in
    let table : Columns = c.args.table.now in
    let number = c.rows.number in
    let last = c.rows.last in
    let new = c.next_line.new.self in
    let bytes : List ℕ = line_of new in
    let said : Said = line_said table last bytes in
    let later : Log = log_from table (number + 1) (last_after said last) (left new text) in
    let turn : turn_of c.in-Ok.got ≡ Row = sym c.turn_of.ensures ∙ c.in-Row.is in
    let here : g.F.Files.held c.rows.files (name_of c.rows.lines) ≡ Some text =
    ap (λ (h : List ℕ → Option (List ℕ)). h (name_of c.rows.lines)) now.kept ∙ ap (g.F.Files.held c.args.files.now) now.named ∙ held in
    let gives = c.in-Ok.ensures.gives (subst IsTrue (sym now.telling) tells) text here (now.reads tells text held is) in
    let rows_are : log_from table number last (left c.rows.lines text) ≡ onto_log said number later = row_came table number last (left c.rows.lines text) (left new text) bytes c.in-Ok.got gives turn in
    let whole_rows : List ℕ = items_text (log_from table 2 0 (left c.args.lines.now text)).items in
    let ended : End = (log_from table 2 0 (left c.args.lines.now text)).end in
    let wrote = subst (λ (log : Log). LeftOf tell taken faults whole_rows (items_text log.items) c.args.out.now c.rows.out) rows_are (now.wrote tells text held is) in
    let took_line = subst (λ (b : List ℕ). Took tell taken faults (line_said c.rows.table last b) number last c.rows.out c.take_row.new.out c.take_row.result) c.line.ensures c.take_row.ensures.took in
    let took_table = subst (λ (t : Columns). Took tell taken faults (line_said t last bytes) number last c.rows.out c.take_row.new.out c.take_row.result) now.columns took_line in
    let took = subst (λ (r : Result ℕ RecordFail). Took tell taken faults said number last c.rows.out c.take_row.new.out r) c.in-Err-take_row.is took_table in
    row_ended tell taken faults c.in-Err-take_row.fail said number last later whole_rows ended c.args.out.now c.rows.out c.take_row.new.out wrote
    (now.ends tells text held is ∙ ap (λ (log : Log). log.end) rows_are) took told

pub rows-preserved : goal.rows-preserved
rows-preserved g c =
    let tell = g.S.Sink.tells in
    let taken = g.S.Sink.taken in
    let faults = g.S.Sink.faults in
    let now = c.rows.invariant in
    let table : Columns = c.args.table.now in
    let number = c.rows.number in
    let last = c.rows.last in
    let new = c.next_line.new.self in
    let bytes : List ℕ = line_of new in
    let said : Said = line_said table last bytes in
    let later : List ℕ → Log = λ text. log_from table (number + 1) (last_after said last) (left new text) in
    let turn : turn_of c.in-Ok.got ≡ Row = sym c.turn_of.ensures ∙ c.in-Row.is in
    let took_line = subst (λ (b : List ℕ). Took tell taken faults (line_said c.rows.table last b) number last c.rows.out c.take_row.new.out c.take_row.result) c.line.ensures c.take_row.ensures.took in
    let took_table = subst (λ (t : Columns). Took tell taken faults (line_said t last bytes) number last c.rows.out c.take_row.new.out c.take_row.result) now.columns took_line in
    let took = subst (λ (r : Result ℕ RecordFail). Took tell taken faults said number last c.rows.out c.take_row.new.out r) c.in-Ok-take_row.is took_table in
    let on : begin_of c.rows.lines < begin_of new = goes_past c.in-Ok.got c.rows.lines new c.in-Ok.ensures.goes_on turn in
    let most : (limits_of new).largest ≡ LARGEST_LOG = ap (λ (l : Limits). l.largest) c.next_line.ensures.limits ∙ now.limited in
    let here : (text : List ℕ) → g.F.Files.held c.args.files.now (name_of c.args.lines.now) ≡ Some text → g.F.Files.held c.rows.files (name_of c.rows.lines) ≡ Some text =
    λ text held. ap (λ (h : List ℕ → Option (List ℕ)). h (name_of c.rows.lines)) now.kept ∙ ap (g.F.Files.held c.args.files.now) now.named ∙ held in
    let rows_are : (text : List ℕ) → Gives (left c.rows.lines text) c.in-Ok.got bytes (left new text) → log_from table number last (left c.rows.lines text) ≡ onto_log said number (later text) =
    λ text gives. row_came table number last (left c.rows.lines text) (left new text) bytes c.in-Ok.got gives turn in
    record {
      reads = λ tells text held is. c.next_line.ensures.reads (subst IsTrue (sym now.telling) tells) text (here text held) (now.reads tells text held is);
      wrote = λ tells text held is.
          let gives = c.in-Ok.ensures.gives (subst IsTrue (sym now.telling) tells) text (here text held) (now.reads tells text held is) in
          let whole_rows : List ℕ = items_text (log_from table 2 0 (left c.args.lines.now text)).items in
          let wrote = subst (λ (log : Log). LeftOf tell taken faults whole_rows (items_text log.items) c.args.out.now c.rows.out) (rows_are text gives) (now.wrote tells text held is) in
          subst (λ (t : ℕ). LeftOf tell taken faults whole_rows (items_text (log_from table (number + 1) t (left new text)).items) c.args.out.now c.take_row.new.out) (sym took.1)
          (row_taken tell taken faults said number last c.in-Ok-take_row.now (later text) whole_rows c.args.out.now c.rows.out c.take_row.new.out wrote took);
      ends = λ tells text held is.
          let gives = c.in-Ok.ensures.gives (subst IsTrue (sym now.telling) tells) text (here text held) (now.reads tells text held is) in
          now.ends tells text held is ∙ ap (λ (log : Log). log.end) (rows_are text gives) ∙ (kept_items said number (later text) took.0).1
          ∙ ap (λ (t : ℕ). (log_from table (number + 1) t (left new text)).end) (sym took.1);
      columns = c.take_row.ensures.columns ∙ now.columns;
      size = c.take_row.ensures.size ∙ now.size;
      counted = omega (arith, now.counted, on);
      near = omega (arith, c.next_line.ensures.within, most);
      limited = most;
      named = c.next_line.ensures.name ∙ now.named;
      exact = λ other. c.in-Ok.ensures.exact other ∙ now.exact other;
      kept = c.next_line.ensures.kept ∙ now.kept;
      telling = c.next_line.ensures.telling ∙ now.telling;
      written = took.2.exact ∙ now.written;
      out_telling = took.2.telling ∙ now.out_telling;
    }
