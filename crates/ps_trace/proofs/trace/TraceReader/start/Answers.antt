use Rattle.std.proofs.Common.{◌≡◌, ◌≤◌, ◌+◌, ◌∙◌, ℕ, List, IsTrue, Option, Some, None, Result, Ok, Err, vec_len, subst, sym, ap}
use Rattle.ps_base.specs.declared.failing.Refusal.{Refusal}
use Rattle.ps_base.specs.declared.limits.TheConstants.{LARGEST_TRACE, LONGEST_TRACE_LINE}
use Rattle.ps_outside.specs.declared.text_fail.TextFail.{TextFail}
use Rattle.ps_outside.specs.declared.text_fail.TextFail.TheVariants.{Refused as IsRefused}
use Rattle.ps_lines.specs.Reader.{IsFresh, IsReading, begin_of, left, name_of}
use Rattle.ps_lines.specs.declared.reader.Limits.{Limits}
use Rattle.ps_lines.specs.declared.reader.LineReader.{LineReader}
use Rattle.ps_model.specs.Network.{input_count}
use Rattle.ps_trace.specs.Header.{input_names}
use Rattle.ps_trace.specs.Heading.{HeadsBy, IsHeading}
use Rattle.ps_trace.specs.Leaving.{IsFurther, Leaves, shelf}
use Rattle.ps_trace.specs.Reading.{IsHeaded, items_left, unless_refused}
use Rattle.ps_trace.specs.Scans.{header_from, scans_behind, scans_from}
use Rattle.ps_trace.specs.declared.heading.Heading.{Heading}
use Rattle.ps_trace.specs.declared.trace.TraceReader.{TraceReader}
use Rattle.ps_trace.proofs.LeavingLemmas.{clause_counts, clause_exact, clause_fault, clause_found, failing, fresh_way, given, given_no_failing, leaves_failing, leaves_giving, same_failing}
use Rattle.ps_trace.proofs.trace.TraceReader.start.Goals as goal

-- the limits of a trace
abbrev limits : Limits
limits = record { longest = LONGEST_TRACE_LINE; largest = LARGEST_TRACE }

-- what is left behind a header
left_behind : (reader : TraceReader) (lines : LineReader) (heading : Heading) (text : List ℕ) → reader.refusal ≡ None → reader.lines ≡ lines → reader.places ≡ heading.places →
    reader.number ≡ heading.number → reader.last ≡ 0 → items_left reader text ≡ scans_from heading.places.items heading.number 0 (left lines text)
left_behind reader lines heading text unrefused on places number last =
    ap (λ (r : Option Refusal). unless_refused r (scans_from reader.places.items reader.number reader.last (left reader.lines text))) unrefused ∙ cc

pub find_header-requires : goal.find_header-requires
find_header-requires g c =
    let fresh : IsFresh limits c.in_ok-lines.lines = c.in_ok-lines.ensures.fresh in
    record {
      way = fresh_way (shelf (g.F.Files.tells c.args.files.now) (g.F.Files.held c.args.files.now) (g.F.Files.faults c.args.files.now)) limits c.in_ok-lines.lines fresh;
      limited = ap (λ (l : Limits). l.largest) fresh.limits;
    }

pub behind-requires : goal.behind-requires
behind-requires g c =
    let fresh : IsFresh limits c.in_ok-lines.lines = c.in_ok-lines.ensures.fresh in
    let new = c.find_header.new.lines in
    let heads : IsHeading (input_count c.args.app.now) (begin_of new + 1) c.in-Ok.heading = c.in-Ok.ensures.heads in
    let further : IsFurther (shelf (g.F.Files.tells c.args.files.now) (g.F.Files.held c.args.files.now) (g.F.Files.faults c.args.files.now)) c.in_ok-lines.lines new = c.in-Ok.ensures.further in
    let limited = ap (λ (l : Limits). l.largest) (further.limits ∙ fresh.limits) in
    record {
      one_each = heads.values ∙ sym heads.places;
      counted = heads.number;
      limited = limited;
      near = subst (λ (n : ℕ). begin_of new ≤ n) limited further.way.near;
    }

pub returns-in-Ok : goal.returns-in-Ok
returns-in-Ok g c =
    let first = shelf (g.F.Files.tells c.args.files.now) (g.F.Files.held c.args.files.now) (g.F.Files.faults c.args.files.now) in
    let last = shelf (g.F.Files.tells c.find_header.new.files) (g.F.Files.held c.find_header.new.files) (g.F.Files.faults c.find_header.new.files) in
    let name = c.args.name.now in
    let lines = c.in_ok-lines.lines in
    let new = c.find_header.new.lines in
    let heading = c.in-Ok.heading in
    let reader = c.behind.result in
    let named : name_of lines ≡ name = c.in_ok-lines.ensures.name in
    let fresh : IsFresh limits lines = c.in_ok-lines.ensures.fresh in
    let heads : IsHeading (input_count c.args.app.now) (begin_of new + 1) heading = c.in-Ok.ensures.heads in
    let further : IsFurther first lines new = c.in-Ok.ensures.further in
    let is : c.find_header.result ≡ Ok heading = c.in-Ok.is in
    let here : Leaves (name_of lines) first last (given heading) = subst (λ (r : Result Heading TextFail). Leaves (name_of lines) first last r) is c.find_header.ensures.leaves in
    let leaves : Leaves name first last (given reader) = leaves_giving heading reader name first last (subst (λ (n : List ℕ). Leaves n first last (given heading)) named here) in
    let headed = λ (text : List ℕ). λ (says : HeadsBy (given heading) (header_from (input_names c.args.app.now) 1 (left lines text)) (left new text)).
    ap (header_from (input_names c.args.app.now) 1) (sym (fresh.all_left text)) ∙ says in
    let says = λ (tells : IsTrue first.tells) (text : List ℕ) (held : first.held name ≡ Some text). headed text (subst (λ (r : Result Heading TextFail). HeadsBy r (header_from (input_names c.args.app.now) 1 (left lines text)) (left new text)) is
    (c.find_header.ensures.says tells text (ap first.held named ∙ held))) in
    record {
      reads = λ tells text held. subst (λ (l : LineReader). IsReading l text) (sym c.behind.ensures.lines) (further.way.reads tells text (ap first.held (further.name ∙ named) ∙ held));
      begins = λ tells text held. left_behind reader new heading text c.behind.ensures.refusal c.behind.ensures.lines c.behind.ensures.places c.behind.ensures.number c.behind.ensures.last
          ∙ sym (ap scans_behind (says tells text held));
      headed = λ tells text held. subst IsHeaded (sym (says tells text held)) tt;
      refuses = λ tells text held refusal same. absurd (given_no_failing reader (IsRefused refusal) same);
      found = clause_found (given reader) name first last leaves;
      name = ap name_of c.behind.ensures.lines ∙ further.name ∙ named;
      sizes = sym reader.places.ok.0 ∙ ap vec_len c.behind.ensures.places ∙ heads.places;
      fresh = c.behind.ensures.last;
      «open» = c.behind.ensures.refusal;
      fault = clause_fault (given reader) name first last leaves;
      exact = clause_exact (given reader) name first last leaves;
      counts = clause_counts (given reader) name first last leaves;
      kept = leaves.kept;
      telling = leaves.telling;
    }

pub returns-in-Err : goal.returns-in-Err
returns-in-Err g c =
    let first = shelf (g.F.Files.tells c.args.files.now) (g.F.Files.held c.args.files.now) (g.F.Files.faults c.args.files.now) in
    let last = shelf (g.F.Files.tells c.find_header.new.files) (g.F.Files.held c.find_header.new.files) (g.F.Files.faults c.find_header.new.files) in
    let name = c.args.name.now in
    let lines = c.in_ok-lines.lines in
    let new = c.find_header.new.lines in
    let why = c.in-Err.why in
    let ended = failing TraceReader why in
    let named : name_of lines ≡ name = c.in_ok-lines.ensures.name in
    let fresh : IsFresh limits lines = c.in_ok-lines.ensures.fresh in
    let is : c.find_header.result ≡ Err why = c.in-Err.is in
    let here : Leaves (name_of lines) first last (failing Heading why) = subst (λ (r : Result Heading TextFail). Leaves (name_of lines) first last r) is c.find_header.ensures.leaves in
    let leaves : Leaves name first last ended = leaves_failing Heading TraceReader why name first last (subst (λ (n : List ℕ). Leaves n first last (failing Heading why)) named here) in
    record {
      reads = λ tells text held. tt;
      begins = λ tells text held. tt;
      headed = λ tells text held. tt;
      refuses = λ tells text held refusal same. ap (header_from (input_names c.args.app.now) 1) (sym (fresh.all_left text))
          ∙ subst (λ (w : TextFail). HeadsBy (failing Heading w) (header_from (input_names c.args.app.now) 1 (left lines text)) (left new text)) (same_failing TraceReader why (IsRefused refusal) same)
          (subst (λ (r : Result Heading TextFail). HeadsBy r (header_from (input_names c.args.app.now) 1 (left lines text)) (left new text)) is
          (c.find_header.ensures.says tells text (ap first.held named ∙ held)));
      found = clause_found ended name first last leaves;
      name = tt;
      sizes = tt;
      fresh = tt;
      «open» = tt;
      fault = clause_fault ended name first last leaves;
      exact = clause_exact ended name first last leaves;
      counts = clause_counts ended name first last leaves;
      kept = leaves.kept;
      telling = leaves.telling;
    }
