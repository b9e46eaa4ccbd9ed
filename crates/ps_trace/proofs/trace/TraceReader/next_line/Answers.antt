use Rattle.std.proofs.Common.{◌≡◌, ◌≢◌, ◌<◌, ◌≤◌, ◌+◌, ◌∙◌, ◌∷◌, ℕ, List, Option, Some, None, Result, Ok, Err, false, slice_index_or, length, refl, subst, sym, ap}
use Rattle.std.proofs.lemmas.List.{length-map}
use Rattle.std.specs.Result.{IsErrOf}
use Rattle.ps_base.specs.declared.failing.Refusal.{Refusal}
use Rattle.ps_base.specs.declared.failing.Rule.{Rule}
use Rattle.ps_lines.specs.Lines.{Line}
use Rattle.ps_lines.specs.Reader.{IsReading, name_of, left, line_of, begin_of}
use Rattle.ps_lines.specs.declared.reader.LineReader.{LineReader}
use Rattle.ps_lines.specs.declared.reader.Got.{Got}
use Rattle.ps_lines.specs.declared.reader.Got.TheVariants.{Line as GotLine, LastLine, TooLong, TooLarge, End}
use Rattle.ps_lines.specs.contracts.reader.Got as got_type
use denote.Enum.Bare.{sameb}
use Rattle.ps_model.specs.Meaning.{Item}
use Rattle.ps_model.specs.Meaning.Item.{scan, restart}
use Rattle.ps_model.specs.declared.report.Scan.{Scan}
use Rattle.ps_trace.specs.Feeds.{feeds_of}
use Rattle.ps_trace.specs.Scans.{Scans, scans_from, inputs_of, at_line}
use Rattle.ps_trace.specs.Reading.{Comes, Fills, GoesOn, items_left, unless_refused, only_refused}
use Rattle.ps_trace.specs.declared.trace.Next.{Next}
use Rattle.ps_trace.specs.declared.trace.Next.TheVariants.{Scan as NextScan, Restart as NextRestart}
use Rattle.ps_trace.specs.declared.trace.TraceReader.{TraceReader}
use Rattle.ps_trace.specs.declared.trace.TraceStop.{TraceStop}
use Rattle.ps_trace.specs.declared.trace.TraceStop.TheVariants.{Fault, Refused}
use Rattle.ps_trace.specs.declared.scan_line.LineSays.TheVariants.{Nothing, Restart, Scan as SaysScan, Broken}
use Rattle.ps_trace.proofs.ScanLemmas.{scans_skip, scans_restart, scans_scan, scans_break, scans_fail, begins_later}
use Rattle.ps_trace.proofs.trace.TraceReader.next_line.Goals as goal

-- what is left before a refusal
left_open : (reader : TraceReader) (text : List ℕ) → reader.refusal ≡ None →
    items_left reader text ≡ scans_from reader.places.items reader.number reader.last (left reader.lines text)
left_open reader text is =
    ap (λ (r : Option Refusal). unless_refused r (scans_from reader.places.items reader.number reader.last (left reader.lines text))) is

-- what is left after a refusal
left_refused : (reader : TraceReader) (text : List ℕ) (refusal : Refusal) → reader.refusal ≡ Some refusal → items_left reader text ≡ only_refused refusal
left_refused reader text refusal is =
    ap (λ (r : Option Refusal). unless_refused r (scans_from reader.places.items reader.number reader.last (left reader.lines text))) is

-- what is left after a line
left_behind : (old new : TraceReader) (lines : LineReader) (number last : ℕ) (text : List ℕ) → new.refusal ≡ None → new.places ≡ old.places →
    new.lines ≡ lines → new.number ≡ number → new.last ≡ last → items_left new text ≡ scans_from old.places.items number last (left lines text)
left_behind old new lines number last text unrefused places on counted time = left_open new text unrefused ∙ cc

-- an item in front of what is left
abbrev before : Item → Scans → Scans
before item rest = record { items = item ∷ rest.items; end = rest.end }

-- an answer with an item or none, and an answer with a stop
abbrev answered : Option Next → Result (Option Next) TraceStop
answered next = Ok next

abbrev stopped : TraceStop → Result (Option Next) TraceStop
stopped stop = Err stop

-- two answers differ where their forms differ, and where they are alike they say the same
none_or_item : (next : Next) → answered None ≡ answered (Some next) → ⊥
none_or_item next same = cc

item_or_none : (next : Next) → answered (Some next) ≡ answered None → ⊥
item_or_none next same = cc

answer_or_stop : (next : Option Next) (stop : TraceStop) → answered next ≡ stopped stop → ⊥
answer_or_stop next stop same = cc

answer_no_fault : (next : Option Next) → IsErrOf (answered next) Fault → ⊥
answer_no_fault next failed = cc

-- a skipped line and a restart are no scan, and neither these nor a scan is refused
nothing_no_scan : (now : ℕ) → Nothing ≢ SaysScan now
nothing_no_scan now same = cc

nothing_unbroken : (rule : Rule) → Nothing ≢ Broken rule
nothing_unbroken rule same = cc

restart_no_scan : (now : ℕ) → Restart ≢ SaysScan now
restart_no_scan now same = cc

restart_unbroken : (rule : Rule) → Restart ≢ Broken rule
restart_unbroken rule same = cc

scan_unbroken : (now : ℕ) (rule : Rule) → SaysScan now ≢ Broken rule
scan_unbroken now rule same = cc

stop_or_answer : (stop : TraceStop) (next : Option Next) → stopped stop ≡ answered next → ⊥
stop_or_answer stop next same = cc

refused_no_fault : (stop : TraceStop) (refusal : Refusal) → stop ≡ Refused refusal → IsErrOf (stopped stop) Fault → ⊥
refused_no_fault stop refusal is failed = cc

fault_unrefused : (refusal : Refusal) → stopped Fault ≡ stopped (Refused refusal) → ⊥
fault_unrefused refusal same = cc

broken_no_scan : (rule : Rule) (now : ℕ) → Broken rule ≢ SaysScan now
broken_no_scan rule now same = cc

same_refusal : (refusal other : Refusal) → stopped (Refused refusal) ≡ stopped (Refused other) → refusal ≡ other
same_refusal refusal other same = cc

-- what the test for the text's end says
not_ended : (got : Got) → false ≡ sameb got_type.the_type got End → got ≢ End
not_ended GotLine is same = cc
not_ended LastLine is same = cc
not_ended TooLong is same = cc
not_ended TooLarge is same = cc
not_ended End is same = cc

same_item : (next other : Next) → answered (Some next) ≡ answered (Some other) → next ≡ other
same_item next other same = cc

pub returns-in-Nothing : goal.returns-in-Nothing
returns-in-Nothing g c =
    let old = c.args.self.now in
    let new = c.take_line.new.self in
    let lines = c.next_line.new.self in
    let count = c.in-Ok-feeds.feeds in
    let feeds : feeds_of c.in-Ok.got ≡ Ok count = sym c.feeds.ensures.value ∙ c.in-Ok-feeds.is in
    let ahead : begin_of old.lines < begin_of new.lines = subst (λ (l : LineReader). begin_of old.lines < begin_of l) (sym c.take_line.ensures.lines) (begins_later c.in-Ok.got old.lines lines count c.in-Ok.ensures.goes_on feeds) in
    let other = c.in-Nothing.ensures.other nothing_no_scan in
    record {
      reads = λ tells text held is. subst (λ (l : LineReader). IsReading l text) (sym c.take_line.ensures.lines) (c.next_line.ensures.reads tells text held is);
      skips = λ tells text held is _. left_behind old new lines (old.number + count) old.last text (c.take_line.ensures.refusal ∙ c.requires.open) c.take_line.ensures.places c.take_line.ensures.lines (c.in-Nothing.ensures.counted nothing_unbroken) other.1
          ∙ sym (left_open old text c.requires.open ∙ scans_skip c.in-Ok.got old.places.items old.number old.last count _ _ (line_of lines) (c.in-Ok.ensures.gives tells text held is) feeds c.in-Nothing.ensures.says);
      comes = λ tells text held is next same. absurd (none_or_item next same);
      refuses = λ tells text held is refusal same. absurd (answer_or_stop _ _ same);
      same_line = λ tells text held is. tt;
      refused = λ refusal same. absurd (answer_or_stop _ _ same);
      «open» = c.take_line.ensures.refusal ∙ c.requires.open;
      moves = λ _. ahead;
      fills = λ next same. absurd (none_or_item next same);
      goes_on = λ next same. absurd (none_or_item next same);
      skipped = λ _. other.0;
      skipped_time = λ _. other.1;
      unchanged = tt;
      same_time = tt;
      fault = λ failed. absurd (answer_no_fault _ failed);
      exact = λ _. c.in-Ok.ensures.exact;
      counts = c.next_line.ensures.counts;
      kept = c.next_line.ensures.kept;
      telling = c.next_line.ensures.telling;
      name = ap name_of c.take_line.ensures.lines ∙ c.next_line.ensures.name;
      places = c.take_line.ensures.places;
    }

pub returns-in-Restart : goal.returns-in-Restart
returns-in-Restart g c =
    let old = c.args.self.now in
    let new = c.take_line.new.self in
    let lines = c.next_line.new.self in
    let count = c.in-Ok-feeds.feeds in
    let feeds : feeds_of c.in-Ok.got ≡ Ok count = sym c.feeds.ensures.value ∙ c.in-Ok-feeds.is in
    let ahead : begin_of old.lines < begin_of new.lines = subst (λ (l : LineReader). begin_of old.lines < begin_of l) (sym c.take_line.ensures.lines) (begins_later c.in-Ok.got old.lines lines count c.in-Ok.ensures.goes_on feeds) in
    let other = c.in-Restart.ensures.other restart_no_scan in
    record {
      reads = λ tells text held is. subst (λ (l : LineReader). IsReading l text) (sym c.take_line.ensures.lines) (c.next_line.ensures.reads tells text held is);
      skips = λ tells text held is same. absurd (item_or_none _ same);
      comes = λ tells text held is next same. subst (λ (n : Next). Comes (items_left old text) n c.take_line.new.into (items_left new text)) (same_item NextRestart next same)
          (left_open old text c.requires.open ∙ scans_restart c.in-Ok.got old.places.items old.number old.last count _ _ (line_of lines) (c.in-Ok.ensures.gives tells text held is) feeds c.in-Restart.ensures.says
          ∙ ap (before restart) (sym (left_behind old new lines (old.number + count) old.last text (c.take_line.ensures.refusal ∙ c.requires.open) c.take_line.ensures.places c.take_line.ensures.lines (c.in-Restart.ensures.counted restart_unbroken) other.1)));
      refuses = λ tells text held is refusal same. absurd (answer_or_stop _ _ same);
      same_line = λ tells text held is. tt;
      refused = λ refusal same. absurd (answer_or_stop _ _ same);
      «open» = c.take_line.ensures.refusal ∙ c.requires.open;
      moves = λ same. absurd (item_or_none _ same);
      fills = λ next same. subst (λ (n : Next). Fills n old new c.args.into.now c.take_line.new.into) (same_item NextRestart next same) other;
      goes_on = λ next same. subst (λ (n : Next). GoesOn n old new) (same_item NextRestart next same) (ahead, new.near);
      skipped = λ same. absurd (item_or_none _ same);
      skipped_time = λ same. absurd (item_or_none _ same);
      unchanged = tt;
      same_time = tt;
      fault = λ failed. absurd (answer_no_fault _ failed);
      exact = λ _. c.in-Ok.ensures.exact;
      counts = c.next_line.ensures.counts;
      kept = c.next_line.ensures.kept;
      telling = c.next_line.ensures.telling;
      name = ap name_of c.take_line.ensures.lines ∙ c.next_line.ensures.name;
      places = c.take_line.ensures.places;
    }

pub returns-in-Scan : goal.returns-in-Scan
returns-in-Scan g c =
    let old = c.args.self.now in
    let new = c.take_line.new.self in
    let lines = c.next_line.new.self in
    let count = c.in-Ok-feeds.feeds in
    let feeds : feeds_of c.in-Ok.got ≡ Ok count = sym c.feeds.ensures.value ∙ c.in-Ok-feeds.is in
    let ahead : begin_of old.lines < begin_of new.lines = subst (λ (l : LineReader). begin_of old.lines < begin_of l) (sym c.take_line.ensures.lines) (begins_later c.in-Ok.got old.lines lines count c.in-Ok.ensures.goes_on feeds) in
    let now = c.in-Scan.field-0 in
    let filled = c.take_line.ensures.scan now c.in-Scan.is in
    let time : new.last ≡ now = c.take_line.ensures.time now c.in-Scan.is in
    record {
      reads = λ tells text held is. subst (λ (l : LineReader). IsReading l text) (sym c.take_line.ensures.lines) (c.next_line.ensures.reads tells text held is);
      skips = λ tells text held is same. absurd (item_or_none _ same);
      comes = λ tells text held is next same. subst (λ (n : Next). Comes (items_left old text) n c.take_line.new.into (items_left new text)) (same_item NextScan next same)
          (left_open old text c.requires.open ∙ scans_scan c.in-Ok.got old.places.items old.number old.last count now new.values.items _ _ (line_of lines) (c.in-Ok.ensures.gives tells text held is) feeds c.in-Scan.ensures.says
          ∙ ap (before (scan now (inputs_of old.places.items new.values.items))) (sym (left_behind old new lines (old.number + count) now text (c.take_line.ensures.refusal ∙ c.requires.open) c.take_line.ensures.places c.take_line.ensures.lines (c.in-Scan.ensures.counted (scan_unbroken now)) time))
          ∙ ap (λ (s : Scan). before (scan s.now s.ins) (items_left new text)) (sym filled));
      refuses = λ tells text held is refusal same. absurd (answer_or_stop _ _ same);
      same_line = λ tells text held is. tt;
      refused = λ refusal same. absurd (answer_or_stop _ _ same);
      «open» = c.take_line.ensures.refusal ∙ c.requires.open;
      moves = λ same. absurd (item_or_none _ same);
      fills = λ next same. subst (λ (n : Next). Fills n old new c.args.into.now c.take_line.new.into) (same_item NextScan next same) (
        ap (λ (s : Scan). length s.ins) filled ∙ length-map old.places.items (λ place. slice_index_or new.values.items place false) ∙ sym c.requires.sizes,
        subst (λ (n : ℕ). old.last ≤ n) (sym (ap (λ (s : Scan). s.now) filled)) (c.take_line.ensures.rises now c.in-Scan.is),
        time ∙ sym (ap (λ (s : Scan). s.now) filled),
      );
      goes_on = λ next same. subst (λ (n : Next). GoesOn n old new) (same_item NextScan next same) (ahead, new.near);
      skipped = λ same. absurd (item_or_none _ same);
      skipped_time = λ same. absurd (item_or_none _ same);
      unchanged = tt;
      same_time = tt;
      fault = λ failed. absurd (answer_no_fault _ failed);
      exact = λ _. c.in-Ok.ensures.exact;
      counts = c.next_line.ensures.counts;
      kept = c.next_line.ensures.kept;
      telling = c.next_line.ensures.telling;
      name = ap name_of c.take_line.ensures.lines ∙ c.next_line.ensures.name;
      places = c.take_line.ensures.places;
    }

pub returns-in-Broken : goal.returns-in-Broken
returns-in-Broken g c =
    let old = c.args.self.now in
    let new = c.refuse-in-Broken.new.self in
    let lines = c.next_line.new.self in
    let rule = c.in-Broken.rule in
    let here = at_line rule c.take_line.new.self.number in
    let on : new.lines ≡ lines = c.refuse-in-Broken.ensures.lines ∙ c.take_line.ensures.lines in
    let other = c.in-Broken.ensures.other (broken_no_scan rule) in
    record {
      reads = λ tells text held is. subst (λ (l : LineReader). IsReading l text) (sym on) (c.next_line.ensures.reads tells text held is);
      skips = λ tells text held is same. absurd (stop_or_answer _ _ same);
      comes = λ tells text held is next same. absurd (stop_or_answer _ _ same);
      refuses = λ tells text held is refusal same. (left_open old text c.requires.open ∙ scans_break c.in-Ok.got old.places.items old.number old.last c.in-Ok-feeds.feeds rule _ _ (line_of lines) (c.in-Ok.ensures.gives tells text held is) (sym c.feeds.ensures.value ∙ c.in-Ok-feeds.is) c.in-Broken.ensures.says
          ∙ ap (λ (n : ℕ). only_refused (at_line rule n)) (sym (c.take_line.ensures.broken rule c.in-Broken.is))) ∙ ap only_refused (same_refusal here refusal (ap stopped (sym c.refuse-in-Broken.ensures.stop) ∙ same));
      same_line = λ tells text held is. left_refused new text here c.refuse-in-Broken.ensures.refusal ∙ sym (left_open old text c.requires.open ∙ scans_break c.in-Ok.got old.places.items old.number old.last c.in-Ok-feeds.feeds rule _ _ (line_of lines) (c.in-Ok.ensures.gives tells text held is) (sym c.feeds.ensures.value ∙ c.in-Ok-feeds.is) c.in-Broken.ensures.says
          ∙ ap (λ (n : ℕ). only_refused (at_line rule n)) (sym (c.take_line.ensures.broken rule c.in-Broken.is)));
      refused = λ refusal same. c.refuse-in-Broken.ensures.refusal ∙ ap Some (same_refusal here refusal (ap stopped (sym c.refuse-in-Broken.ensures.stop) ∙ same));
      «open» = tt;
      moves = λ same. absurd (stop_or_answer _ _ same);
      fills = λ next same. absurd (stop_or_answer _ _ same);
      goes_on = λ next same. absurd (stop_or_answer _ _ same);
      skipped = λ same. absurd (stop_or_answer _ _ same);
      skipped_time = λ same. absurd (stop_or_answer _ _ same);
      unchanged = other.0;
      same_time = c.refuse-in-Broken.ensures.last ∙ other.1;
      fault = λ failed. absurd (refused_no_fault _ here c.refuse-in-Broken.ensures.stop failed);
      exact = λ _. c.in-Ok.ensures.exact;
      counts = c.next_line.ensures.counts;
      kept = c.next_line.ensures.kept;
      telling = c.next_line.ensures.telling;
      name = ap name_of on ∙ c.next_line.ensures.name;
      places = c.refuse-in-Broken.ensures.places ∙ c.take_line.ensures.places;
    }

pub returns-in-Err : goal.returns-in-Err
returns-in-Err g c =
    let old = c.args.self.now in
    record {
      reads = c.next_line.ensures.reads;
      skips = λ tells text held is same. absurd (stop_or_answer _ _ same);
      comes = λ tells text held is next same. absurd (stop_or_answer _ _ same);
      refuses = λ tells text held is refusal same. absurd (fault_unrefused refusal same);
      same_line = λ tells text held is. ap (λ (ls : List Line). unless_refused old.refusal (scans_from old.places.items old.number old.last ls)) (c.in-Err.ensures.same_line tells text held is);
      refused = λ refusal same. absurd (fault_unrefused refusal same);
      «open» = tt;
      moves = λ same. absurd (stop_or_answer _ _ same);
      fills = λ next same. absurd (stop_or_answer _ _ same);
      goes_on = λ next same. absurd (stop_or_answer _ _ same);
      skipped = λ same. absurd (stop_or_answer _ _ same);
      skipped_time = λ same. absurd (stop_or_answer _ _ same);
      unchanged = refl;
      same_time = refl;
      fault = λ _. c.in-Err.ensures.fault;
      exact = λ fine. absurd (fine refl);
      counts = c.next_line.ensures.counts;
      kept = c.next_line.ensures.kept;
      telling = c.next_line.ensures.telling;
      name = c.next_line.ensures.name;
      places = refl;
    }

pub returns-in-Err-feeds : goal.returns-in-Err-feeds
returns-in-Err-feeds g c =
    let old = c.args.self.now in
    let new = c.refuse.new.self in
    let rule = c.in-Err-feeds.rule in
    let here = at_line rule old.number in
    record {
      reads = λ tells text held is. subst (λ (l : LineReader). IsReading l text) (sym c.refuse.ensures.lines) (c.next_line.ensures.reads tells text held is);
      skips = λ tells text held is same. absurd (stop_or_answer _ _ same);
      comes = λ tells text held is next same. absurd (stop_or_answer _ _ same);
      refuses = λ tells text held is refusal same. left_open old text c.requires.open ∙ scans_fail c.in-Ok.got old.places.items old.number old.last rule _ _ (line_of c.next_line.new.self) (c.in-Ok.ensures.gives tells text held is) (sym c.feeds.ensures.value ∙ c.in-Err-feeds.is) (not_ended c.in-Ok.got (sym c.if-eq.false ∙ c.eq.ensures)) ∙ ap only_refused (same_refusal here refusal (ap stopped (sym c.refuse.ensures.stop) ∙ same));
      same_line = λ tells text held is. left_refused new text here c.refuse.ensures.refusal ∙ sym (left_open old text c.requires.open ∙ scans_fail c.in-Ok.got old.places.items old.number old.last rule _ _ (line_of c.next_line.new.self) (c.in-Ok.ensures.gives tells text held is) (sym c.feeds.ensures.value ∙ c.in-Err-feeds.is) (not_ended c.in-Ok.got (sym c.if-eq.false ∙ c.eq.ensures)));
      refused = λ refusal same. c.refuse.ensures.refusal ∙ ap Some (same_refusal here refusal (ap stopped (sym c.refuse.ensures.stop) ∙ same));
      «open» = tt;
      moves = λ same. absurd (stop_or_answer _ _ same);
      fills = λ next same. absurd (stop_or_answer _ _ same);
      goes_on = λ next same. absurd (stop_or_answer _ _ same);
      skipped = λ same. absurd (stop_or_answer _ _ same);
      skipped_time = λ same. absurd (stop_or_answer _ _ same);
      unchanged = refl;
      same_time = c.refuse.ensures.last;
      fault = λ failed. absurd (refused_no_fault _ here c.refuse.ensures.stop failed);
      exact = λ _. c.in-Ok.ensures.exact;
      counts = c.next_line.ensures.counts;
      kept = c.next_line.ensures.kept;
      telling = c.next_line.ensures.telling;
      name = ap name_of c.refuse.ensures.lines ∙ c.next_line.ensures.name;
      places = c.refuse.ensures.places;
    }
