use Rattle.std.proofs.Common.{◌≡◌, ◌∙◌, ◌++◌, ℕ, List, [], Option, Err, refl, sym, ap, subst}
use Rattle.std.specs.Prelude.{IfOk, IsSomeAnd}
use Rattle.std.proofs.lemmas.List.Elements.{filter_map-append}
use Rattle.ps_bench_cases.specs.Joined.{items_of_file}
use Rattle.ps_bench_cases.specs.Meant.{fault_made, faults_in, items_of, whole_case}
use Rattle.ps_bench_cases.specs.declared.case.Statement.{Statement}
use Rattle.ps_bench_cases.specs.Alone.{alone}
use Rattle.ps_model.specs.Meaning.{Item}
use Rattle.ps_model.specs.declared.channel.Fault.{Fault}
use Rattle.ps_bench_report.proofs.Played.{items_alone, not_begun_whole, runs_alone}
use Rattle.ps_bench_report.specs.Played.{IsKeptOf, KeepsItems}
use Rattle.ps_bench_report.specs.Marks.{names_shown}
use Rattle.ps_bench_report.specs.Recorder.{IsFresh}
use Rattle.ps_bench_names.specs.declared.name.Name.{Name}
use Rattle.ps_trace.specs.FaultOrder.{AreInOrder, AreOfOneChannel}
use Rattle.ps_trace.specs.Reading.{IsReadingTrace, items_left}
use Rattle.ps_trace.specs.Scans.{Scans, scans_of}
use Rattle.ps_trace.specs.Scans.End.{whole}
use Rattle.ps_bench_report.proofs.playing.record_case.Goals as goal

pub record_trace-requires-clause-ordered : goal.record_trace-requires-clause-ordered
record_trace-requires-clause-ordered c =
    subst (λ (faults : List Fault). AreInOrder faults)
    (filter_map-append (λ (s : Statement). fault_made s.act) c.args.file.now.begin c.args.case.now.statements
    ∙ (λ i. faults_in (sym c.as_slice.ensures i) ++ faults_in (sym c.as_slice-2.ensures i)) ∙ sym c.in_ok-faults.ensures)
    c.requires.runnable.ordered

pub record_trace-requires-clause-one_channel : goal.record_trace-requires-clause-one_channel
record_trace-requires-clause-one_channel c =
    subst (λ (faults : List Fault). AreOfOneChannel faults)
    (filter_map-append (λ (s : Statement). fault_made s.act) c.args.file.now.begin c.args.case.now.statements
    ∙ (λ i. faults_in (sym c.as_slice.ensures i) ++ faults_in (sym c.as_slice-2.ensures i)) ∙ sym c.in_ok-faults.ensures)
    c.requires.runnable.one_channel

pub returns-in-Ok : goal.returns-in-Ok
returns-in-Ok c = record {
  records = λ legible.
      let net = c.args.app.now in
      let file = c.args.file.now in
      let case = c.args.case.now in
      let statements = whole_case file case in
      let text : List ℕ = c.in_ok-text.text in
      let read : items_left c.in-Ok.trace text ≡ record { items = items_of_file net (alone file case); end = whole } =
      c.in-Ok.ensures.begins refl text refl ∙ ap (λ (t : List ℕ). scans_of t net) c.in_ok-text.ensures
      ∙ c.expanded_trace_is_read.ensures.items net (alone file case) c.sound.ensures (runs_alone net file case c.requires.runnable) legible in
      let items_are : (items_left c.in-Ok.trace text).items ≡ items_of net statements =
      ap (λ (s : Scans). s.items) read ∙ items_alone net file case in
      let faults_are : c.in_ok-faults.faults ≡ faults_in statements =
      c.in_ok-faults.ensures ∙ (λ i. faults_in (c.as_slice.ensures i) ++ faults_in (c.as_slice-2.ensures i))
      ∙ sym (filter_map-append (λ (s : Statement). fault_made s.act) file.begin case.statements) in
      let same : c.start.new.files ≡ text = let held = ap (λ (h : List ℕ → Option (List ℕ)). h []) c.start.ensures.kept in cc in
      let fresh : IsFresh (names_shown net statements) c.new-recorder.result =
      subst (λ (names : List Name). IsFresh names c.new-recorder.result) c.in_ok-names_shown.ensures c.new-recorder.ensures in
      subst (λ (items : List Item). IfOk c.record_trace.result (λ got. IsSomeAnd got (KeepsItems net (names_shown net statements) items (faults_in statements)))) items_are
      (subst (λ (faults : List Fault). IfOk c.record_trace.result (λ got. IsSomeAnd got (KeepsItems net (names_shown net statements) (items_left c.in-Ok.trace text).items faults))) faults_are
      (subst (λ (t : List ℕ). IsReadingTrace c.in-Ok.trace t → (items_left c.in-Ok.trace t).end ≡ whole → (names : List Name) → IsFresh names c.new-recorder.result →
      IfOk c.record_trace.result (λ got. IsSomeAnd got (KeepsItems net names (items_left c.in-Ok.trace t).items c.in_ok-faults.faults))) same c.record_trace.ensures.records
      (c.in-Ok.ensures.reads refl text refl) (ap (λ (s : Scans). s.end) read) (names_shown net statements) fresh));
}

pub returns : goal.returns
returns c = record {
  records = λ legible.
      let net = c.args.app.now in
      let file = c.args.file.now in
      let case = c.args.case.now in
      let why = c.in-Err.why in
      let read = ap (λ (t : List ℕ). (scans_of t net).end) c.in_ok-text.ensures
      ∙ ap (λ (s : Scans). s.end) (c.expanded_trace_is_read.ensures.items net (alone file case) c.sound.ensures (runs_alone net file case c.requires.runnable) legible) in
      not_begun_whole (λ got. IsSomeAnd got (IsKeptOf net (whole_case file case))) net c.in_ok-text.text why c.not_begun.result c.not_begun.ensures
      (λ is. c.start.ensures.fault (c.in-Err.is ∙ ap Err is)) (λ refusal is. c.start.ensures.refuses refl c.in_ok-text.text refl refusal (c.in-Err.is ∙ ap Err is)) read;
}
