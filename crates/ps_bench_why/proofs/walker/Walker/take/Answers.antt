use Rattle.std.proofs.Common.{◌≡◌, ◌∙◌, ◌≤◌, ℕ, List, Option, Some, length, refl, sym, ap, subst}
use Rattle.std.specs.Prelude.{is_none, slice_get}
use Rattle.std.specs.Vec.{with_items}
use Rattle.std.proofs.lemmas.List.{with_items_is}
use Rattle.ps_cover.specs.Clock.{since}
use Rattle.ps_cover.specs.Covers.{time_of}
use Rattle.ps_model.specs.Meaning.{last, last_time, old_state, passed}
use Rattle.ps_model.specs.Scanning.{Solves}
use Rattle.ps_model.specs.declared.report.Scan.{Scan}
use Rattle.ps_machine.specs.declared.signals.Signals.{Signals}
use Rattle.ps_why.specs.Keeping.{AllStep, StandFor}
use Rattle.ps_why.specs.declared.keeping.Stepped.{Stepped}
use Rattle.ps_bench_why.specs.Looking.{IsLook}
use Rattle.ps_bench_why.specs.Walking.{AreNoted, StandsBehind}
use Rattle.ps_bench_why.specs.declared.walker.Since.{Since}
use Rattle.ps_bench_why.specs.declared.walker.Walker.{Walker}
use Rattle.ps_bench_why.proofs.Taking.{before_is, looks, passes, stands_behind}
use Rattle.ps_bench_why.proofs.walker.Walker.take.Goals as goal

pub returns-clause-look : goal.returns-clause-look
returns-clause-look c = λ past before v stands noted due solves.
    let net = c.args.app.now in
    let sound = c.sound.ensures in
    let w1 = c.begin.new.self in
    let s0 = w1.scan in
    let w : Walker = record {
      evaluator = c.perform_scan.new.self;
      kept = with_items w1.kept c.step_instances.new.kept;
      since = with_items w1.since c.note_all.new.since;
      scan = s0;
      report = c.perform_scan.new.report;
      before = Some s0.now;
      last = Some (record { now = s0.now; before = w1.before });
    } in
    let solves0 = subst (λ (s : Scan). Solves net (old_state net past) s.ins (passed past s.now) v) (sym c.begin.ensures.scan) solves in
    let due0 = subst (λ (s : Scan). last_time past ≤ s.now) (sym c.begin.ensures.scan) due in
    let time_is : w1.before ≡ time_of past = c.begin.ensures.before ∙ before_is net past c.args.self.now stands in
    let d_is : c.passed-passed.result ≡ passed past s0.now =
    c.passed-passed.ensures ∙ ap (λ (b : Option ℕ). since b s0.now) time_is ∙ passes past s0.now in
    let kept_is : w.kept.items ≡ c.step_instances.new.kept =
    with_items_is w1.kept c.step_instances.new.kept
    (c.step_instances.ensures.kept.each ∙ sym c.begin.ensures.fits.kept.each
    ∙ sym (ap (λ (ks : List Stepped). length ks) c.as_mut_slice.ensures.value) ∙ c.as_mut_slice.ensures.len) in
    let x : Signals = record { before = c.signals_before.result; behind = c.signals.result } in
    let stood = subst (λ (ks : List Stepped). StandFor net (old_state net past) ks) (sym c.as_mut_slice.ensures.value) (c.begin.ensures.kept past stands) in
    let steps = subst (λ (ks : List Stepped). AllStep net c.passed-passed.result x c.as_mut_slice.result.now ks) (sym kept_is) c.step_instances.ensures.so in
    let since_is : w.since.items ≡ c.note_all.new.since =
    with_items_is w1.since c.note_all.new.since (c.note_all.ensures.len ∙ c.as_mut_slice-2.ensures.len) in
    let was = c.as_mut_slice-2.result.now in
    let were = subst (λ (ss : List Since). AreNoted before ss) (sym (c.as_mut_slice-2.ensures.value ∙ c.begin.ensures.since)) noted in
    subst (λ (s : Scan). IsLook net (record { past = past; now = s.now; ins = s.ins; new = v; before = before }) w) c.begin.ensures.scan
    (looks net sound past s0.now s0.ins v solves0 due0 w w1.evaluator _ (c.begin.ensures.stands past stands) c.perform_scan.ensures.performs
    x c.signals_before.ensures c.signals.ensures c.as_mut_slice.result.now c.passed-passed.result d_is stood steps
    before was c.is_first-first.result (c.is_first-first.ensures ∙ ap (λ (b : Option ℕ). is_none b) time_is)
    (ap (λ (ss : List Since). length ss) since_is ∙ c.note_all.ensures.len)
    (ap (λ (ss : List Since). length ss) c.as_mut_slice-2.ensures.value ∙ c.begin.ensures.fits.since
    ∙ sym (ap (λ (ks : List Stepped). length ks) kept_is ∙ c.step_instances.ensures.kept.each))
    (λ i seen s seen_at at.
    ap (λ (ss : List Since). slice_get ss i) since_is
    ∙ c.note_all.ensures.each i seen s (ap (λ (ks : List Stepped). slice_get ks i) c.as_slice.ensures.value ∙ seen_at) at)
    were (record { now = s0.now; before = w1.before }) refl refl time_is)

pub returns-clause-stands : goal.returns-clause-stands
returns-clause-stands c = λ past v stands due solves.
    let net = c.args.app.now in
    let sound = c.sound.ensures in
    let w1 = c.begin.new.self in
    let s0 = w1.scan in
    let w : Walker = record {
      evaluator = c.perform_scan.new.self;
      kept = with_items w1.kept c.step_instances.new.kept;
      since = with_items w1.since c.note_all.new.since;
      scan = s0;
      report = c.perform_scan.new.report;
      before = Some s0.now;
      last = Some (record { now = s0.now; before = w1.before });
    } in
    let solves0 = subst (λ (s : Scan). Solves net (old_state net past) s.ins (passed past s.now) v) (sym c.begin.ensures.scan) solves in
    let due0 = subst (λ (s : Scan). last_time past ≤ s.now) (sym c.begin.ensures.scan) due in
    let time_is : w1.before ≡ time_of past = c.begin.ensures.before ∙ before_is net past c.args.self.now stands in
    let d_is : c.passed-passed.result ≡ passed past s0.now =
    c.passed-passed.ensures ∙ ap (λ (b : Option ℕ). since b s0.now) time_is ∙ passes past s0.now in
    let kept_is : w.kept.items ≡ c.step_instances.new.kept =
    with_items_is w1.kept c.step_instances.new.kept
    (c.step_instances.ensures.kept.each ∙ sym c.begin.ensures.fits.kept.each
    ∙ sym (ap (λ (ks : List Stepped). length ks) c.as_mut_slice.ensures.value) ∙ c.as_mut_slice.ensures.len) in
    let x : Signals = record { before = c.signals_before.result; behind = c.signals.result } in
    let stood = subst (λ (ks : List Stepped). StandFor net (old_state net past) ks) (sym c.as_mut_slice.ensures.value) (c.begin.ensures.kept past stands) in
    let steps = subst (λ (ks : List Stepped). AllStep net c.passed-passed.result x c.as_mut_slice.result.now ks) (sym kept_is) c.step_instances.ensures.so in
    subst (λ (s : Scan). StandsBehind net (last s.now v) w) c.begin.ensures.scan
    (stands_behind net sound past s0.now s0.ins v solves0 due0 w w1.evaluator _ (c.begin.ensures.stands past stands) c.perform_scan.ensures.performs
    x c.signals_before.ensures c.signals.ensures c.as_mut_slice.result.now c.passed-passed.result d_is stood steps refl)
