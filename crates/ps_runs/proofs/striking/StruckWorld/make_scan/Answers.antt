use Rattle.std.proofs.Common.{◌≡◌, ◌≤◌, ◌<◌, ◌∙◌, ◌++◌, ◌⊎◌, suc, [], List, take, drop, length, sym, ap, subst, arith}
use Rattle.std.specs.Prelude.{◌||◌, All}
use Rattle.std.specs.List.Sorted.{IsNonDecreasingBy}
use Rattle.std.proofs.lemmas.List.{drop-drop, take-append-drop, length-drop}
use Rattle.std.proofs.lemmas.List.Sorted.{IsNonDecreasingBy-drop}
use Rattle.std.specs.Option.{option_or}
use Rattle.ps_model.specs.declared.channel.Channel.TheVariants.{A, B}
use Rattle.ps_model.specs.declared.channel.Fault.{Fault}
use Rattle.ps_model.specs.declared.channel.Verdict.{Verdict}
use Rattle.ps_world.specs.Orders.{at_compare, scan_events}
use Rattle.ps_world.specs.Verdicts.{verdict, report_given}
use Rattle.ps_world.specs.Whole.{Whole, machines_in, after_events, IsSetupOf}
use Rattle.ps_world.specs.Worlds.{World_state, Compare}
use Rattle.ps_world.specs.Steps.{world_step}
use Rattle.ps_world.proofs.Run.{after_scan}
use Rattle.ps_runs.specs.Outcomes.{performed}
use Rattle.ps_runs.specs.Performing.{to_come, due, trips_with}
use Rattle.ps_runs.specs.Tripping.{outcome_in, trip_with}
use Rattle.ps_runs.proofs.ToCome.{counted_are_due}
use Rattle.ps_runs.proofs.striking.StruckWorld.make_scan.Goals as goal

pub returns-clause-makes : goal.returns-clause-makes
returns-clause-makes c =
    let p = c.args.self.now in
    let now = c.args.scan.now.now in
    let ins = c.args.scan.now.ins in
    let m = machines_in p.world.setup in
    let k = c.count_upto-due.result in
    let number = c.number_behind-number.result in
    let same : c.faults_from-to_come.result.now ≡ to_come p = c.faults_from-to_come.ensures ∙ ap (λ (fs : List Fault). drop c.args.self.now.next fs) c.as_slice.ensures in
    let counts : (to_come p ≡ []) ⊎ (number ≡ suc p.scans) = subst (λ (fs : List Fault). (fs ≡ []) ⊎ (number ≡ suc p.scans)) same c.number_behind-number.ensures in
    let struck : take k c.faults_from-to_come.result.now ≡ due p =
    ap (λ (fs : List Fault). take k fs) same
    ∙ counted_are_due p number k c.requires.fits.later counts (subst (λ (fs : List Fault). All (λ f. f.scan ≤ number) (take k fs)) same c.count_upto-due.ensures.upto)
    (subst (λ (fs : List Fault). All (λ f. number < f.scan) (drop k fs)) same c.count_upto-due.ensures.later) in
    let verdict_is : c.make_scan-verdict.result ≡ verdict m (at_compare m (due p) now ins p.world.state) =
    c.make_scan-verdict.ensures.verdict ∙ ap (λ (fs : List Fault). verdict m (at_compare m fs now ins p.world.state)) struck in
    let at : World_state = at_compare m (due p) now ins p.world.state in
    let behind : c.make_scan-verdict.new.self ≡ record { setup = p.world.setup; state = world_step m Compare at } =
    c.make_scan-verdict.ensures.events ∙ ap (λ (fs : List Fault). after_events (scan_events m fs now ins p.world.state) p.world) struck
    ∙ (λ i. record { setup = p.world.setup; state = after_scan m (due p) now ins p.world.state i }) in
    record {
      compares = λ i. performed now (verdict_is i)
          ((c.make_scan-verdict.ensures.report ∙ (λ j. report_given m (c.requires.fits.setup.sizes.outputs j) (c.requires.fits.setup.sizes.instances j) (at_compare m (struck j) now ins p.world.state))) i);
      happens = c.remember_trip.ensures.same ∙ c.make_scan-verdict.ensures.events ∙ ap (λ (fs : List Fault). after_events (scan_events m fs now ins p.world.state) p.world) struck;
      leaves = sym (take-append-drop k (to_come p)) ∙ (λ i. (sym (ap (λ (fs : List Fault). take k fs) same) ∙ struck) i ++ drop-drop k p.next p.faults i);
      counts = counts;
      remembers = ap (λ b. p.tripped || b) (c.is_trip.ensures ∙ ap trips_with verdict_is);
      trip = c.remember_trip.ensures.first
          ∙ ap (λ (w : Whole). option_or p.trip (trip_with c.make_scan-verdict.result now (outcome_in A (machines_in w.setup) w.state) (outcome_in B (machines_in w.setup) w.state))) behind
          ∙ ap (λ (v : Verdict). option_or p.trip (trip_with v now (outcome_in A m at) (outcome_in B m at))) verdict_is;
    }

pub returns-clause-fits : goal.returns-clause-fits
returns-clause-fits c =
    let p = c.args.self.now in
    let k = c.count_upto-due.result in
    let same : c.faults_from-to_come.result.now ≡ to_come p = c.faults_from-to_come.ensures ∙ ap (λ (fs : List Fault). drop c.args.self.now.next fs) c.as_slice.ensures in
    record {
      setup = subst (λ (w : Whole). IsSetupOf c.args.app.now w.setup) (sym (c.remember_trip.ensures.same ∙ c.make_scan-verdict.ensures.events)) c.requires.fits.setup;
      rest = ap (λ (w : Whole). w.state.begun) c.remember_trip.ensures.same ∙ c.make_scan-verdict.ensures.rest;
      within = omega (arith, c.count_upto-due.ensures.within, ap length same, length-drop p.next p.faults, c.requires.fits.within);
      ordered = subst (λ (fs : List Fault). IsNonDecreasingBy (λ (f : Fault). f.scan) fs) (drop-drop k p.next p.faults) (IsNonDecreasingBy-drop (λ (f : Fault). f.scan) k (to_come p) c.requires.fits.ordered);
      later = subst (λ (fs : List Fault). All (λ f. c.number_behind-number.result < f.scan) fs) (ap (λ (fs : List Fault). drop k fs) same ∙ drop-drop k p.next p.faults) c.count_upto-due.ensures.later;
    }
