-- What is known of the steps that were recorded, with one more.
use Rattle.std.proofs.Common.{◌≡◌, ◌∙◌, ◌≤◌, ◌+◌, ℕ, suc, false, List, [], ◌∷◌, ◌++◌, length, refl, sym, ap, subst, arith}
use Rattle.std.proofs.lemmas.List.{length-append}
use Rattle.ps_bench_campaign.specs.Courses.{AreRecorded, IsCourse, behind, latest_in, meant_in, quiet_reports, scan_count}
use Rattle.ps_bench_trials.specs.Steps.{items_in}
use Rattle.ps_bench_campaign.specs.declared.recorder.Course.{Course}
use Rattle.ps_bench_trials.specs.declared.step.Step.{Step}
use Rattle.ps_bench_trials.specs.declared.step.Step.TheVariants.{Scanned, Anew}
use Rattle.ps_model.specs.Network.{Network, input_count, instance_count}
use Rattle.ps_model.specs.declared.report.Report.{Report}
use Rattle.ps_model.specs.declared.report.Scan.{Scan}
use Rattle.ps_world.specs.Orders.{at_compare, scan_events}
use Rattle.ps_world.specs.Steps.{after}
use Rattle.ps_world.specs.Verdicts.{report_given}
use Rattle.ps_world.specs.Whole.{Setup, Whole, IsWorldOf, after_events, happened, machines_in}
use Rattle.ps_world.specs.Worlds.{World_state, Restart, world_0}
use Rattle.ps_bench_campaign.proofs.Trying.{one_setup}
use Rattle.ps_bench_campaign.proofs.Stepping.{behind_anew, behind_scan, items_more, latest_anew, latest_more, meant_anew, meant_more, reports_anew, reports_scan, steps_anew, steps_more}

-- nothing was recorded
pub recorded_none : (net : Network) (w : Whole) → IsWorldOf net w → AreRecorded net w [] 0
recorded_none net w is = record {
  setup = is.setup;
  rest = ap (λ (x : World_state). x.begun) is.beginning;
  last = omega (arith, ap (λ (x : World_state). x.last) is.beginning);
  fits = tt;
  state = is.beginning;
  meant = refl;
  count = refl;
}

module _ (net : Network) (w : Whole) (steps : List Step) (scans : ℕ) (so : AreRecorded net w steps scans) where
  -- one scan more
  pub recorded_scan : (s : Scan) (meant : Report) → latest_in 0 steps ≤ s.now → length s.ins ≡ input_count net →
      meant ≡ report_given (machines_in w.setup) w.setup.sizes.outputs w.setup.sizes.instances (at_compare (machines_in w.setup) [] s.now s.ins w.state) →
      (after_events (scan_events (machines_in w.setup) [] s.now s.ins w.state) w).state.begun ≡ false →
      (after_events (scan_events (machines_in w.setup) [] s.now s.ins w.state) w).state.last ≤ s.now →
      length meant.outs ≡ length net.outputs → length meant.diags ≡ instance_count net →
      AreRecorded net (after_events (scan_events (machines_in w.setup) [] s.now s.ins w.state) w) (steps ++ Scanned s meant ∷ []) (scans + 1)
  recorded_scan s meant due ins gives rest last outs diags =
      let m = machines_in w.setup in
      let x0 = world_0 m in
      let o = so.setup.sizes.outputs in
      let n = so.setup.sizes.instances in
      let gives' : meant ≡ report_given m (length net.outputs) (instance_count net) (at_compare m [] s.now s.ins (behind m (items_in steps) x0)) =
      gives ∙ (λ i. report_given m (o i) (n i) (at_compare m [] s.now s.ins (so.state i))) in
      let more = items_more steps (Scanned s meant) in
      let many = ap length (meant_more steps s meant) ∙ length-append (meant_in steps) (meant ∷ []) in
      record {
        setup = so.setup;
        rest = rest;
        last = subst (λ (t : ℕ). (after m (scan_events m [] s.now s.ins w.state) w.state).last ≤ t) (sym (latest_more 0 steps s meant)) last;
        fits = steps_more net 0 steps s meant so.fits due ins outs diags;
        state = ap (λ (x : World_state). after m (scan_events m [] s.now s.ins x) x) so.state
            ∙ sym (behind_scan m (items_in steps) s.now s.ins x0) ∙ sym (ap (λ items. behind m items x0) more);
        meant = meant_more steps s meant ∙ (λ i. so.meant i ++ gives' i ∷ [])
            ∙ sym (reports_scan m (length net.outputs) (instance_count net) 1 (items_in steps) s.now s.ins x0)
            ∙ sym (ap (λ items. quiet_reports net m items x0) more);
        count = omega (arith, so.count, many);
      }

  -- one restart more
  pub recorded_anew : AreRecorded net (happened Restart w) (steps ++ Anew ∷ []) scans
  recorded_anew =
      let m = machines_in w.setup in
      let x0 = world_0 m in
      let more = items_more steps Anew in
      record {
        setup = so.setup;
        rest = refl;
        last = subst (λ (t : ℕ). w.state.last ≤ t) (sym (latest_anew 0 steps)) so.last;
        fits = steps_anew net 0 steps so.fits;
        state = ap (λ (x : World_state). (happened Restart (record { setup = w.setup; state = x })).state) so.state
            ∙ sym (behind_anew m (items_in steps) x0) ∙ sym (ap (λ items. behind m items x0) more);
        meant = meant_anew steps ∙ so.meant
            ∙ sym (reports_anew m (length net.outputs) (instance_count net) 1 (items_in steps) x0)
            ∙ sym (ap (λ items. quiet_reports net m items x0) more);
        count = so.count ∙ sym (ap length (meant_anew steps));
      }

-- each scan has a report
count_meant : (steps : List Step) → length (meant_in steps) ≡ scan_count (items_in steps)
count_meant [] = refl
count_meant (Scanned s r ∷ steps) = ap suc (count_meant steps)
count_meant (Anew ∷ steps) = count_meant steps

-- what was recorded is a course
pub is_course : (net : Network) (w : Whole) (c : Course) → AreRecorded net w c.steps.items c.scans → IsCourse net c
is_course net w c so = record {
  fits = so.fits;
  meant = λ setup is. subst (λ (s : Setup). meant_in c.steps.items ≡ quiet_reports net (machines_in s) (items_in c.steps.items) (world_0 (machines_in s)))
      (one_setup net w.setup setup so.setup is) so.meant;
  count = so.count ∙ count_meant c.steps.items;
}
