-- Moments of the run without a fault: what a fault shows that strikes later is what it shows from there on, and what a fault shows that struck before
-- is nothing, where the world is as there.
use Rattle.std.proofs.Common.{◌≡◌, ◌∙◌, ◌≤◌, ◌+◌, ◌-◌, ℕ, suc, false, List, [], ◌∷◌, Option, length, refl, sym, ap, subst, arith}
use Rattle.std.specs.Prelude.{unwrap_or, cond}
use Rattle.std.proofs.lemmas.Bool.{ne_eqb}
use Rattle.std.proofs.lemmas.List.Elements.{All-head, All-tail}
use Rattle.std.specs.List.{All}
use Rattle.ps_bench_campaign.specs.Courses.{AreStepsFor, latest_in, meant_in, reports_of}
use Rattle.ps_bench_trials.specs.Steps.{items_in}
use Rattle.ps_bench_trials.specs.declared.step.Step.{Step}
use Rattle.ps_bench_trials.specs.declared.step.Step.TheVariants.{Scanned, Anew}
use Rattle.ps_model.proofs.FieldPlaces.{no_difference_from_equal}
use Rattle.ps_model.specs.Fields.{first_difference}
use Rattle.ps_model.specs.Network.{Network, input_count, instance_count}
use Rattle.ps_model.specs.Scanning.{State}
use Rattle.ps_model.specs.declared.channel.Fault.{Fault}
use Rattle.ps_model.specs.declared.channel.Verdict.TheVariants.{Released}
use Rattle.ps_model.specs.declared.report.Report.{Report}
use Rattle.ps_model.specs.declared.report.Scan.{Scan}
use Rattle.ps_machine.specs.Items.{AreTimely}
use Rattle.ps_bench_trials.specs.declared.outcome.Outcome.{Outcome}
use Rattle.ps_bench_trials.specs.declared.outcome.Outcome.TheVariants.{Silent}
use Rattle.ps_world.specs.Answers.{ReleaseAll, answers}
use Rattle.ps_world.specs.Orders.{at_compare, of_scan, scan_events}
use Rattle.ps_world.specs.Steps.{after, world_step}
use Rattle.ps_world.specs.Verdicts.{report_given, verdict}
use Rattle.ps_world.specs.Whole.{Whole, IsWorldOf, machines_in}
use Rattle.ps_world.specs.Worlds.{Machines, World_state, Restart, world_0}
use Rattle.ps_bench_campaign.specs.Marks.{GoQuietly, IsMoment, IsShort, passed, scans_of, shown_from}
use Rattle.ps_bench_trials.specs.Outcomes.{ended_by}
use Rattle.ps_bench_campaign.proofs.Going.{earlier}

-- a fault strikes no other scan than its own
not_due : (f : Fault) (number : ℕ) → (f.scan ≡ number → ⊥) → of_scan number (f ∷ []) ≡ []
not_due f number other = ap (λ b. cond b (f ∷ []) []) (ne_eqb f.scan number other)

module _ (m : Machines) (outputs instances : ℕ) where
  -- a scan shows nothing that the fault does not strike, where it goes quietly
  passes : (f : Fault) (struck scans : ℕ) (s : Scan) (meant : Report) (steps : List Step) (x : World_state) → (f.scan ≡ suc scans → ⊥) →
      verdict m (at_compare m [] s.now s.ins x) ≡ Released → report_given m outputs instances (at_compare m [] s.now s.ins x) ≡ meant →
      shown_from m outputs instances (f ∷ []) struck scans (Scanned s meant ∷ steps) x
      ≡ shown_from m outputs instances (f ∷ []) struck (suc scans) steps (after m (scan_events m [] s.now s.ins x) x)
  passes f struck scans s meant steps x other released given =
      let shows : List Fault → Outcome = λ due. unwrap_or
      (ended_by (verdict m (at_compare m due s.now s.ins x)) struck s.now (first_difference (report_given m outputs instances (at_compare m due s.now s.ins x)) meant))
      (shown_from m outputs instances (f ∷ []) struck (suc scans) steps (after m (scan_events m due s.now s.ins x) x)) in
      let later = shown_from m outputs instances (f ∷ []) struck (suc scans) steps (after m (scan_events m [] s.now s.ins x) x) in
      ap shows (not_due f (suc scans) other)
      ∙ (λ i. unwrap_or (ended_by (released i) struck s.now (first_difference (given i) meant)) later)
      ∙ ap (λ (d : Option ℕ). unwrap_or (ended_by Released struck s.now d) later) (no_difference_from_equal meant meant refl)

  -- after its scan a fault shows nothing, where all goes on quietly
  pub silent : (f : Fault) (struck scans : ℕ) (steps : List Step) (x : World_state) → f.scan ≤ scans → GoQuietly m outputs instances steps x →
      shown_from m outputs instances (f ∷ []) struck scans steps x ≡ Silent
  silent f struck scans [] x behind quiet = refl
  silent f struck scans (Anew ∷ steps) x behind quiet = silent f struck scans steps (world_step m Restart x) behind quiet
  silent f struck scans (Scanned s meant ∷ steps) x behind quiet =
      let other : f.scan ≡ suc scans → ⊥ = λ e. omega (arith, e, behind) in
      let more : f.scan ≤ suc scans = omega (arith, behind) in
      passes f struck scans s meant steps x other quiet.0 quiet.1
      ∙ silent f struck (suc scans) steps (after m (scan_events m [] s.now s.ins x) x) more quiet.2

  -- what was recorded goes on quietly, where every scan is released
  pub recorded : (net : Network) (number : ℕ) (steps : List Step) (x : World_state) (ws : List State) →
      meant_in steps ≡ reports_of (answers m outputs instances [] number (items_in steps) x) →
      ReleaseAll net (answers m outputs instances [] number (items_in steps) x) ws → GoQuietly m outputs instances steps x
  recorded net number [] x ws meant all = tt
  recorded net number (Anew ∷ steps) x ws meant all = recorded net number steps (world_step m Restart x) ws meant all
  recorded net number (Scanned s r ∷ steps) x [] meant all = absurd all
  recorded net number (Scanned s r ∷ steps) x (w ∷ ws) meant all =
      let given : report_given m outputs instances (at_compare m [] s.now s.ins x) ≡ r = cc in
      let rest : meant_in steps ≡ reports_of (answers m outputs instances [] (suc number) (items_in steps) (after m (scan_events m [] s.now s.ins x) x)) = cc in
      (all.0, given, recorded net (suc number) steps (after m (scan_events m [] s.now s.ins x) x) ws rest all.2)

-- the beginning is a moment
pub moment_first : (net : Network) (all : List Step) (w : Whole) → IsWorldOf net w → AreStepsFor net 0 all →
    GoQuietly (machines_in w.setup) (length net.outputs) (instance_count net) all (world_0 (machines_in w.setup)) → IsMoment net all all 0 w
moment_first net all w is fits quiet = record {
  setup = is.setup;
  rest = ap (λ (x : World_state). x.begun) is.beginning;
  fits = subst (λ (t : ℕ). AreStepsFor net t all) (sym (ap (λ (x : World_state). x.last) is.beginning)) fits;
  quiet = subst (λ (x : World_state). GoQuietly (machines_in w.setup) (length net.outputs) (instance_count net) all x) (sym is.beginning) quiet;
  same = λ f struck before. ap (λ (x : World_state). shown_from (machines_in w.setup) (length net.outputs) (instance_count net) (f ∷ []) struck 0 all x) (sym is.beginning);
}

-- after a step comes the next moment
pub moment_next : (net : Network) (all steps : List Step) (step : Step) (scans : ℕ) (w w' : Whole) → IsMoment net all (step ∷ steps) scans w →
    w' ≡ passed step w → w'.state.begun ≡ false → w'.state.last ≤ latest_in w.state.last (step ∷ []) →
    IsMoment net all steps (scans + scans_of step) w'
moment_next net all steps Anew scans w w' so is rest last =
    let none : scans + 0 ≡ scans = omega arith in
    subst (λ (n : ℕ). IsMoment net all steps n w') (sym none)
    (subst (IsMoment net all steps scans) (sym is)
    (record { setup = so.setup; rest = refl; fits = so.fits; quiet = so.quiet; same = so.same }))
moment_next net all steps (Scanned s meant) scans w w' so is rest last =
    let m = machines_in w.setup in
    let one : scans + 1 ≡ suc scans = omega arith in
    let x = after m (scan_events m [] s.now s.ins w.state) w.state in
    let rest' : x.begun ≡ false = ap (λ (v : Whole). v.state.begun) (sym is) ∙ rest in
    let last' : x.last ≤ s.now = subst (λ (v : Whole). v.state.last ≤ s.now) is last in
    subst (λ (n : ℕ). IsMoment net all steps n w') (sym one)
    (subst (IsMoment net all steps (suc scans)) (sym is) (record {
      setup = so.setup;
      rest = rest';
      fits = earlier net x.last s.now steps last' so.fits.4;
      quiet = so.quiet.2;
      same = λ f struck before.
          let fewer : scans ≤ f.scan - 1 = omega (arith, before) in
          let other : f.scan ≡ suc scans → ⊥ = λ e. omega (arith, e, before) in
          so.same f struck fewer ∙ passes m (length net.outputs) (instance_count net) f struck scans s meant steps w.state other so.quiet.0 so.quiet.1;
    }))

-- ---- Steps that a run can make.

pub timely : (net : Network) (latest : ℕ) (steps : List Step) → AreStepsFor net latest steps → All IsShort steps → AreTimely (input_count net) latest (items_in steps)
timely net latest [] fits short = tt
timely net latest (Anew ∷ steps) fits short = timely net latest steps fits (All-tail IsShort Anew steps short)
timely net latest (Scanned s meant ∷ steps) fits short =
    (fits.0, All-head IsShort (Scanned s meant) steps short, fits.1, timely net s.now steps fits.4 (All-tail IsShort (Scanned s meant) steps short))

-- what steps that a run can make begin with, it can make
pub one_fits : (net : Network) (latest : ℕ) (step : Step) (steps : List Step) → AreStepsFor net latest (step ∷ steps) → AreStepsFor net latest (step ∷ [])
one_fits net latest Anew steps fits = tt
one_fits net latest (Scanned s meant) steps fits = (fits.0, fits.1, fits.2, fits.3, tt)
