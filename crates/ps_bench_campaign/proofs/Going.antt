-- How a trial goes on from step to step: what it comes to is what the steps that are left show from where the world stands.
use Rattle.std.proofs.Common.{◌≡◌, ◌∙◌, ◌≤◌, ◌+◌, ℕ, suc, false, List, [], ◌∷◌, Option, Some, None, length, refl, sym, ap, subst, arith}
use Rattle.std.specs.Prelude.{unwrap_or}
use Rattle.ps_bench_campaign.specs.Courses.{AreStepsFor, meant_in}
use Rattle.ps_bench_trials.specs.Steps.{items_in}
use Rattle.ps_bench_trials.specs.declared.step.Step.{Step}
use Rattle.ps_bench_trials.specs.declared.step.Step.TheVariants.{Scanned, Anew}
use Rattle.ps_model.specs.Fields.{first_difference}
use Rattle.ps_model.specs.Network.{Network, instance_count}
use Rattle.ps_model.specs.declared.channel.Fault.{Fault}
use Rattle.ps_model.specs.declared.channel.Verdict.{Verdict}
use Rattle.ps_model.specs.declared.report.Report.{Report}
use Rattle.ps_model.specs.declared.report.Scan.{Scan}
use Rattle.ps_bench_trials.specs.declared.outcome.Outcome.{Outcome}
use Rattle.ps_world.specs.Answers.{answers}
use Rattle.ps_world.specs.Orders.{at_compare, of_scan, scan_events}
use Rattle.ps_world.specs.Verdicts.{report_given, verdict}
use Rattle.ps_world.specs.Whole.{Whole, IsSetupOf, after_events, happened, machines_in}
use Rattle.ps_world.specs.Worlds.{Restart, world_0}
use Rattle.ps_bench_trials.specs.Outcomes.{ended_by}
use Rattle.ps_bench_campaign.specs.Showing.{shown}

-- steps that a world can run from a time on it can run from an earlier one on
pub earlier : (net : Network) (time latest : ℕ) (steps : List Step) → time ≤ latest → AreStepsFor net latest steps → AreStepsFor net time steps
earlier net time latest [] before fits = tt
earlier net time latest (Anew ∷ steps) before fits = earlier net time latest steps before fits
earlier net time latest (Scanned s r ∷ steps) before fits =
    ((let due : time ≤ s.now = omega (arith, before, fits.0) in due), fits.1, fits.2, fits.3, fits.4)

-- a world as it was at the beginning
abbrev pub at_first : Whole → Whole
at_first w = record { setup = w.setup; state = world_0 (machines_in w.setup) }

module _ (net : Network) (faults : List Fault) (struck : ℕ) where
  -- what steps show from where a world stands, after so many scans
  abbrev pub showing : ℕ → List Step → Whole → Outcome
  showing done steps w = shown struck (items_in steps) (meant_in steps)
      (answers (machines_in w.setup) (length net.outputs) (instance_count net) faults (suc done) (items_in steps) w.state)

  -- a trial that comes to this has these steps left, after so many scans
  pub record Goes (whole : Outcome) (done : ℕ) (steps : List Step) (w : Whole) : Type 0 where
    pub setup : IsSetupOf net w.setup
    pub rest : w.state.begun ≡ false
    pub fits : AreStepsFor net w.state.last steps
    pub shows : showing done steps w ≡ whole

  -- after a restart
  pub goes_anew : (whole : Outcome) (done : ℕ) (steps : List Step) (w w' : Whole) → Goes whole done (Anew ∷ steps) w → w' ≡ happened Restart w →
      Goes whole done steps w'
  goes_anew whole done steps w w' so is = subst (Goes whole done steps) (sym is)
      (record { setup = so.setup; rest = refl; fits = so.fits; shows = so.shows })

  module _ (whole : Outcome) (done : ℕ) (steps : List Step) (w : Whole) (s : Scan) (meant : Report) (due : List Fault)
      (so : Goes whole done (Scanned s meant ∷ steps) w) (due_is : due ≡ of_scan (done + 1) faults)
      (v : Verdict) (given : Report)
      (v_is : v ≡ verdict (machines_in w.setup) (at_compare (machines_in w.setup) due s.now s.ins w.state))
      (given_is : given ≡ report_given (machines_in w.setup) w.setup.sizes.outputs w.setup.sizes.instances
      (at_compare (machines_in w.setup) due s.now s.ins w.state)) where
    one : done + 1 ≡ suc done
    one = omega arith

    -- what comes after the scan, where these faults strike in it
    abbrev later : List Fault → Outcome
    later f = shown struck (items_in steps) (meant_in steps)
        (answers (machines_in w.setup) (length net.outputs) (instance_count net) faults (suc (suc done)) (items_in steps)
        (after_events (scan_events (machines_in w.setup) f s.now s.ins w.state) w).state)

    -- what the scan shows, and what comes after it
    pub scan_shows : unwrap_or (ended_by v struck s.now (first_difference given meant)) (later due) ≡ whole
    scan_shows =
        let m = machines_in w.setup in
        let o = so.setup.sizes.outputs in
        let n = so.setup.sizes.instances in
        let given' : given ≡ report_given m (length net.outputs) (instance_count net) (at_compare m due s.now s.ins w.state) =
        given_is ∙ (λ i. report_given m (o i) (n i) (at_compare m due s.now s.ins w.state)) in
        (λ i. unwrap_or (ended_by (v_is i) struck s.now (first_difference (given' i) meant)) (later due))
        ∙ ap (λ (f : List Fault). unwrap_or (ended_by (verdict m (at_compare m f s.now s.ins w.state)) struck s.now
        (first_difference (report_given m (length net.outputs) (instance_count net) (at_compare m f s.now s.ins w.state)) meant)) (later f)) (due_is ∙ ap (λ n. of_scan n faults) one)
        ∙ so.shows

    -- the scan ends the trial
    pub ends : (ended : Option Outcome) (outcome : Outcome) → ended ≡ ended_by v struck s.now (first_difference given meant) → ended ≡ Some outcome →
        outcome ≡ whole
    ends ended outcome by is = ap (λ (e : Option Outcome). unwrap_or e (later due)) (sym is ∙ by) ∙ scan_shows

    -- the trial goes on after it
    pub goes_on : (ended : Option Outcome) (w' : Whole) → ended ≡ ended_by v struck s.now (first_difference given meant) → ended ≡ None →
        w' ≡ after_events (scan_events (machines_in w.setup) due s.now s.ins w.state) w → w'.state.begun ≡ false → w'.state.last ≤ s.now →
        Goes whole (done + 1) steps w'
    goes_on ended w' by is there rest last =
        let fits : AreStepsFor net w'.state.last steps = earlier net w'.state.last s.now steps last so.fits.4 in
        let setup : IsSetupOf net w'.setup = subst (λ (x : Whole). IsSetupOf net x.setup) (sym there) so.setup in
        let shows : showing (suc done) steps w' ≡ whole =
        ap (λ (x : Whole). showing (suc done) steps x) there
        ∙ ap (λ (e : Option Outcome). unwrap_or e (later due)) (sym is ∙ by) ∙ scan_shows in
        subst (λ n. Goes whole n steps w') (sym one) (record { setup = setup; rest = rest; fits = fits; shows = shows })
