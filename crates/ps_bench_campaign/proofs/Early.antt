-- A trial that begins at a mark, and one that ends at a mark: it comes to the same.
use Rattle.std.proofs.Common.{◌≡◌, ◌∙◌, ◌≤◌, ◌-◌, ℕ, List, [], ◌∷◌, length, sym, ap}
use Rattle.ps_bench_trials.specs.declared.step.Step.{Step}
use Rattle.ps_model.specs.Network.{Network, instance_count}
use Rattle.ps_model.specs.declared.channel.Fault.{Fault}
use Rattle.ps_bench_trials.specs.declared.outcome.Outcome.{Outcome}
use Rattle.ps_bench_trials.specs.declared.outcome.Outcome.TheVariants.{Silent}
use Rattle.ps_world.specs.Whole.{Setup, Whole, IsSetupOf, machines_in}
use Rattle.ps_world.specs.Worlds.{world_0}
use Rattle.ps_bench_campaign.specs.Marks.{GoQuietly, IsMoment, shown_from}
use Rattle.ps_bench_campaign.proofs.Going.{Goes, at_first, showing}
use Rattle.ps_bench_campaign.proofs.Marking.{silent}
use Rattle.ps_bench_campaign.proofs.Trying.{one_setup}

module _ (net : Network) (f : Fault) (struck : ℕ) (all : List Step) where
  -- where no scan is done that the fault strikes, the trial may begin
  pub begins : (steps : List Step) (scans : ℕ) (w v : Whole) → IsSetupOf net w.setup → IsMoment net all steps scans v → scans ≤ f.scan - 1 →
      Goes net (f ∷ []) struck (showing net (f ∷ []) struck 0 all (at_first w)) scans steps v
  begins steps scans w v is so before =
      let same : v.setup ≡ w.setup = one_setup net v.setup w.setup so.setup is in
      record {
        setup = so.setup;
        rest = so.rest;
        fits = so.fits;
        shows =
            sym (so.same f struck before)
            ∙ ap (λ (s : Setup). shown_from (machines_in s) (length net.outputs) (instance_count net) (f ∷ []) struck 0 all (world_0 (machines_in s))) same;
      }

  -- where the fault has struck, and all goes on quietly, it may end
  pub is_silent : (whole : Outcome) (steps : List Step) (scans : ℕ) (w : Whole) → Goes net (f ∷ []) struck whole scans steps w → f.scan ≤ scans →
      GoQuietly (machines_in w.setup) (length net.outputs) (instance_count net) steps w.state → Silent ≡ whole
  is_silent whole steps scans w so behind quiet =
      sym (silent (machines_in w.setup) (length net.outputs) (instance_count net) f struck scans steps w.state behind quiet)
      ∙ so.shows
