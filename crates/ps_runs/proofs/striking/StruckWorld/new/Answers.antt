use Rattle.std.proofs.Common.{◌≤◌, ◌<◌, ℕ, List, take, drop, length, refl, sym, subst}
use Rattle.std.specs.Prelude.{All}
use Rattle.std.specs.List.Sorted.{IsNonDecreasingBy}
use Rattle.ps_model.specs.declared.channel.Fault.{Fault}
use Rattle.ps_runs.proofs.ToCome.{first_fits, in_order_of_scans}
use Rattle.ps_runs.proofs.striking.StruckWorld.new.Goals as goal

pub returns-clause-begins : goal.returns-clause-begins
returns-clause-begins c = λ net built.
    let next : ℕ = c.count_upto-next.result in
    let same = c.as_slice.ensures in
    record {
      world = built;
      none_made = refl;
      none_tripped = refl;
      no_trip = refl;
      ordered = c.requires.ordered;
      one_channel = c.requires.one_channel;
      within = subst (λ (fs : List Fault). next ≤ length fs) same c.count_upto-next.ensures.within;
      passed_over = subst (λ (fs : List Fault). All (λ f. f.scan ≤ 0) (take next fs)) same c.count_upto-next.ensures.upto;
      later = subst (λ (fs : List Fault). All (λ f. 0 < f.scan) (drop next fs)) same c.count_upto-next.ensures.later;
    }

pub returns-clause-fits : goal.returns-clause-fits
returns-clause-fits c = λ net built. first_fits net _ (returns-clause-begins c net built)

pub count_upto-next-requires : goal.count_upto-next-requires
count_upto-next-requires c = subst (λ (fs : List Fault). IsNonDecreasingBy (λ (f : Fault). f.scan) fs) (sym c.as_slice.ensures) (in_order_of_scans c.args.faults c.requires.ordered)
