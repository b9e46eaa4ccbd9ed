-- Sums of files in any order.
use Rattle.std.proofs.Common.{◌≡◌, ◌∙◌, ℕ, List, [], ◌∷◌, ◌++◌, Option, refl, sym, ap}
use Rattle.ps_bench_trials.proofs.TallyAdding.{any_order as tallies_any_order}
use Rattle.ps_bench_trials.specs.Adding.{added}
use Rattle.ps_bench_trials.specs.Files.{AddsFiles}
use Rattle.ps_bench_trials.specs.SumLaws.{IsOfAnyOrder}
use Rattle.ps_bench_trials.specs.Sums.{Adds}
use Rattle.ps_bench_trials.specs.declared.summing.Totals.{Totals}

-- two that are added one after another are added the other way round
turned : (a x y b c : Totals) → Adds a x b → Adds b y c → (d : Totals) × Adds a y d × Adds d x c
turned a x y b c first second =
    let swapped : added (added a.tally x.tally) y.tally ≡ added (added a.tally y.tally) x.tally =
    tallies_any_order.1 a.tally x.tally y.tally ∙ ap (added a.tally) (tallies_any_order.0 x.tally y.tally)
    ∙ sym (tallies_any_order.1 a.tally y.tally x.tally) in (
      record { app = a.app; trace = a.trace; tally = added a.tally y.tally },
      record {
        app = (second.app.0 ∙ first.app.1, refl);
        trace = (second.trace.0 ∙ first.trace.1, refl);
        counts = refl;
      },
      record {
        app = (first.app.0, second.app.1 ∙ first.app.1);
        trace = (first.trace.0, second.trace.1 ∙ first.trace.1);
        counts = second.counts ∙ ap (λ ls. added ls y.tally) first.counts ∙ swapped;
      },
    )

-- the same of the first one and the one after it
begun_turned : (x y c : Totals) → Adds x y c → Adds y x c
begun_turned x y c adds = record {
  app = (sym adds.app.0, adds.app.1 ∙ sym adds.app.0);
  trace = (sym adds.trace.0, adds.trace.1 ∙ sym adds.trace.0);
  counts = adds.counts ∙ tallies_any_order.0 x.tally y.tally;
}

-- two files beside each other, after others
files_turned : (held : List ℕ → Option (List ℕ)) (names others : List (List ℕ)) (one other : List ℕ) (a c : Totals) →
    AddsFiles held (names ++ one ∷ other ∷ others) a c → AddsFiles held (names ++ other ∷ one ∷ others) a c
files_turned held [] others one other a c (b, (x, tells, first), (d, (y, told, second), rest)) =
    let other_way = turned a x y b d first second in
    (other_way.0, (y, told, other_way.1), (d, (x, tells, other_way.2), rest))
files_turned held (name ∷ names) others one other a c (b, adds, rest) =
    (b, adds, files_turned held names others one other b c rest)

pub any_order : IsOfAnyOrder
any_order held [] others one other total (x, tells, (c, (y, told, adds), rest)) =
    (y, told, (c, (x, tells, begun_turned x y c adds), rest))
any_order held (name ∷ names) others one other total (begun, tells, adds) =
    (begun, tells, files_turned held names others one other begun total adds)
