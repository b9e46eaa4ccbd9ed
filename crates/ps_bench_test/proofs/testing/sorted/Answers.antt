use Rattle.std.proofs.Common.{rules, ◌∙◌}
use Rattle.std.proofs.lemmas.List.Sorted.{answers_always, ties_still_rise, IsNonDecreasingBy-from_sort_by_key}
use Rattle.ps_bench_test.proofs.Ordering.{in_order}
use Rattle.ps_bench_test.proofs.testing.sorted.Goals as goal

pub returns-clause-same : goal.returns-clause-same
returns-clause-same c = λ p.
    in_order c.sort_by_key.new.self.items c.sort_by_key-2.new.self.items c.sort_by_key-2.ensures.permutation p
    ∙ in_order c.args.failures.items c.sort_by_key.new.self.items c.sort_by_key.ensures.permutation p

pub returns-clause-ordered : goal.returns-clause-ordered
returns-clause-ordered c = record {
  by_line = IsNonDecreasingBy-from_sort_by_key (λ failure. failure.line) _ c.in_ok-sort_by_key-2.ensures.sorted (λ a r q k. search rules);
  by_time = ties_still_rise (λ failure. failure.now) (λ failure. failure.line) _ _
      (c.in_ok-sort_by_key.ensures.sorted (λ failure. failure.now) (answers_always _ _ _ (λ f a r g h. search rules)))
      (c.sort_by_key-2.ensures.stable (λ failure. failure.line) (answers_always _ _ _ (λ f a r g h. search rules)));
}
