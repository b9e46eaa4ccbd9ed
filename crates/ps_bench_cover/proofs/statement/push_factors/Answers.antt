use Rattle.std.proofs.Common.{◌∙◌, length, map, take, sym, ap, arith}
use Rattle.std.proofs.lemmas.List.{length-map, take_all}
use Rattle.ps_parser.specs.SumView.{factor_tree, factor_trees}
use Rattle.ps_parser.proofs.Views.{factor_trees-items}
use Rattle.ps_bench_cover.specs.Operands.{of_and}
use Rattle.ps_bench_cover.proofs.Joined.{few, many}
use Rattle.ps_bench_cover.proofs.statement.push_factors.Goals as goal

pub returns-then-count-lt2 : goal.returns-then-count-lt2
returns-then-count-lt2 c =
    let all = c.args.factors.now in
    few of_and (factor_trees all) (omega (arith, ap length (factor_trees-items all), length-map all.items.items factor_tree)) c.args.places.now.items

pub returns : goal.returns
returns c =
    let all = c.args.factors.now in
    let items = c.deref-factor-items in
    let i = c.loop-factor.factor-index in
    many of_and (factor_trees all) (map factor_tree (take i items.result.now))
    (ap (map factor_tree) (take_all i items.result.now (omega arith) ∙ items.ensures.value) ∙ sym (factor_trees-items all))
    (omega (arith, ap length (factor_trees-items all), length-map all.items.items factor_tree)) c.args.places.now.items c.loop-factor.places.items c.loop-factor.invariant
