use Rattle.std.proofs.Common.{◌∙◌, arith}
use Rattle.std.proofs.lemmas.Grind.{get_or_default_zero}
use Rattle.ps_demand.proofs.counting.count_leaves.Goals as goal

pub returns : goal.returns
returns c =
    let s = c.args.signal in
    let counts = c.in_ok-counts.counts.items in
    c.index.ensures
    ∙ get_or_default_zero counts s _ (omega (arith, c.in_ok-counts.ensures.long, c.requires.below))
    ∙ c.in_ok-counts.ensures.each s c.requires.below c.requires.safe
