use Rattle.std.proofs.Common.{sym, map, arith}
use Rattle.std.proofs.lemmas.List.{length-map}
use Rattle.ps_demand.specs.Views.{requirement}
use Rattle.ps_demand.proofs.Lengths.{lengths_differ}
use Rattle.ps_demand.proofs.demand.+same.Goals as goal

pub are_same-returns-then-len : goal.are_same-returns-then-len
are_same-returns-then-len t c =
    let parts = c.args.parts.now.items.items in
    let others = c.args.others.now.items.items in
    sym (lengths_differ (map requirement parts) (map requirement others) (λ equal. omega (arith, length-map parts requirement, length-map others requirement)))
