use Rattle.std.proofs.Common.{◌∙◌, ap}
use Rattle.ps_ways.specs.Stepping.{conditions_of}
use Rattle.ps_ways.specs.Ways.{taken}
use Rattle.ps_ways.proofs.EachKind.{each_kind}
use Rattle.ps_ways.proofs.table.guard_taken.Goals as goal

-- the ways take the guard that the table takes
pub returns : goal.returns
returns c =
    c.taken_of.ensures
    ∙ ap (λ ways. taken ways c.args.state (conditions_of c.args.step.now)) c.ways.ensures
    ∙ each_kind c.args.kind c.args.state (conditions_of c.args.step.now)
