use Rattle.std.proofs.Common.{◌≡◌, ◌++◌, map, drop}
use Rattle.std.specs.Prelude.{flat_map}
use Rattle.ps_demand.specs.declared.join.Join.TheVariants.{And}
use Rattle.ps_demand.specs.Passes.{slim_of_need, kept_for}
use Rattle.ps_demand.specs.Slim.{parts_within}
use Rattle.ps_demand.specs.Views.{requirement}
use Rattle.ps_demand.proofs.slimming.slim_output.Given as goal

-- the parts so far, and those of the pins that are left, make the whole
abbrev pub invariant-loop-need : goal.invariant-loop-need
invariant-loop-need l =
    map requirement l.parts.items
    ++ flat_map (parts_within And) (map (slim_of_need l.app l.k (kept_for l.rows) l.kind l.args) (drop l.need-index l.needs))
    ≡ flat_map (parts_within And) (map (slim_of_need l.app l.k (kept_for l.rows) l.kind l.args) l.needs)
