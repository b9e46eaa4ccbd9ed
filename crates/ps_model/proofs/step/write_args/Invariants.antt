use Rattle.std.proofs.Common.{◌≡◌, ◌++◌, drop}
use Rattle.std.specs.List.{flat_map}
use Rattle.ps_model.specs.NodeList.{listed_at_pin}
use Rattle.ps_model.proofs.step.write_args.Given as goal

-- what was listed, and what is listed of the arguments that are left
abbrev pub invariant-loop-j : goal.invariant-loop-j
invariant-loop-j l =
    l.list.items ++ flat_map listed_at_pin (drop l.j l.args)
    ≡ l.initial.list.items ++ flat_map listed_at_pin l.args
