use Rattle.std.proofs.Common.{◌≡◌, map, filter, take}
use Rattle.ps_names.specs.Names.{is_instance}
use Rattle.ps_names.specs.Stands.{instance_named}
use Rattle.ps_resolve.proofs.parts.instances.Given as goal

abbrev pub invariant-loop-i : goal.invariant-loop-i
invariant-loop-i l = l.instances ≡ map instance_named (filter (λ e. is_instance e.sort) (take l.i l.entries))
