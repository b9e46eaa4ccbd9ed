use Rattle.std.proofs.Common.{◌≡◌, map, take}
use Rattle.ps_derived.specs.Dotted.{inside}
use Rattle.ps_flatten.proofs.inside.names_inside.Given as goal

abbrev pub invariant-loop-name : goal.invariant-loop-name
invariant-loop-name l = l.copies ≡ map (inside l.instance) (take l.name-index l.names)
