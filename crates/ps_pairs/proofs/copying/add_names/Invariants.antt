use Rattle.std.proofs.Common.{◌≡◌, ◌++◌, drop}
use Rattle.std.specs.List.{flat_map}
use Rattle.ps_pairs.specs.Arranging.{taken_name}
use Rattle.ps_pairs.specs.Wanting.{wants}
use Rattle.ps_pairs.proofs.copying.add_names.Given as goal

abbrev pub invariant-loop-name : goal.invariant-loop-name
invariant-loop-name l =
    l.written ++ flat_map (taken_name (wants l.wanted) l.part l.ty) (drop l.name-index l.names) ≡ l.initial.written ++ flat_map (taken_name (wants l.wanted) l.part l.ty) l.names
