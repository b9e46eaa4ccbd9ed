use Rattle.std.proofs.Common.{◌≡◌, ◌++◌, drop}
use Rattle.std.specs.List.{flat_map}
use Rattle.ps_pairs.specs.Arranging.{taken_declaration}
use Rattle.ps_pairs.specs.Wanting.{wants}
use Rattle.ps_pairs.proofs.copying.add_declarations.Given as goal

abbrev pub invariant-loop-declaration : goal.invariant-loop-declaration
invariant-loop-declaration l =
    l.written ++ flat_map (taken_declaration (wants l.wanted) l.part) (drop l.declaration-index l.declarations) ≡ l.initial.written ++ flat_map (taken_declaration (wants l.wanted) l.part) l.declarations
