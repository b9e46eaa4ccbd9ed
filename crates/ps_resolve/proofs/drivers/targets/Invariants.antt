use Rattle.std.proofs.Common.{◌≡◌, map, take, []}
use Rattle.std.specs.List.{flat_map}
use Rattle.ps_names.specs.Tables.{Has}
use Rattle.ps_resolve.proofs.drivers.targets.Given as goal
use Rattle.ps_names.specs.Offences.{noted}
use Rattle.ps_names.specs.Rules.{repeated}
use Rattle.ps_names.specs.Uses.{assigned}
use Rattle.ps_parser.specs.StatementView.{statement_tree}
use Rattle.ps_base.specs.declared.failing.Rule.TheVariants.{N7}

abbrev pub invariant-loop-i : goal.invariant-loop-i
invariant-loop-i l = record {
  table : Has l.table (flat_map assigned (map statement_tree (take l.i l.statements)));
  found : l.found ≡ noted l.fn.found (repeated N7 [] (flat_map assigned (map statement_tree (take l.i l.statements))));
}
