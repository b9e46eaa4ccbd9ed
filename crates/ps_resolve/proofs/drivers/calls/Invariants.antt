use Rattle.std.proofs.Common.{◌≡◌, map, take, []}
use Rattle.std.specs.List.{flat_map}
use Rattle.ps_names.specs.Tables.{Has}
use Rattle.ps_resolve.proofs.drivers.calls.Given as goal
use Rattle.ps_names.specs.Offences.{noted}
use Rattle.ps_names.specs.Rules.{repeated}
use Rattle.ps_names.specs.Uses.{called}
use Rattle.ps_parser.specs.StatementView.{statement_tree}
use Rattle.ps_base.specs.declared.failing.Rule.TheVariants.{N9}

abbrev pub invariant-loop-i : goal.invariant-loop-i
invariant-loop-i l = record {
  table : Has l.table (flat_map called (map statement_tree (take l.i l.statements)));
  found : l.found ≡ noted l.fn.found (repeated N9 [] (flat_map called (map statement_tree (take l.i l.statements))));
}
