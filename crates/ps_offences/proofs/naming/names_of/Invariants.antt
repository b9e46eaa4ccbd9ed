use Rattle.std.proofs.Common.{◌≡◌, take, []}
use Rattle.ps_names.specs.Offences.{noted}
use Rattle.ps_base.specs.declared.failing.Rule.TheVariants.{B1}
use Rattle.ps_names.specs.Rules.{repeated}
use Rattle.ps_names.specs.Tables.{Has}
use Rattle.ps_offences.specs.BlockRules.{block_names}
use Rattle.ps_offences.proofs.naming.names_of.Given as goal

abbrev pub invariant-loop-i : goal.invariant-loop-i
invariant-loop-i l = record {
  table : Has l.table (block_names (take l.i l.blocks));
  found : l.found ≡ noted l.fn.found (repeated B1 [] (block_names (take l.i l.blocks)));
}
