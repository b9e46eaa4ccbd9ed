use Rattle.std.proofs.Common.{◌≡◌, map, take, [], List}
use Rattle.ps_parser.specs.declared.name.Name.{Name}
use Rattle.ps_names.specs.Offences.{noted}
use Rattle.ps_names.specs.Tables.{Has}
use Rattle.ps_derived.specs.Interfaces.{interface_of}
use Rattle.ps_offences.specs.BlockRules.{blocks_break}
use Rattle.ps_offences.proofs.rules.check_blocks.Given as goal

abbrev pub invariant-loop-block : goal.invariant-loop-block
invariant-loop-block l = record {
  before : l.before ≡ map interface_of (take l.block-index l.blocks);
  found : (ns : List Name) → Has l.names ns → l.found ≡ noted l.fn.found (blocks_break ns [] (take l.block-index l.blocks));
}
