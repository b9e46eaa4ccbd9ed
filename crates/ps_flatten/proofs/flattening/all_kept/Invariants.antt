use Rattle.std.proofs.Common.{take}
use Rattle.std.specs.List.{AllByRecursion}
use Rattle.ps_parser.specs.Whole.{IsSource}
use Rattle.ps_flatten.proofs.flattening.all_kept.Given as goal

abbrev pub invariant-loop-source : goal.invariant-loop-source
invariant-loop-source l = AllByRecursion IsSource (take l.source-index l.sources)
