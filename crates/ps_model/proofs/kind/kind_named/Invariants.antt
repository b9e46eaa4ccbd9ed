use Rattle.std.proofs.Common.{◌<◌}
use Rattle.ps_model.specs.declared.kind.Kind.{Kind}
use Rattle.ps_model.specs.Blocks.{block}
use Rattle.ps_base.specs.LetterCase.{SameName}
use Rattle.ps_model.proofs.kind.kind_named.Given as goal

abbrev pub invariant-loop-number : goal.invariant-loop-number
invariant-loop-number l = (k : Kind) → (block k).number < l.number → ¬ (SameName (block k).name l.name)
