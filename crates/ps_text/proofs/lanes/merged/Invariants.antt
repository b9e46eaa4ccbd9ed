use Rattle.std.proofs.Common.{◌≡◌, ◌++◌, drop}
use Rattle.ps_text.specs.Lanes.{merged, merged_from}
use Rattle.ps_text.proofs.lanes.merged.Given as goal

abbrev pub invariant-loop-span : goal.invariant-loop-span
invariant-loop-span l = l.list.items ++ merged_from l.last (drop l.span-index l.spans) ≡ merged l.spans
