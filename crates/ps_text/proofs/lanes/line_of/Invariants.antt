use Rattle.std.proofs.Common.{◌≡◌, ◌++◌, take}
use Rattle.std.specs.List.{flat_map}
use Rattle.ps_text.specs.Lanes.{begun, onward}
use Rattle.ps_text.proofs.lanes.line_of.Given as goal

abbrev pub invariant-loop-span : goal.invariant-loop-span
invariant-loop-span l = l.lines ≡ begun l.high l.low l.spans ++ flat_map (onward l.high l.low) (take l.span-index l.spans)
