use Rattle.std.proofs.Common.{◌≡◌, flat_map, take}
use Rattle.ps_text.specs.Also.{also_line}
use Rattle.ps_text.proofs.also.also_lines.Given as goal

abbrev pub invariant-loop-refusal : goal.invariant-loop-refusal
invariant-loop-refusal l = l.message ≡ flat_map (also_line l.file l.text) (take l.refusal-index l.refusals)
