use Rattle.std.proofs.Common.{◌≡◌, ◌++◌, length}
use Rattle.std.specs.List.{flat_map, range_with_len}
use Rattle.ps_report.specs.Image.{size_line, code_line}
use Rattle.ps_report.proofs.image.image_text.Given as goal

abbrev pub invariant-loop-i : goal.invariant-loop-i
invariant-loop-i l = l.text ≡ size_line l.fn.channel (length l.code) l.fn.cells l.fn.turns ++ flat_map (code_line l.code) (range_with_len 0 l.i)
