use Rattle.std.proofs.Common.{◌≡◌, ◌++◌, take}
use Rattle.std.specs.List.{flat_map}
use Rattle.ps_bench_report.specs.Diagram.{further_text}
use Rattle.ps_bench_report.proofs.diagram.add_marks.Given as goal

abbrev pub invariant-loop-mark : goal.invariant-loop-mark
invariant-loop-mark l = l.words ≡ l.initial.words ++ flat_map further_text (take l.mark-index l.marks)
