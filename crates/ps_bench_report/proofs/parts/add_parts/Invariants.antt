use Rattle.std.proofs.Common.{take}
use Rattle.std.specs.List.{flat_map}
use Rattle.ps_bench_report.specs.Paged.{Adds}
use Rattle.ps_bench_report.specs.Parts.{pieces_of}
use Rattle.ps_bench_report.proofs.parts.add_parts.Given as goal

abbrev pub invariant-loop-part : goal.invariant-loop-part
invariant-loop-part l = Adds l.initial.page l.page (flat_map pieces_of (take l.part-index l.parts))
