use Rattle.std.proofs.Common.{take}
use Rattle.std.specs.List.{flat_map}
use Rattle.ps_bench_report.specs.Paged.{Adds}
use Rattle.ps_bench_report.specs.Diagram.{band_of}
use Rattle.ps_bench_report.proofs.drawing.add_bands.Given as goal

abbrev pub invariant-loop-span : goal.invariant-loop-span
invariant-loop-span l = Adds l.initial.page l.page (flat_map (band_of l.app l.lane) (take l.span-index l.spans))
