use Rattle.std.proofs.Common.{take}
use Rattle.std.specs.List.{All}
use Rattle.ps_bench_campaign.specs.Marks.{IsShort}
use Rattle.ps_bench_campaign.proofs.marks.are_timely.Given as goal

abbrev pub invariant-loop-step : goal.invariant-loop-step
invariant-loop-step l = All IsShort (take l.step-index l.steps)
