use Rattle.std.proofs.Common.{◌≡◌, ◌<◌, ◌∙◌, [], length, drop, arith}
use Rattle.std.proofs.lemmas.Grind.{common_steps}
use Rattle.ps_trace.specs.Words.{words}
use Rattle.ps_trace.specs.Faults.{first_of, others_of}
use Rattle.ps_trace.proofs.FaultLemmas.{target_is}
use Rattle.ps_trace.proofs.fault_line.read_target.Goals as goal

pub returns : goal.returns
returns g c =
    let ws = words (drop c.args.at c.args.line.now) in
    let some : 0 < length (first_of (others_of (others_of (others_of ws)))) = grind (arith, common_steps) in
    let none : others_of (others_of (others_of (others_of ws))) ≡ [] = grind (arith, common_steps) in
    let target = target_is g.W.Target.named_by c.args.scan c.args.turn ws some none in
    c.fault_line.ensures ∙ grind (arith, common_steps)
