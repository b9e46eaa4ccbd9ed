use Rattle.std.proofs.Common.{◌≡◌, ◌+◌, ◌-◌, length, sym, ap, ◌∙◌, arith}
use borrow.Rule.Slice.PartMut.{put_mid}
use Rattle.ps_model.specs.Blocks.{block, output_count}
use Rattle.ps_model.specs.Stored.{loaded}
use Rattle.ps_machine.proofs.Places.{length-replaced}
use Rattle.ps_machine.proofs.Lent.{part_is, written_at}
use Rattle.ps_stackvm.proofs.Instances.{has_stepped}
use Rattle.ps_stackvm.proofs.instance.step_instance.Goals as goal

pub put_outputs-requires-clause-room : goal.put_outputs-requires-clause-room
unfolding output_count
put_outputs-requires-clause-room g c =
    let cells = c.args.cells.now in
    let place = c.args.place in
    let new = c.step_here.new.bytes in
    let long : length new ≡ 16 = ap length c.in-Some.ensures.steps.stores in
    let size : length (put_mid place (place + 16 - place) cells new) ≡ length cells =
    ap length (written_at cells new place long) ∙ length-replaced cells place new (omega (arith, long, c.requires.bytes)) in
    let count = c.safe_count.ensures.count ∙ ap (λ k. length (block k).outputs) c.KIND.ensures in
    omega (arith, size, count, c.requires.outs)

pub returns-in-Some-clause-stepped : goal.returns-in-Some-clause-stepped
returns-in-Some-clause-stepped g c _ =
    has_stepped g.B.SafetyBlock.KIND c.KIND.result c.KIND.ensures c.args.pins c.args.cells.now c.step_here.new.bytes _ c.args.place c.args.first
    c.safe_count.result c.in-Some.outs c.in-Some.ensures.steps c.safe_count.ensures.count c.put_outputs.ensures

pub returns-in-None-clause-none : goal.returns-in-None-clause-none
returns-in-None-clause-none g c _ =
    ap (loaded g.B.SafetyBlock.KIND) (sym (part_is c.args.cells.now c.args.place)) ∙ c.in-None.ensures.none
