use Rattle.std.proofs.Common.{◌≡◌, ap, ◌∙◌, arith}
use Rattle.std.specs.Prelude.{◌==◌, map}
use Rattle.std.specs.List.{range_with_len}
use Rattle.std.proofs.lemmas.Nat.Bits.{shr_and_one}
use Rattle.ps_machine.specs.Bytes.{bit, replaced}
use Rattle.ps_model.specs.PinBits.{pin_of}
use Rattle.ps_stackvm.proofs.Outputs.{output_more, outputs_end}
use Rattle.ps_stackvm.proofs.instance.put_outputs.Goals as goal

pub loop-j-preserved : goal.loop-j-preserved
loop-j-preserved c =
    output_more c.loop-j.cells c.args.cells.now c.args.at c.loop-j.j c.byte_of.result c.args.outs.safe (omega arith) c.loop-j.invariant
    (c.byte_of.ensures ∙ ap (λ y. bit (y == 1)) (shr_and_one c.args.outs.safe c.loop-j.j))

pub returns : goal.returns
returns c =
    let all : c.loop-j.j ≡ c.args.n = omega arith in
    outputs_end c.loop-j.cells c.args.cells.now c.args.at c.args.n c.byte_of-2.result c.byte_of-3.result c.args.outs.safe
    c.args.outs.diag.ready c.args.outs.diag.error c.requires.room
    (c.loop-j.invariant ∙ ap (λ k. replaced c.args.cells.now c.args.at (map bit (map (pin_of c.args.outs.safe) (range_with_len 0 k)))) all)
    c.byte_of-2.ensures c.byte_of-3.ensures
