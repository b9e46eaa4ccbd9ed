use Rattle.std.proofs.Common.{◌+◌, List, Bool, length, refl, ap, ◌∙◌, arith}
use Rattle.std.specs.Prelude.{map}
use Rattle.std.proofs.lemmas.List.{length-set, take_all}
use Rattle.ps_machine.specs.Bytes.{bit, replaced}
use Rattle.ps_machine.proofs.Places.{replaced_bit}
use Rattle.ps_eqvm.proofs.plain.put_rest.Goals as goal

pub put-requires : goal.put-requires
put-requires c = omega (arith, c.loop-i.invariant.size, c.requires.room, c.loop-i-test.true)

pub loop-i-preserved : goal.loop-i-preserved
loop-i-preserved c = record {
  size = ap length c.put.ensures ∙ length-set c.loop-i.cells (c.args.at + c.loop-i.i) _ ∙ c.loop-i.invariant.size;
  cells = λ old room is. c.put.ensures ∙ replaced_bit c.loop-i.cells old c.args.at c.loop-i.i _ c.args.values.now room c.loop-i-test.true (c.loop-i.invariant.cells old room is) refl;
}

pub returns : goal.returns
returns c = λ old room is.
    let a = c.args in
    c.loop-i.invariant.cells old room is ∙ ap (λ (l : List Bool). replaced old a.at (map bit l)) (take_all c.loop-i.i a.values.now c.loop-i-test.false)
