use Rattle.std.proofs.Common.{ap, ◌∙◌, arith}
use Rattle.std.proofs.lemmas.List.{take_all}
use Rattle.ps_machine.specs.Bytes.{replaced}
use Rattle.ps_eqvm.specs.Plain.{laid_out}
use Rattle.ps_eqvm.proofs.Poking.{length-laid, write_more}
use Rattle.ps_eqvm.proofs.plain.PlainCells.write.Goals as goal

pub poke-requires : goal.poke-requires
poke-requires c =
    let size = length-laid c.args.self.now in
    omega (arith, size, c.requires, c.loop-i.invariant.cells, c.loop-i.invariant.blocks)

pub loop-i-preserved : goal.loop-i-preserved
loop-i-preserved c = record {
  bytes = c.poke.ensures.poked ∙ write_more (laid_out c.loop-i.self) (laid_out c.args.self.now) c.args.at c.loop-i.i c.args.bytes.now c.requires c.loop-i-test.true c.loop-i.invariant.bytes;
  cells = c.poke.ensures.cells ∙ c.loop-i.invariant.cells;
  blocks = c.poke.ensures.blocks ∙ c.loop-i.invariant.blocks;
}

pub returns-clause-written : goal.returns-clause-written
returns-clause-written c =
    c.loop-i.invariant.bytes ∙ ap (replaced (laid_out c.args.self.now) c.args.at) (take_all c.loop-i.i c.args.bytes.now c.loop-i-test.false)
