use Rattle.ps_stackvm.specs.Turn.{turn_of}
use Rattle.ps_stackvm.proofs.Heads.{made_one}
use Rattle.ps_stackvm.proofs.turn.turn.Goals as goal

pub returns : goal.returns
returns c =
    let a = c.args in
    made_one (turn_of a.signals a.instances a.code.now) c.turns.result a.cells.now c.turns.new.cells c.turns.ensures.cells c.turns.ensures.most c.turns.ensures.stopped c.requires.runs
