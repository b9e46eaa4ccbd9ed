use Rattle.ps_bench_cases.proofs.Pieces.{failed}
use Rattle.ps_bench_cases.proofs.expanding.put.Goals as goal

pub returns-in-Err : goal.returns-in-Err
returns-in-Err g c = failed g.S.Sink.tells g.S.Sink.taken g.S.Sink.faults c.args.piece.now c.in-Err.field-0.taken c.args.out.now c.write_all.new.out c.in-Err.ensures.part c.in-Err.ensures.stopped c.in-Err.ensures.counts c.in-Err.ensures.telling
