use Rattle.std.proofs.Common.{refl, arith}
use Rattle.ps_bench_watch.specs.Leaving.{side}
use Rattle.ps_bench_watch.proofs.Going.{did_nothing, did_restart, did_scan, due_nothing, due_restart, due_scan}
use Rattle.ps_bench_watch.proofs.Stops.{hands_on, in_any_case, where_handed}
use Rattle.ps_bench_watch.proofs.answering.answer_fed.Goals as goal

pub do_scan-done-requires : goal.do_scan-done-requires
do_scan-done-requires g c = record { fits = c.requires.fits; due = c.requires.due c.in-Scan.is }

pub returns-in-Nothing : goal.returns-in-Nothing
returns-in-Nothing g c = record {
  does = did_nothing _ _ _ c.args.fed c.in-Nothing.is c.args.runner.now.scan c.args.runner.now.performer c.args.runner.now.taker
      (g.O.Sink.tells c.args.out.now) (g.O.Sink.taken c.args.out.now);
  fits = c.requires.fits;
  due = due_nothing c.args.fed c.in-Nothing.is _ _;
  hands_on = record { handed_on = λ none. none; no_read = λ is. cc; unwritten = λ is. cc; writes = omega arith; telling = refl };
}

pub returns-in-Scan : goal.returns-in-Scan
returns-in-Scan g c =
    let did = c.do_scan-done.ensures in
    let on = c.hand_on_done.ensures.handed in
    record {
      does = did_scan _ _ _ c.args.fed c.in-Scan.is c.args.runner.now.scan _ _ _ _ _ _ _ _ c.do_scan-done.result c.hand_on_done.result _ _ on.comes did.does c.hand_on_done.ensures.kept;
      fits = where_handed _ c.do_scan-done.result c.hand_on_done.result _ _ on.comes did.fits;
      due = due_scan c.args.fed c.in-Scan.is _ _ _ did.due;
      hands_on = hands_on c.do_scan-done.result c.hand_on_done.result
          (side (g.O.Output.held_back c.args.out.now) (g.O.Sink.faults c.args.out.now) (g.O.Sink.tells c.args.out.now))
          (side (g.O.Output.held_back c.do_scan-done.new.out) (g.O.Sink.faults c.do_scan-done.new.out) (g.O.Sink.tells c.do_scan-done.new.out))
          (side (g.O.Output.held_back c.hand_on_done.new.out) (g.O.Sink.faults c.hand_on_done.new.out) (g.O.Sink.tells c.hand_on_done.new.out)) on did.no_read did.unwritten did.counts did.telling;
    }

pub returns-in-Restart : goal.returns-in-Restart
returns-in-Restart g c =
    let did = c.do_restart-done.ensures in
    let on = c.hand_on_done-in-Restart.ensures.handed in
    record {
      does = did_restart _ _ _ c.args.fed c.in-Restart.is c.args.runner.now.scan _ _ _ _ _ _ _ _ c.do_restart-done.result c.hand_on_done-in-Restart.result _ _ on.comes did.does
          c.hand_on_done-in-Restart.ensures.kept;
      fits = where_handed _ c.do_restart-done.result c.hand_on_done-in-Restart.result _ _ on.comes (in_any_case _ c.do_restart-done.result did.fits);
      due = due_restart c.args.fed c.in-Restart.is _ _ _ did.due;
      hands_on = hands_on c.do_restart-done.result c.hand_on_done-in-Restart.result
          (side (g.O.Output.held_back c.args.out.now) (g.O.Sink.faults c.args.out.now) (g.O.Sink.tells c.args.out.now))
          (side (g.O.Output.held_back c.do_restart-done.new.out) (g.O.Sink.faults c.do_restart-done.new.out) (g.O.Sink.tells c.do_restart-done.new.out))
          (side (g.O.Output.held_back c.hand_on_done-in-Restart.new.out) (g.O.Sink.faults c.hand_on_done-in-Restart.new.out) (g.O.Sink.tells c.hand_on_done-in-Restart.new.out)) on did.no_read did.unwritten did.counts did.telling;
    }
