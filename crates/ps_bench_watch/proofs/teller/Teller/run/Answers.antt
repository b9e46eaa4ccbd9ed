use Rattle.std.proofs.Common.{◌≡◌, ap, subst, arith}
use Rattle.ps_bench_watch.specs.Feeding.{lines_left}
use Rattle.ps_bench_watch.specs.Telling.{IsTellerFor, IsUntold}
use Rattle.ps_bench_watch.specs.declared.teller.Teller.TheVariants.{Lines, Names}
use Rattle.ps_bench_watch.proofs.Stops.{leaves_ran}
use Rattle.ps_bench_watch.proofs.Told.{lines_told, names_told}
use Rattle.ps_world.specs.Worlds.{World_state}
use Rattle.ps_bench_watch.proofs.teller.Teller.run.Goals as goal

pub answer_lines-ended-requires : goal.answer_lines-ended-requires
answer_lines-ended-requires g c =
    let is : c.args.self.now ≡ Lines c.in-Lines.runner = cc in
    let untold = subst (IsUntold c.args.app.now) is c.requires.untold in
    let first = ap (λ (x : World_state). x.last) untold.0.world.beginning in
    record { fits = subst (IsTellerFor c.args.app.now) is c.requires.fits; due = omega (arith, first); inputs = c.requires.inputs }

pub answer_lines-named-requires : goal.answer_lines-named-requires
answer_lines-named-requires g c =
    let is : c.args.self.now ≡ Names c.in-Names.runner = cc in
    let untold = subst (IsUntold c.args.app.now) is c.requires.untold in
    let first = ap (λ (x : World_state). x.last) untold.0.world.world.beginning in
    record { fits = subst (IsTellerFor c.args.app.now) is c.requires.fits; due = omega (arith, first); inputs = c.requires.inputs }

pub returns-in-Lines : goal.returns-in-Lines
returns-in-Lines g c =
    let is : c.args.self.now ≡ Lines c.in-Lines.runner = cc in
    let untold = subst (IsUntold c.args.app.now) is c.requires.untold in
    record {
      runs = λ told bytes behind.
          lines_told c.args.app.now bytes c.args.feed.now (lines_left c.args.feed.now (g.I.Stream.coming c.args.input.now)) behind
          c.args.self.now c.in-Lines.runner is untold c.answer_lines-ended.new.runner.performer c.answer_lines-ended.new.runner.taker
          c.answer_lines-ended.new.feed (g.I.Stream.coming c.answer_lines-ended.new.input) c.answer_lines-ended.result (g.O.Sink.tells c.args.out.now)
          (g.O.Sink.taken c.args.out.now) (g.O.Sink.taken c.answer_lines-ended.new.out) c.ran.result c.ran.ensures
          (c.answer_lines-ended.ensures.answers told) c.answer_lines-ended.ensures.all_came;
      leaves = leaves_ran _ c.answer_lines-ended.result c.ran.result c.ran.ensures _ _ _ _ c.answer_lines-ended.ensures.leaves;
    }

pub returns-in-Names : goal.returns-in-Names
returns-in-Names g c =
    let is : c.args.self.now ≡ Names c.in-Names.runner = cc in
    let untold = subst (IsUntold c.args.app.now) is c.requires.untold in
    record {
      runs = λ told bytes behind.
          names_told c.args.app.now bytes c.args.feed.now (lines_left c.args.feed.now (g.I.Stream.coming c.args.input.now)) behind
          c.args.self.now c.in-Names.runner is untold c.sound.ensures c.answer_lines-named.new.runner.performer c.answer_lines-named.new.runner.taker
          c.answer_lines-named.new.feed (g.I.Stream.coming c.answer_lines-named.new.input) c.answer_lines-named.result (g.O.Sink.tells c.args.out.now)
          (g.O.Sink.taken c.args.out.now) (g.O.Sink.taken c.answer_lines-named.new.out) c.ran-in-Names.result c.ran-in-Names.ensures
          (c.answer_lines-named.ensures.answers told) c.answer_lines-named.ensures.all_came;
      leaves = leaves_ran _ c.answer_lines-named.result c.ran-in-Names.result c.ran-in-Names.ensures _ _ _ _ c.answer_lines-named.ensures.leaves;
    }
