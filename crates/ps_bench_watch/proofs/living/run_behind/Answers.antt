use Rattle.std.proofs.Common.{◌≡◌, ◌∙◌, Err, IsTrue, refl, sym, ap, subst, arith}
use Rattle.ps_bench_frame.proofs.Stopped.{rose_since}
use Rattle.ps_bench_watch.specs.Living.{RunsStream}
use Rattle.ps_bench_watch.specs.Telling.{is_by_name}
use Rattle.ps_bench_watch.specs.declared.living.LiveStop.{LiveStop}
use Rattle.ps_bench_watch.specs.declared.living.LiveStop.TheVariants.{Unread, Unwritten}
use Rattle.ps_bench_watch.proofs.Stops.{headless_unread, headless_unwritten}
use Rattle.ps_bench_watch.proofs.Told.{headless_told}
use Rattle.ps_bench_watch.proofs.living.run_behind.Goals as goal

pub run-requires : goal.run-requires
run-requires g c = record { fits = c.requires.fits; untold = c.requires.untold; inputs = c.in-Ok.ensures.sizes }

pub returns-in-Ok : goal.returns-in-Ok
returns-in-Ok g c =
    let left = c.run.ensures.leaves in
    record {
      runs = λ told. c.run.ensures.runs (subst IsTrue (sym c.in-Ok.ensures.telling) told) (g.I.Stream.coming c.args.input.now) (c.in-Ok.ensures.begins told);
      leaves = record {
        handed_on = left.handed_on;
        unread = λ is. rose_since (g.I.Stream.faults c.args.input.now) (g.I.Stream.faults c.start.new.input) (g.I.Stream.faults c.run.new.input) c.start.ensures.counts (left.unread is);
        unwritten = left.unwritten;
        writes = left.writes;
        telling = left.telling;
      };
    }

pub returns-in-Err : goal.returns-in-Err
returns-in-Err g c = record {
  runs = λ told.
      let coming = g.I.Stream.coming in
      let before = g.O.Sink.taken c.args.out.now in
      subst (λ (stop : LiveStop). RunsStream (is_by_name c.args.teller.now) c.args.app.now (coming c.args.input.now) (coming c.start.new.input)
      (g.O.Sink.tells c.args.out.now) before before (Err stop)) (sym c.headless.ensures)
      (headless_told c.args.app.now c.args.teller.now c.requires.untold (coming c.args.input.now) c.in-Err.fail (g.O.Sink.tells c.args.out.now) before before
      (λ refusal is. c.start.ensures.refuses told refusal (c.in-Err.is ∙ ap Err is)) refl (coming c.start.new.input));
  leaves = record {
    handed_on = λ none is. none;
    unread = λ is.
        let stop : c.headless.result ≡ Unread = cc in
        c.start.ensures.fault (c.in-Err.is ∙ ap Err (headless_unread c.in-Err.fail (sym c.headless.ensures ∙ stop)));
    unwritten = λ is.
        let stop : c.headless.result ≡ Unwritten = cc in
        absurd (headless_unwritten c.in-Err.fail (sym c.headless.ensures ∙ stop));
    writes = omega arith;
    telling = refl;
  };
}
