use Rattle.std.proofs.Common.{◌⊎◌, ◌<◌, Bool, Err, ◌++◌, ◌∷◌, [], IsTrue, take, length, ap, sym, subst, ◌∙◌, arith}
use Rattle.ps_bench_cases.specs.Meant.{whole_case}
use Rattle.ps_bench_cases.specs.Runnable.{IsRunnable}
use Rattle.ps_bench_test.specs.Outcome.{passes}
use Rattle.ps_bench_test.specs.Outcome.{counted}
use Rattle.ps_bench_test.specs.Testing.{AreRan}
use Rattle.ps_bench_test.proofs.Running.{are_more, item_more, tally_more, told_more}
use Rattle.std.proofs.lemmas.Result.{err_from_is_err_and}
use Rattle.ps_bench_frame.specs.Stopping.{StopsIn}
use Rattle.ps_bench_frame.proofs.Stopped.{rose_since}
use Rattle.ps_bench_test.specs.Outcome.{Ran}
use Rattle.ps_bench_test.specs.Report.{case_text}
use Rattle.ps_bench_test.specs.Testing.{IsRan}
use Rattle.ps_bench_test.proofs.Stopped.{err_is, stops_more}
use Rattle.ps_bench_test.proofs.testing.test_all.Goals as goal

pub loop-case-preserved : goal.loop-case-preserved
loop-case-preserved g c =
    let net = c.args.bench.now.opened.now.app in
    let word = c.args.bench.now.name.now in
    let name = c.args.named.now.name.now in
    let file = c.args.named.now.file.now in
    let place = c.loop-case.case-index in
    let old = c.loop-case.invariant.ran in
    let new = c.in_ok-tally.ensures.ran in
    let below : place < length c.args.cases.now = omega arith in
    record {
      ran = (
        old.0 ++ new.0 ∷ [],
        subst (λ cs. AreRan net word name file cs (old.0 ++ new.0 ∷ []))
            (sym (item_more c.args.cases.now place c.case-item.result below c.case-item.is))
            (are_more net word name file (take place c.args.cases.now) c.case-item.result old.0 new.0 old.1 new.1),
        new.2 ∙ ap (λ t. counted t (passes new.0.outcome)) old.2 ∙ sym (tally_more c.args.before old.0 new.0),
        λ tells. told_more c.args.bench.now.format c.args.before c.loop-case.tally old.0 new.0 (g.O.Sink.taken c.args.out.now)
            (g.O.Sink.taken c.loop-case.out) (g.O.Sink.taken c.test_case.new.out) old.2 (old.3 tells)
            (new.3 (subst IsTrue (sym c.loop-case.invariant.telling) tells)),
      );
      writes = omega (arith, c.loop-case.invariant.writes, c.in_ok-tally.ensures.writes);
      telling = c.in_ok-tally.ensures.telling ∙ c.loop-case.invariant.telling;
    }

pub test_case-requires-clause-runnable : goal.test_case-requires-clause-runnable
test_case-requires-clause-runnable g c =
    let below : c.loop-case.case-index < length c.args.cases.now = omega arith in
    subst (λ case. IsRunnable c.args.bench.now.opened.now.app (whole_case c.args.named.now.file.now case)) (sym c.case-item.is)
    (c.requires.runnable c.loop-case.case-index c.case-item.result below)

pub returns-in_err-tally-clause-stops : goal.returns-in_err-tally-clause-stops
returns-in_err-tally-clause-stops g c =
    let p = err_from_is_err_and c.from_residual.result c.from_residual.ensures.1 in
    let net = c.args.bench.now.opened.now.app in
    let word = c.args.bench.now.name.now in
    let name = c.args.named.now.name.now in
    let file = c.args.named.now.file.now in
    let format = c.args.bench.now.format in
    let place = c.loop-case.case-index in
    let old = c.loop-case.invariant.ran in
    let case = c.case-item.result in
    let stop = c.in_err-tally.field-0.0 in
    let mid = g.O.Sink.taken c.loop-case.out in
    let new = g.O.Sink.taken c.test_case.new.out in
    let below : place < length c.args.cases.now = omega arith in
    err_is _ c.from_residual.result _ (p.1 ∙ ap Err p.2)
    (stops_more net word name file c.args.cases.now place case format c.args.before c.loop-case.tally old.0 stop
    (g.O.Sink.tells c.args.out.now) (g.O.Sink.taken c.args.out.now) mid new below c.case-item.is old.1 old.2 old.3
    (subst (λ (tells : Bool). StopsIn [] stop tells mid new ⊎ ((r : Ran) × IsRan net word name file case r × StopsIn (case_text format c.loop-case.tally r) stop tells mid new))
    c.loop-case.invariant.telling c.in_err-tally.ensures.stops))

pub returns-in_err-tally-clause-unwritten : goal.returns-in_err-tally-clause-unwritten
returns-in_err-tally-clause-unwritten g c = λ is.
    let p = err_from_is_err_and c.from_residual.result c.from_residual.ensures.1 in
    rose_since (g.O.Sink.faults c.args.out.now) (g.O.Sink.faults c.loop-case.out) (g.O.Sink.faults c.test_case.new.out)
    c.loop-case.invariant.writes (c.in_err-tally.ensures.unwritten (sym (p.1 ∙ ap Err p.2) ∙ is))
