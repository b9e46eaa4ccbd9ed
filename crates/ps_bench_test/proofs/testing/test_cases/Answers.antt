use Rattle.std.proofs.Common.{◌≡◌, ◌++◌, ℕ, List, Bool, [], Err, IsTrue, length, take, refl, ap, sym, subst, ◌∙◌, arith}
use Rattle.std.specs.List.{All}
use Rattle.std.proofs.lemmas.List.{take_all}
use Rattle.std.proofs.lemmas.Result.{err_from_is_err_and}
use Rattle.ps_bench_frame.specs.Stopping.{StopsIn}
use Rattle.ps_bench_cases.specs.Meant.{whole_case}
use Rattle.ps_bench_cases.specs.Runnable.{IsRunnable}
use Rattle.ps_bench_cases.specs.declared.case.Case.{Case}
use Rattle.ps_bench_test.specs.Report.{file_foot_text, file_head_text}
use Rattle.ps_bench_test.specs.Testing.{AreRan, cases_text}
use Rattle.ps_bench_test.proofs.Joining.{two_more}
use Rattle.ps_bench_test.proofs.Stopped.{err_is, stops_behind, stops_longer, took_nothing}
use Rattle.ps_bench_test.proofs.testing.test_cases.Goals as goal

pub test_all-requires-clause-runnable : goal.test_all-requires-clause-runnable
test_all-requires-clause-runnable g c =
    subst (All (λ (case : Case). IsRunnable c.args.bench.now.opened.now.app (whole_case c.args.named.now.file.now case)))
    (sym c.as_slice-cases.ensures) c.requires.runnable

pub returns-in_err-head-clause-stops : goal.returns-in_err-head-clause-stops
returns-in_err-head-clause-stops g c =
    let p = err_from_is_err_and c.from_residual.result c.from_residual.ensures.1 in
    err_is _ c.from_residual.result _ (p.1 ∙ ap Err p.2)
    (0, [], tt, took_nothing _ (g.O.Sink.tells c.args.out.now) (g.O.Sink.taken c.args.out.now) (g.O.Sink.taken c.args.out.now) refl)

pub returns-in_err-say-clause-stops : goal.returns-in_err-say-clause-stops
returns-in_err-say-clause-stops g c =
    let p = err_from_is_err_and c.from_residual-in_err-say.result c.from_residual-in_err-say.ensures.1 in
    let format = c.args.bench.now.format in
    let file = c.args.named.now.file.now in
    let head = file_head_text format c.args.named.now.name.now (length file.cases) in
    let is : c.as_slice.result.now ≡ head =
    c.as_slice.ensures ∙ c.in_ok-head.ensures ∙ ap (λ (cs : List Case). file_head_text format c.args.named.now.name.now (length cs)) c.as_slice-cases.ensures in
    let stop = c.in_err-say.field-0.0 in
    let tells = g.O.Sink.tells c.args.out.now in
    let old = g.O.Sink.taken c.args.out.now in
    let new = g.O.Sink.taken c.say.new.out in
    err_is _ c.from_residual-in_err-say.result _ (p.1 ∙ ap Err p.2) (
      0,
      [],
      tt,
      stops_longer (head ++ []) (file_foot_text format) stop tells old new (stops_longer head [] stop tells old new
          (subst (λ (text : List ℕ). StopsIn text stop tells old new) is c.in_err-say.ensures.stops)),
    )

pub returns-in_err-tally-clause-stops : goal.returns-in_err-tally-clause-stops
returns-in_err-tally-clause-stops g c =
    let p = err_from_is_err_and c.from_residual-in_err-tally.result c.from_residual-in_err-tally.ensures.1 in
    let format = c.args.bench.now.format in
    let net = c.args.bench.now.opened.now.app in
    let word = c.args.bench.now.name.now in
    let name = c.args.named.now.name.now in
    let file = c.args.named.now.file.now in
    let head = file_head_text format name (length file.cases) in
    let is : c.as_slice.result.now ≡ head =
    c.as_slice.ensures ∙ c.in_ok-head.ensures ∙ ap (λ (cs : List Case). file_head_text format name (length cs)) c.as_slice-cases.ensures in
    let stop = c.in_err-tally.field-0.0 in
    let tells = g.O.Sink.tells c.args.out.now in
    let old = g.O.Sink.taken c.args.out.now in
    let mid = g.O.Sink.taken c.say.new.out in
    let new = g.O.Sink.taken c.test_all.new.out in
    let it = c.in_err-tally.ensures.stops in
    let text = cases_text format c.args.before it.1 in
    let took : IsTrue tells → mid ≡ old ++ head = λ t. c.in_ok-say.ensures.all t ∙ ap (λ (x : List ℕ). old ++ x) is in
    err_is _ c.from_residual-in_err-tally.result _ (p.1 ∙ ap Err p.2) (
      it.0,
      it.1,
      subst (λ (cs : List Case). AreRan net word name file (take it.0 cs) it.1) c.as_slice-cases.ensures it.2,
      stops_longer (head ++ text) (file_foot_text format) stop tells old new (stops_behind head text stop tells old mid new took
          (subst (λ (t : Bool). StopsIn text stop t mid new) c.in_ok-say.ensures.telling it.3)),
    )

pub returns-in_err-say-2-clause-stops : goal.returns-in_err-say-2-clause-stops
returns-in_err-say-2-clause-stops g c =
    let p = err_from_is_err_and c.from_residual-in_err-say-2.result c.from_residual-in_err-say-2.ensures.1 in
    let format = c.args.bench.now.format in
    let net = c.args.bench.now.opened.now.app in
    let word = c.args.bench.now.name.now in
    let name = c.args.named.now.name.now in
    let file = c.args.named.now.file.now in
    let head = file_head_text format name (length file.cases) in
    let is : c.as_slice.result.now ≡ head =
    c.as_slice.ensures ∙ c.in_ok-head.ensures ∙ ap (λ (cs : List Case). file_head_text format name (length cs)) c.as_slice-cases.ensures in
    let stop = c.in_err-say-2.field-0.0 in
    let tells = g.O.Sink.tells c.args.out.now in
    let old = g.O.Sink.taken c.args.out.now in
    let mid = g.O.Sink.taken c.say.new.out in
    let told = g.O.Sink.taken c.test_all.new.out in
    let new = g.O.Sink.taken c.say-2.new.out in
    let it = c.in_ok-tally.ensures.ran in
    let text = cases_text format c.args.before it.0 in
    let foot = file_foot_text format in
    let took : IsTrue tells → told ≡ old ++ (head ++ text) = λ t.
    two_more old head text mid told (c.in_ok-say.ensures.all t ∙ ap (λ (x : List ℕ). old ++ x) is) (it.3 (subst IsTrue (sym c.in_ok-say.ensures.telling) t)) in
    let all : take (length file.cases) file.cases ≡ file.cases = take_all (length file.cases) file.cases (omega arith) in
    err_is _ c.from_residual-in_err-say-2.result _ (p.1 ∙ ap Err p.2) (
      length file.cases,
      it.0,
      subst (λ (cs : List Case). AreRan net word name file cs it.0) (c.as_slice-cases.ensures ∙ sym all) it.1,
      stops_behind (head ++ text) foot stop tells old told new took
          (subst (λ (t : Bool). StopsIn foot stop t told new) (c.in_ok-tally.ensures.telling ∙ c.in_ok-say.ensures.telling)
          (subst (λ (x : List ℕ). StopsIn x stop (g.O.Sink.tells c.test_all.new.out) told new) c.file_foot.ensures c.in_err-say-2.ensures.stops)),
    )
