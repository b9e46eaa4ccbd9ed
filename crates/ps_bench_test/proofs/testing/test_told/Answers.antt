use Rattle.std.proofs.Common.{◌≡◌, ◌++◌, ℕ, List, Bool, Err, inl, inr, IsTrue, ap, sym, subst, ◌∙◌}
use Rattle.std.proofs.lemmas.Result.{err_from_is_err_and}
use Rattle.ps_bench_frame.specs.Opening.{source}
use Rattle.ps_bench_frame.specs.Stopping.{StopsIn}
use Rattle.ps_bench_frame.specs.declared.ending.Stop.TheVariants.{NoMemory}
use Rattle.ps_bench_words.specs.Seen.{seen}
use Rattle.ps_bench_test.specs.Report.{foot_text, head_text}
use Rattle.ps_bench_test.specs.Outcome.{none_told}
use Rattle.ps_bench_test.specs.Stopping.{StopsAmong}
use Rattle.ps_bench_test.specs.Testing.{files_text, tally_of_files}
use Rattle.ps_bench_test.proofs.Joining.{two_more}
use Rattle.ps_bench_test.proofs.Stopped.{among_from, err_is, stops_behind, stops_longer, took_all}
use Rattle.ps_bench_test.proofs.testing.test_told.Goals as goal

pub returns-in_err-tally-clause-stops : goal.returns-in_err-tally-clause-stops
returns-in_err-tally-clause-stops g c =
    let p = err_from_is_err_and c.from_residual-in_err-tally.result c.from_residual-in_err-tally.ensures.1 in
    let word = c.args.bench.now.name.now in
    let format = c.args.bench.now.format in
    let from = source c.args.bench.now.opened.now.app c.args.bench.now.opened.now.sizes (g.F.Files.tells c.args.files.now) (g.F.Files.held c.args.files.now) in
    let names = seen c.args.bench.now.names.now in
    let stop = c.in_err-tally.field-0.0 in
    let tells = g.O.Sink.tells c.args.out.now in
    let old = g.O.Sink.taken c.args.out.now in
    let mid = g.O.Sink.taken c.say.new.out in
    let new = g.O.Sink.taken c.test_files.new.out in
    err_is _ c.from_residual-in_err-tally.result _ (p.1 ∙ ap Err p.2)
    (inr (inl (among_from from word format names stop tells (old ++ head_text format) mid new
    (λ t. c.in_ok-say.ensures.all t ∙ ap (λ (x : List ℕ). old ++ x) c.head.ensures)
    (subst (λ (t : Bool). StopsAmong from word format names stop t mid new) c.in_ok-say.ensures.telling c.in_err-tally.ensures.stops))))

pub returns-in_err-foot-clause-stops : goal.returns-in_err-foot-clause-stops
returns-in_err-foot-clause-stops g c =
    let p = err_from_is_err_and c.from_residual-in_err-foot.result c.from_residual-in_err-foot.ensures.1 in
    let format = c.args.bench.now.format in
    let tells = g.O.Sink.tells c.args.out.now in
    let old = g.O.Sink.taken c.args.out.now in
    let mid = g.O.Sink.taken c.say.new.out in
    let new = g.O.Sink.taken c.test_files.new.out in
    let it = c.in_ok-tally.ensures.ran in
    let head = head_text format in
    let text = files_text format none_told it.0 in
    let took : IsTrue tells → new ≡ old ++ (head ++ text) = λ t.
    two_more old head text mid new (c.in_ok-say.ensures.all t ∙ ap (λ (x : List ℕ). old ++ x) c.head.ensures) (it.3 (subst IsTrue (sym c.in_ok-say.ensures.telling) t)) in
    err_is _ c.from_residual-in_err-foot.result _ (p.1 ∙ ap Err p.2)
    (inr (inr (it.0, it.1, stops_longer (head ++ text) (foot_text format (tally_of_files none_told it.0)) NoMemory tells old new (took_all (head ++ text) tells old new took))))

pub returns-in_err-say-2-clause-stops : goal.returns-in_err-say-2-clause-stops
returns-in_err-say-2-clause-stops g c =
    let p = err_from_is_err_and c.from_residual-in_err-say-2.result c.from_residual-in_err-say-2.ensures.1 in
    let format = c.args.bench.now.format in
    let stop = c.in_err-say-2.field-0.0 in
    let tells = g.O.Sink.tells c.args.out.now in
    let old = g.O.Sink.taken c.args.out.now in
    let mid = g.O.Sink.taken c.say.new.out in
    let told = g.O.Sink.taken c.test_files.new.out in
    let new = g.O.Sink.taken c.say-2.new.out in
    let it = c.in_ok-tally.ensures.ran in
    let head = head_text format in
    let text = files_text format none_told it.0 in
    let foot = foot_text format (tally_of_files none_told it.0) in
    let took : IsTrue tells → told ≡ old ++ (head ++ text) = λ t.
    two_more old head text mid told (c.in_ok-say.ensures.all t ∙ ap (λ (x : List ℕ). old ++ x) c.head.ensures) (it.3 (subst IsTrue (sym c.in_ok-say.ensures.telling) t)) in
    let is : c.as_slice.result.now ≡ foot = c.as_slice.ensures ∙ c.in_ok-foot.ensures ∙ ap (foot_text format) it.2 in
    err_is _ c.from_residual-in_err-say-2.result _ (p.1 ∙ ap Err p.2)
    (inr (inr (
      it.0,
      it.1,
      stops_behind (head ++ text) foot stop tells old told new took
          (subst (λ (t : Bool). StopsIn foot stop t told new) (c.in_ok-tally.ensures.telling ∙ c.in_ok-say.ensures.telling)
          (subst (λ (x : List ℕ). StopsIn x stop (g.O.Sink.tells c.test_files.new.out) told new) is c.in_err-say-2.ensures.stops)),
    )))
