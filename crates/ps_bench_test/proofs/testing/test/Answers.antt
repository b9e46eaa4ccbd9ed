use Rattle.std.proofs.Common.{ℕ, List, Bool, Option, Err, inr, ap, subst, ◌∙◌}
use Rattle.std.proofs.lemmas.Result.{err_from_is_err_and}
use Rattle.ps_outside.specs.Outside.{Rose}
use Rattle.ps_bench_frame.specs.Opening.{source}
use Rattle.ps_bench_frame.proofs.Stopped.{rose_since}
use Rattle.ps_bench_words.specs.Seen.{seen}
use Rattle.ps_bench_test.specs.Stopping.{StopsTold}
use Rattle.ps_bench_test.proofs.Stopped.{any_behind, err_is}
use Rattle.ps_bench_test.proofs.testing.test.Goals as goal

pub returns-in_err-tally-clause-stops : goal.returns-in_err-tally-clause-stops
returns-in_err-tally-clause-stops g c =
    let p = err_from_is_err_and c.from_residual-in_err-tally.result c.from_residual-in_err-tally.ensures.1 in
    let app = c.in_ok-opened.opened.app in
    let sizes = c.in_ok-opened.opened.sizes in
    let opened = c.in_ok-opened.ensures in
    let format = c.args.asked.now.format in
    let names = seen c.args.asked.now.cases.now in
    let stop = c.in_err-tally.field-0.0 in
    let held = g.F.Files.held c.args.files.now in
    let reading = g.F.Files.tells c.args.files.now in
    let files = c.open_app.new.files in
    let out = c.open_app.new.out in
    let new = g.O.Sink.taken c.test_told.new.out in
    err_is _ c.from_residual-in_err-tally.result _ (p.1 ∙ ap Err p.2)
    (inr (
      app,
      sizes,
      opened.app,
      subst (λ (old : List ℕ). StopsTold (source app sizes reading held) c.args.asked.now.app.now format names stop (g.O.Sink.tells c.args.out.now) old new) opened.unsaid
          (subst (λ (t : Bool). StopsTold (source app sizes reading held) c.args.asked.now.app.now format names stop t (g.O.Sink.taken out) new) opened.telling
          (subst (λ (r : Bool). StopsTold (source app sizes r held) c.args.asked.now.app.now format names stop (g.O.Sink.tells out) (g.O.Sink.taken out) new) opened.reading
          (subst (λ (h : List ℕ → Option (List ℕ)). StopsTold (source app sizes (g.F.Files.tells files) h) c.args.asked.now.app.now format names stop (g.O.Sink.tells out) (g.O.Sink.taken out) new) opened.kept
          c.in_err-tally.ensures.stops))),
    ))

pub returns-in_err-tally-clause-unread : goal.returns-in_err-tally-clause-unread
returns-in_err-tally-clause-unread g c =
    let p = err_from_is_err_and c.from_residual-in_err-tally.result c.from_residual-in_err-tally.ensures.1 in
    let old = c.args.files.now in
    let mid = c.open_app.new.files in
    let new = c.test_told.new.files in
    err_is _ c.from_residual-in_err-tally.result _ (p.1 ∙ ap Err p.2)
    (λ is. any_behind (λ (n : List ℕ). Rose (g.F.Files.faults old n) (g.F.Files.faults new n)) (λ (n : List ℕ). Rose (g.F.Files.faults mid n) (g.F.Files.faults new n))
    (λ n. rose_since (g.F.Files.faults old n) (g.F.Files.faults mid n) (g.F.Files.faults new n) (c.in_ok-opened.ensures.reads n))
    c.args.asked.now.app.now (seen c.args.asked.now.cases.now) (c.in_err-tally.ensures.unread is))
