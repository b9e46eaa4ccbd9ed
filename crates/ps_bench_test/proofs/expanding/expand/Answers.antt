use Rattle.std.proofs.Common.{◌++◌, Err, inr, IsTrue, refl, ap, sym, subst, ◌∙◌, arith}
use Rattle.std.proofs.lemmas.Result.{err_from_is_err_and}
use Rattle.ps_bench_frame.proofs.Stopped.{rose_since}
use Rattle.ps_bench_test.proofs.Stopped.{err_is, some_from, wrote_part}
use Rattle.ps_bench_cases.specs.Expanded.{expanded}
use Rattle.ps_bench_frame.specs.Opening.{IsOfText, source}
use Rattle.ps_bench_test.proofs.expanding.expand.Goals as goal

pub returns-in-Ok-clause-says : goal.returns-in-Ok-clause-says
returns-in-Ok-clause-says g c =
    let app = c.in_ok-opened.opened.app in
    let sizes = c.in_ok-opened.opened.sizes in
    let cases = c.args.cases.now in
    let file = c.in_ok-file.file in
    let opened = c.in_ok-opened.ensures in
    let read = c.in_ok-file.ensures in (
      app,
      sizes,
      opened.app,
      file,
      subst (λ tells. IsOfText (source app sizes tells (g.F.Files.held c.args.files.now)) cases file) opened.reading
          (subst (λ held. IsOfText (source app sizes (g.F.Files.tells c.open_app.new.files) held) cases file) opened.kept read.of_text),
      λ tells. c.in-Ok.ensures.bytes (subst IsTrue (sym (read.telling ∙ opened.telling)) tells)
          ∙ ap (λ taken. taken ++ expanded app file) (read.unsaid ∙ opened.unsaid),
    )

pub returns-in-Err-Memory-clause-stops : goal.returns-in-Err-Memory-clause-stops
returns-in-Err-Memory-clause-stops g c =
    let app = c.in_ok-opened.opened.app in
    let sizes = c.in_ok-opened.opened.sizes in
    let cases = c.args.cases.now in
    let file = c.in_ok-file.file in
    let opened = c.in_ok-opened.ensures in
    let read = c.in_ok-file.ensures in
    inr (
      app,
      sizes,
      opened.app,
      inr (
        file,
        subst (λ tells. IsOfText (source app sizes tells (g.F.Files.held c.args.files.now)) cases file) opened.reading
            (subst (λ held. IsOfText (source app sizes (g.F.Files.tells c.open_app.new.files) held) cases file) opened.kept read.of_text),
        some_from (expanded app file) (g.O.Sink.tells c.args.out.now) (g.O.Sink.taken c.args.out.now) (g.O.Sink.taken c.open_written_cases.new.out) (g.O.Sink.taken c.expand.new.out)
            (λ t. read.unsaid ∙ opened.unsaid) (λ t. wrote_part g.O.Sink.tells g.O.Sink.taken g.O.Sink.faults (expanded app file) c.open_written_cases.new.out c.expand.new.out c.in-Err-Memory.field-0 c.in-Err-Memory.ensures
            (subst IsTrue (sym (read.telling ∙ opened.telling)) t)),
      ),
    )

pub returns-clause-stops : goal.returns-clause-stops
returns-clause-stops g c =
    let app = c.in_ok-opened.opened.app in
    let sizes = c.in_ok-opened.opened.sizes in
    let cases = c.args.cases.now in
    let file = c.in_ok-file.file in
    let opened = c.in_ok-opened.ensures in
    let read = c.in_ok-file.ensures in
    inr (
      app,
      sizes,
      opened.app,
      inr (
        file,
        subst (λ tells. IsOfText (source app sizes tells (g.F.Files.held c.args.files.now)) cases file) opened.reading
            (subst (λ held. IsOfText (source app sizes (g.F.Files.tells c.open_app.new.files) held) cases file) opened.kept read.of_text),
        some_from (expanded app file) (g.O.Sink.tells c.args.out.now) (g.O.Sink.taken c.args.out.now) (g.O.Sink.taken c.open_written_cases.new.out) (g.O.Sink.taken c.expand.new.out)
            (λ t. read.unsaid ∙ opened.unsaid) (λ t. wrote_part g.O.Sink.tells g.O.Sink.taken g.O.Sink.faults (expanded app file) c.open_written_cases.new.out c.expand.new.out c.in-Err-Fault.field-0 c.in-Err-Fault.ensures
            (subst IsTrue (sym (read.telling ∙ opened.telling)) t)),
      ),
    )

pub returns-in_err-file-clause-unread : goal.returns-in_err-file-clause-unread
returns-in_err-file-clause-unread g c =
    let p = err_from_is_err_and c.from_residual-in_err-file.result c.from_residual-in_err-file.ensures.1 in
    let name = c.args.cases.now in
    err_is _ c.from_residual-in_err-file.result _ (p.1 ∙ ap Err p.2)
    (λ is. (
      1,
      name,
      omega arith,
      refl,
      rose_since (g.F.Files.faults c.args.files.now name) (g.F.Files.faults c.open_app.new.files name) (g.F.Files.faults c.open_written_cases.new.files name)
          (c.in_ok-opened.ensures.reads name) (c.in_err-file.ensures.unread is),
    ))
