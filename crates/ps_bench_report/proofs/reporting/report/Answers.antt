use Rattle.std.proofs.Common.{◌∷◌, ◌∙◌, ℕ, true, List, Option, Err, ap, inl, refl, sym, subst}
use Rattle.ps_bench_frame.proofs.Stopped.{rose_since}
use Rattle.ps_bench_frame.specs.Opening.{IsOfApp, Source, source}
use Rattle.ps_bench_frame.specs.Sourcing.{IsSourceOf}
use Rattle.ps_bench_frame.specs.declared.ending.Stop.TheVariants.{Unwritten}
use Rattle.ps_bench_words.specs.Seen.{seen}
use Rattle.ps_bench_report.specs.Asking.{Ends, wanted_by}
use Rattle.ps_bench_report.proofs.Coming.{answered, moved, stopped, unread_first, unread_since}
use Rattle.ps_bench_report.proofs.Reading.{le_two, of_err, same_two}
use Rattle.ps_bench_report.proofs.reporting.report.Goals as goal

pub report_app-requires-clause-app : goal.report_app-requires-clause-app
report_app-requires-clause-app g c =
    let is = c.in-Ok.ensures in
    let net = c.in-Ok.sourced.opened.app in
    let sizes = c.in-Ok.sourced.opened.sizes in
    λ tells.
    subst (λ (h : List ℕ → Option (List ℕ)). IsOfApp (source net sizes true h) c.args.asked.now.app.now) (sym is.kept)
    (λ told. is.app (sym is.reading ∙ tells)) refl

pub report_app-requires-clause-text : goal.report_app-requires-clause-text
report_app-requires-clause-text g c =
    let is = c.in-Ok.ensures in
    λ tells. ap (λ (h : List ℕ → Option (List ℕ)). h c.args.asked.now.app.now) is.kept ∙ is.text (sym is.reading ∙ tells)

pub report_app-requires-clause-source : goal.report_app-requires-clause-source
report_app-requires-clause-source g c =
    let is = c.in-Ok.ensures in
    λ tells.
    subst (λ (h : List ℕ → Option (List ℕ)). IsSourceOf h c.args.asked.now.app.now c.in-Ok.sourced.source) (sym is.kept)
    (is.source (sym is.reading ∙ tells))

pub returns-in-Ok : goal.returns-in-Ok
returns-in-Ok g c =
    let net = c.in-Ok.sourced.opened.app in
    let sizes = c.in-Ok.sourced.opened.sizes in
    let wanted = wanted_by c.args.asked.now in
    let r = g.F.Files.tells c.args.files.now in
    let h = g.F.Files.held c.args.files.now in
    let t = g.O.Sink.tells c.args.out.now in
    let w = g.O.Sink.faults c.args.out.now in
    let b = g.O.Sink.taken c.args.out.now in
    let w' = g.O.Sink.faults c.open_sourced.new.out in
    let w'' = g.O.Sink.faults c.report_app.new.out in
    let is = c.in-Ok.ensures in
    let ended = c.report_app.result in
    let after = g.O.Sink.taken c.report_app.new.out in
    let leaves = c.report_app.ensures.leaves in
    let ends : Ends (source net sizes r h) wanted t b after ended =
    moved (λ (x : Source) tells taken. Ends x wanted tells taken after ended) net sizes r (g.F.Files.tells c.open_sourced.new.files)
    h (g.F.Files.held c.open_sourced.new.files) t (g.O.Sink.tells c.open_sourced.new.out) b (g.O.Sink.taken c.open_sourced.new.out)
    is.reading is.kept is.telling is.unsaid c.report_app.ensures.ends in
    record {
      answers = answered net sizes wanted r h t b after ended is.app ends;
      stops = stopped net sizes wanted r h t b after ended is.app ends;
      unread = unread_since (g.F.Files.faults c.args.files.now) (g.F.Files.faults c.open_sourced.new.files) (g.F.Files.faults c.report_app.new.files)
          (wanted.app ∷ wanted.names) ended is.reads leaves.unread;
      unwritten = λ at. rose_since w w' w'' is.writes (leaves.unwritten at);
      writes = le_two w w' w'' is.writes leaves.stays.writes;
      telling = same_two t (g.O.Sink.tells c.open_sourced.new.out) (g.O.Sink.tells c.report_app.new.out) is.telling leaves.stays.telling;
    }

pub returns-in-Err : goal.returns-in-Err
returns-in-Err g c =
    let is = c.in-Err.ensures in
    record {
      answers = tt;
      stops = inl is.stops;
      unread = λ at. unread_first (g.F.Files.faults c.args.files.now) (g.F.Files.faults c.open_sourced.new.files) c.args.asked.now.app.now
          (seen c.args.asked.now.cases.now) (is.unread at);
      unwritten = λ at. is.unwritten (ap Err (of_err c.in-Err.stop Unwritten at));
      writes = is.writes;
      telling = is.telling;
    }
