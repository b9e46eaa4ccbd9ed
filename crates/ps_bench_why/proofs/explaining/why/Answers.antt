use Rattle.std.proofs.Common.{◌≡◌, ℕ, IsTrue, List, Option, Ok, refl, sym, subst}
use Rattle.ps_bench_frame.specs.Meant.{file_meant}
use Rattle.ps_bench_frame.specs.Sourcing.{IsSourceOf}
use Rattle.ps_bench_frame.specs.declared.ending.Status.TheVariants.{Usage}
use Rattle.ps_bench_messages.proofs.Remarked.{not_so, of_app}
use Rattle.ps_edge.specs.Hearing.{listener_seen}
use Rattle.ps_bench_why.specs.Asking.{wanted_by}
use Rattle.ps_bench_why.specs.Remarking.{TellsNothing}
use Rattle.ps_bench_why.proofs.Coming.{answered, moved, stops, unread_since}
use Rattle.ps_bench_why.proofs.explaining.why.Goals as goal

pub returns-in-Ok-clause-answers : goal.returns-in-Ok-clause-answers
returns-in-Ok-clause-answers g c =
    let opened = c.in-Ok.sourced.opened in
    let app = c.args.asked.now.app.now in
    let wanted = wanted_by c.args.asked.now in
    answered opened.app opened.sizes app wanted
    (g.F.Files.tells c.args.files.now) (g.F.Files.held c.args.files.now) (g.O.Sink.tells c.args.out.now)
    (g.O.Sink.taken c.args.out.now) (g.O.Sink.taken c.why_app.new.out) c.why_app.result c.in-Ok.ensures.app
    (moved opened.app opened.sizes app wanted _ _ _ _ _ _ _ _ _ c.why_app.result
    c.in-Ok.ensures.reading c.in-Ok.ensures.kept c.in-Ok.ensures.telling c.in-Ok.ensures.unsaid c.why_app.ensures.answers)

pub returns-in-Ok-clause-stops : goal.returns-in-Ok-clause-stops
returns-in-Ok-clause-stops g c =
    let opened = c.in-Ok.sourced.opened in
    let app = c.args.asked.now.app.now in
    let wanted = wanted_by c.args.asked.now in
    stops opened.app opened.sizes app wanted
    (g.F.Files.tells c.args.files.now) (g.F.Files.held c.args.files.now) (g.O.Sink.tells c.args.out.now)
    (g.O.Sink.taken c.args.out.now) (g.O.Sink.taken c.why_app.new.out) c.why_app.result c.in-Ok.ensures.app
    (moved opened.app opened.sizes app wanted _ _ _ _ _ _ _ _ _ c.why_app.result
    c.in-Ok.ensures.reading c.in-Ok.ensures.kept c.in-Ok.ensures.telling c.in-Ok.ensures.unsaid c.why_app.ensures.answers)

pub returns-in-Ok-clause-unread : goal.returns-in-Ok-clause-unread
returns-in-Ok-clause-unread g c =
    let trace = file_meant c.args.asked.now.trace.now in
    unread_since (g.F.Files.faults c.args.files.now) (g.F.Files.faults c.open_sourced.new.files) (g.F.Files.faults c.why_app.new.files)
    c.args.asked.now.app.now trace c.why_app.result (c.in-Ok.ensures.reads trace) c.why_app.ensures.unread

pub why_app-requires : goal.why_app-requires
why_app-requires g c = λ tells.
    let there = c.in-Ok.ensures.source (subst IsTrue c.in-Ok.ensures.reading tells) in
    subst (λ (held : List ℕ → Option (List ℕ)). IsSourceOf held c.args.asked.now.app.now c.in-Ok.sourced.source) (sym c.in-Ok.ensures.kept) there

pub returns-in-Ok-clause-told : goal.returns-in-Ok-clause-told
returns-in-Ok-clause-told g c = λ tells.
    let opened = c.in-Ok.sourced.opened in
    let app = c.args.asked.now.app.now in
    of_app (c.why_app.result ≡ Ok Usage) (TellsNothing app (wanted_by c.args.asked.now)) opened.app opened.sizes app
    (g.F.Files.tells c.args.files.now) _ (g.F.Files.held c.args.files.now) _
    (listener_seen g.L.Listener.quiet g.L.Listener.heard g.L.KnownListener.reads g.L.KnownListener.unread g.L.KnownListener.room c.args.listener.now)
    (g.L.Listener.heard c.why_app.new.listener) c.in-Ok.ensures.reading c.in-Ok.ensures.kept c.in-Ok.ensures.app (c.why_app.ensures.told tells)

pub returns-in-Err-clause-told : goal.returns-in-Err-clause-told
returns-in-Err-clause-told g c = λ tells. not_so _ _ _ _ (λ is. cc) refl
