use Rattle.std.proofs.Common.{◌≡◌, ◌∙◌, IsTrue, Err, inl, inr, sym, ap, subst}
use Rattle.ps_accepted.proofs.Sourced.{some_of}
use Rattle.ps_outside.specs.declared.text_fail.TextFail.TheVariants as text_fail
use Rattle.ps_trace.specs.Reading.{IsRead}
use Rattle.ps_trace.specs.Scans.{Scans, scans_behind}
use Rattle.ps_bench_watch.specs.Asking.{text_in}
use Rattle.ps_bench_watch.specs.Showing.{ComesOfHeld, Shows}
use Rattle.ps_bench_watch.proofs.WatchComing.{comes_headless}
use Rattle.ps_bench_watch.proofs.watching.show_named.Goals as goal

pub returns-in-Err-clause-comes : goal.returns-in-Err-clause-comes
returns-in-Err-clause-comes g c = λ tells layout run prepared.
    record {
      to_end = λ end.
          comes_headless c.args.app.now (text_in c.args.app.now layout run) _ _ _ _ c.end_without.result
          (λ refusal is.
          let said = c.end_without.ensures.says refusal is in
          let started : c.start.result ≡ Err (text_fail.Refused refusal) = c.in-Err.is ∙ ap Err said.0 in
          let held = some_of (g.F.Files.held c.args.files.now c.args.name.now) (c.start.ensures.found tells (subst IsRead (sym started) tt)) in
          (held.0, held.1, (ap scans_behind (c.start.ensures.refuses tells held.0 held.1 refusal started), said.1))) end;
      unread = λ is. inr (λ tell. c.end_without.ensures.unsaid is);
    }

pub returns-in-Ok-clause-comes : goal.returns-in-Ok-clause-comes
returns-in-Ok-clause-comes g c = λ tells layout run prepared.
    let net = c.args.app.now in
    let held = some_of (g.F.Files.held c.args.files.now c.args.name.now) (c.in-Ok.ensures.found tells tt) in
    let text = held.0 in
    let shows = c.show.ensures.shows (subst IsTrue (sym c.in-Ok.ensures.telling) tells) text
    ((λ i. c.in-Ok.ensures.kept i (c.in-Ok.ensures.name i)) ∙ held.1) (c.in-Ok.ensures.reads tells text held.1) layout run prepared in
    let T = text_in net layout run in
    let comes : ComesOfHeld net T (g.F.Files.held c.args.files.now c.args.name.now) (g.O.Sink.tells c.args.out.now) (g.O.Sink.taken c.args.out.now) (g.O.Sink.taken c.show.new.out) c.show.result = (
      text,
      held.1,
      inl (subst (λ (s : Scans). Shows net T s (g.O.Sink.tells c.args.out.now) (g.O.Sink.taken c.args.out.now) (g.O.Sink.taken c.show.new.out) c.show.result)
          (c.in-Ok.ensures.begins tells text held.1) shows),
    ) in
    record { to_end = λ end. comes; unread = λ is. inl comes }
