use Rattle.std.proofs.Common.{List, Option, ℕ, subst, sym}
use Rattle.ps_bench_trace.specs.Playing.{trace_held}
use Rattle.ps_bench_watch.specs.Asking.{text_in}
use Rattle.ps_bench_watch.specs.Showing.{ComesOfHeld, MakesRun}
use Rattle.ps_bench_watch.proofs.watching.show_play.Goals as goal

pub returns-in-None-clause-comes : goal.returns-in-None-clause-comes
returns-in-None-clause-comes g c = λ tells layout run prepared.
    let tells_out = g.O.Sink.tells c.args.out.now in
    let before = g.O.Sink.taken c.args.out.now in
    let after = g.O.Sink.taken c.show_named-in-None.new.out in
    let ended = c.show_named-in-None.result in
    subst (λ (held : Option (List ℕ)).
    MakesRun (ComesOfHeld c.args.app.now (text_in c.args.app.now layout run) held tells_out before after ended) tells_out before after ended)
    (λ i. trace_held (sym c.in-None.is i) (g.F.Files.held c.args.files.now (c.word_of-word.ensures.file i)))
    (c.show_named-in-None.ensures.comes tells layout run prepared)
