use Rattle.std.proofs.Common.{◌≡◌, ℕ, IsTrue, List, Option, refl, sym, subst}
use Rattle.std.proofs.lemmas.Result.{IfErr-weaker}
use Rattle.std.specs.Prelude.{IfErr}
use Rattle.ps_bench_frame.specs.Meant.{file_meant}
use Rattle.ps_bench_trace.specs.Playing.{trace_held}
use Rattle.ps_bench_trace.specs.Refusing.{RefusesHeld, StopsAtTrace}
use Rattle.ps_bench_trace.proofs.Refused.{stops_weaker}
use Rattle.ps_bench_why.proofs.walking.walk_play.Goals as goal

pub returns-in-None-clause-stops : goal.returns-in-None-clause-stops
returns-in-None-clause-stops g c =
    let there : g.F.Files.held c.args.files.now c.word_of-word.result.file.now
    ≡ trace_held c.args.cases (g.F.Files.held c.args.files.now (file_meant c.args.word.now)) =
    λ i. trace_held (sym c.in-None.is i) (g.F.Files.held c.args.files.now (c.word_of-word.ensures.file i)) in
    subst (λ (h : Option (List ℕ)). IfErr c.walk_named-in-None.result (λ stop. StopsAtTrace
    (λ refusal. IsTrue (g.F.Files.tells c.args.files.now) → RefusesHeld c.args.app.now h refusal) stop
    (g.O.Sink.tells c.args.out.now) (g.O.Sink.taken c.args.out.now) (g.O.Sink.taken c.walk_named-in-None.new.out))) there
    c.walk_named-in-None.ensures.stops

pub returns-in-Some-clause-stops : goal.returns-in-Some-clause-stops
returns-in-Some-clause-stops g c =
    IfErr-weaker c.walk_named.result _ _
    (λ stop stops. stops_weaker _ _ stop _ _ _
    (λ refusal why tells.
    subst (λ (o : Option (List ℕ)). RefusesHeld c.args.app.now (trace_held o (g.F.Files.held c.args.files.now (file_meant c.args.word.now))) refusal)
    (sym c.in-Some.is) (why refl)) stops)
    c.walk_named.ensures.stops
