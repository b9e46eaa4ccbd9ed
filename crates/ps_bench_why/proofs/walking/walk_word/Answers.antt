use Rattle.std.proofs.Common.{ℕ, IsTrue, List, Option, inr, sym, subst}
use Rattle.ps_bench_frame.specs.Meant.{file_meant}
use Rattle.ps_bench_frame.specs.Opening.{source}
use Rattle.ps_bench_trace.specs.Playing.{trace_held}
use Rattle.ps_bench_trace.specs.Refusing.{RefusesHeld, RefusesWord}
use Rattle.ps_bench_trace.proofs.Refused.{of_some, stops_moved, stops_weaker, word_refused}
use Rattle.ps_bench_messages.proofs.Remarked.{not_so}
use Rattle.ps_bench_trace.proofs.Remarked.{some_case}
use Rattle.ps_bench_why.proofs.walking.walk_word.Goals as goal

pub returns-in-Ok-Some-clause-stops : goal.returns-in-Ok-Some-clause-stops
returns-in-Ok-Some-clause-stops g c =
    let from = source c.args.opened.now.app c.args.opened.now.sizes (g.F.Files.tells c.args.files.now) (g.F.Files.held c.args.files.now) in
    let word = c.args.word.now in
    let play = c.in-Ok-Some.play in
    let name = file_meant word in
    let stops = c.in-Err-walk_play.ensures.stops in
    inr (stops_moved (λ refusal. IsTrue (g.F.Files.tells c.args.files.now) → RefusesWord from word refusal) c.in-Err-walk_play.stop
    _ (g.O.Sink.tells c.args.out.now) _ (g.O.Sink.taken c.args.out.now) (g.O.Sink.taken c.walk_play.new.out)
    c.in-Ok-Some.ensures.telling c.in-Ok-Some.ensures.unsaid
    (stops_weaker _ _ c.in-Err-walk_play.stop _ _ _
    (λ refusal why tells.
    word_refused from word play.faults (trace_held play.cases (g.F.Files.held c.args.files.now name)) refusal (of_some _ c.in-Ok-Some.field-0 play c.in-Ok-Some.field-0-is c.in-Ok-Some.ensures.means tells)
    (subst (λ (h : List ℕ → Option (List ℕ)). RefusesHeld c.args.opened.now.app (trace_held play.cases (h name)) refusal) c.in-Ok-Some.ensures.kept
    (why (subst IsTrue (sym c.in-Ok-Some.ensures.reading) tells)))) stops))

pub returns-in-Ok-Some-clause-told : goal.returns-in-Ok-Some-clause-told
returns-in-Ok-Some-clause-told g c = λ tells.
    not_so _ _ _ _ (λ is. cc)
    (some_case _ _ c.open_play.result _ c.in-Ok-Some.field-0 c.in-Ok-Some.play c.in-Ok-Some.is c.in-Ok-Some.field-0-is
    (c.open_play.ensures.told tells))
