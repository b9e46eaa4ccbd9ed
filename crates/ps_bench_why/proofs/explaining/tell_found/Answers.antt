use Rattle.std.proofs.Common.{◌≡◌, List, Some, ℕ, refl, subst, sym, ◌∙◌}
use Rattle.ps_bench_frame.specs.declared.ending.Status.TheVariants.{Done}
use Rattle.ps_bench_messages.proofs.Remarked.{first_of, not_so, not_usage, so}
use Rattle.ps_bench_why.specs.Asking.{IsTold, wanted_by}
use Rattle.ps_bench_why.specs.Looking.{IsLook}
use Rattle.ps_bench_why.specs.Reasoned.{IsReasoned}
use Rattle.ps_bench_why.specs.Scanned.{Scanned}
use Rattle.ps_bench_why.proofs.Finding.{told_by, written}
use Rattle.ps_why.specs.declared.questions.Question.{Question}
use Rattle.ps_bench_why.proofs.Remarked.{no_scan}
use Rattle.ps_edge.specs.Hearing.{listener_seen}
use Rattle.ps_bench_why.proofs.explaining.tell_found.Goals as goal

pub returns-in_default-clause-told : goal.returns-in_default-clause-told
returns-in_default-clause-told g c = λ tells from walks.
    so _ _ _ _ refl (no_scan from (wanted_by c.args.asked.now) c.args.walker.now c.args.met
    (listener_seen g.L.Listener.quiet g.L.Listener.heard g.L.KnownListener.reads g.L.KnownListener.unread g.L.KnownListener.room c.args.listener.now)
    (g.L.Listener.heard c.tell_no_scan.new.listener) walks (let none = c.in_default.is in let last = c.last.ensures in cc) (c.tell_no_scan.ensures.told tells))

pub returns-in-Ok-clause-told : goal.returns-in-Ok-clause-told
returns-in-Ok-clause-told g c = λ tells from walks.
    not_so _ _ _ _ (not_usage c.write_told.result (first_of (λ status. status ≡ Done) _ c.write_told.result c.write_told.ensures.all)) refl

pub returns-in-Err-clause-told : goal.returns-in-Err-clause-told
returns-in-Err-clause-told g c = λ tells from walks. not_so _ _ _ _ (λ is. cc) refl

pub returns-in-Ok-clause-answers : goal.returns-in-Ok-clause-answers
returns-in-Ok-clause-answers g c = λ from same named walks source.
    let net = c.args.sourced.now.opened.app in
    let tree = c.args.sourced.now.source in
    let app = c.args.asked.now.app.now in
    let wanted = wanted_by c.args.asked.now in
    let walker = c.args.walker.now in
    let times = c.in-Some.times in
    let text = c.in-Ok.text in
    let reasoned = subst (λ (q : Question). (s : Scanned) → IsLook net s walker → walker.last ≡ Some times → IsReasoned net tree s q wanted.format text)
    c.question_of-question.ensures.asks c.in-Ok.ensures in
    let told = told_by net from app wanted tree c.args.name walker times text same named walks source (sym c.last.ensures ∙ c.in-Some.is) reasoned in
    written from app wanted c.as_slice.result.now (g.O.Sink.tells c.args.out.now) (g.O.Sink.taken c.args.out.now)
    (g.O.Sink.taken c.write_told.new.out) c.write_told.result
    (subst (λ (t : List ℕ). IsTold from app wanted t) (sym c.as_slice.ensures) told) c.write_told.ensures.all c.write_told.ensures.some
