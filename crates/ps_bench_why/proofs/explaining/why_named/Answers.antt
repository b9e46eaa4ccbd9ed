use Rattle.std.proofs.Common.{◌≡◌, ◌∙◌, IsTrue, Ok, ap, refl, subst, sym}
use Rattle.ps_bench_frame.specs.Opening.{source}
use Rattle.ps_bench_frame.specs.declared.ending.Status.TheVariants.{Usage}
use Rattle.ps_bench_messages.proofs.Remarked.{not_so, so}
use Rattle.ps_bench_messages.specs.Remarking.{RemarksIf}
use Rattle.ps_edge.specs.Hearing.{listener_seen}
use Rattle.ps_bench_trace.proofs.Refused.{of_some}
use Rattle.ps_bench_trace.proofs.Remarked.{no_play}
use Rattle.ps_bench_why.specs.Asking.{wanted_by}
use Rattle.ps_bench_why.specs.Walked.{WalksWord}
use Rattle.ps_bench_why.proofs.Coming.{moved}
use Rattle.ps_bench_why.proofs.Remarked.{of_case, of_scan}
use Rattle.ps_bench_why.specs.Remarking.{TellsNoScan}
use Rattle.ps_bench_why.proofs.explaining.why_named.Goals as goal

pub returns-in-Ok-Some-clause-answers : goal.returns-in-Ok-Some-clause-answers
returns-in-Ok-Some-clause-answers g c =
    let net = c.args.sourced.now.opened.app in
    let sizes = c.args.sourced.now.opened.sizes in
    let app = c.args.asked.now.app.now in
    let wanted = wanted_by c.args.asked.now in
    let reading = g.F.Files.tells c.args.files.now in
    let held = g.F.Files.held c.args.files.now in
    let from = source net sizes reading held in
    moved net sizes app wanted reading reading held held (g.O.Sink.tells c.args.out.now) _ (g.O.Sink.taken c.args.out.now) _
    (g.O.Sink.taken c.tell_found.new.out) c.tell_found.result refl refl c.in-Ok-Some.ensures.telling c.in-Ok-Some.ensures.unsaid
    (c.tell_found.ensures.answers from refl c.requires.named
    (λ tells. of_some (λ met. WalksWord from wanted.trace wanted.time c.walk_word.new.walker) c.in-Ok-Some.field-0 c.in-Ok-Some.met
    c.in-Ok-Some.field-0-is (c.in-Ok-Some.ensures.walks tells)) c.requires.source)

pub returns-in-Ok-Some-clause-told : goal.returns-in-Ok-Some-clause-told
returns-in-Ok-Some-clause-told g c = λ tells.
    let wanted = wanted_by c.args.asked.now in
    let from = source c.args.sourced.now.opened.app c.args.sourced.now.opened.sizes (g.F.Files.tells c.args.files.now) (g.F.Files.held c.args.files.now) in
    let who = (listener_seen g.L.Listener.quiet g.L.Listener.heard g.L.KnownListener.reads g.L.KnownListener.unread g.L.KnownListener.room c.args.listener.now) in
    let after = g.L.Listener.heard c.tell_found.new.listener in
    let same = of_some (λ met. c.walk_word.new.listener ≡ c.args.listener.now) c.in-Ok-Some.field-0 c.in-Ok-Some.met c.in-Ok-Some.field-0-is
    c.in-Ok-Some.ensures.stays in
    let heard = c.tell_found.ensures.told (subst IsTrue (sym c.in-Ok-Some.ensures.listening) tells) from
    (λ reads. of_some (λ met. WalksWord from wanted.trace wanted.time c.walk_word.new.walker) c.in-Ok-Some.field-0 c.in-Ok-Some.met
    c.in-Ok-Some.field-0-is (c.in-Ok-Some.ensures.walks reads)) in
    of_scan wanted from who after (c.tell_found.result ≡ Ok Usage)
    (subst (λ l. RemarksIf (c.tell_found.result ≡ Ok Usage) (TellsNoScan wanted from)
    (listener_seen g.L.Listener.quiet g.L.Listener.heard g.L.KnownListener.reads g.L.KnownListener.unread g.L.KnownListener.room l) after) same heard)

pub returns-in-Ok-None-clause-told : goal.returns-in-Ok-None-clause-told
returns-in-Ok-None-clause-told g c = λ tells.
    let wanted = wanted_by c.args.asked.now in
    let from = source c.args.sourced.now.opened.app c.args.sourced.now.opened.sizes (g.F.Files.tells c.args.files.now) (g.F.Files.held c.args.files.now) in
    so _ _ _ _ refl (of_case wanted from (listener_seen g.L.Listener.quiet g.L.Listener.heard g.L.KnownListener.reads g.L.KnownListener.unread g.L.KnownListener.room c.args.listener.now)
    (g.L.Listener.heard c.walk_word.new.listener)
    ((c.walk_word.ensures.told tells).remarked (c.in-Ok-None.is ∙ ap Ok c.in-Ok-None.field-0-is)))

pub returns-clause-told : goal.returns-clause-told
returns-clause-told g c = λ tells.
    not_so _ _ _ _ (λ is. cc) (no_play _ _ c.walk_word.result _ c.in-Err-walk_word.stop c.in-Err-walk_word.is (c.walk_word.ensures.told tells))

pub returns-in-Err-clause-told : goal.returns-in-Err-clause-told
returns-in-Err-clause-told g c = λ tells. not_so _ _ _ _ (λ is. cc) refl
