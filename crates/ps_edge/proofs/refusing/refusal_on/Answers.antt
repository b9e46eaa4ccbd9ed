use Rattle.std.proofs.Common.{◌≡◌, Some, ◌∙◌, subst, sym}
use Rattle.ps_edge.specs.Hearing.{listener_seen}
use Rattle.ps_edge.specs.Spoken.{named}
use Rattle.ps_edge.specs.declared.spoken.Spoken.{Spoken}
use Rattle.ps_edge.specs.declared.spoken.Spoken.TheVariants.{App}
use Rattle.ps_edge.proofs.Told.{by_text, of_app, of_refusal}
use Rattle.ps_edge.proofs.refusing.refusal_on.Goals as goal

pub returns-in-App : goal.returns-in-App
returns-in-App g c = λ tells.
    let who = listener_seen g.L.Listener.quiet g.L.Listener.heard g.L.KnownListener.reads g.L.KnownListener.unread g.L.KnownListener.room c.args.listener.now in
    let name = c.in-Some-name_in.name.now in
    of_refusal who c.in-Some.refusal c.args.words.now c.args.left.now name c.refusal_of_app.result App c.in-Some.is
    (sym c.in-App.is ∙ c.by_rule-spoken.ensures)
    (subst (λ (s : Spoken). named c.args.words.now s ≡ Some name) c.in-App.is c.in-Some-name_in.ensures)
    (of_app who c.in-Some.refusal c.args.words.now c.args.left.now name c.refusal_of_app.result c.source_in.result.now c.source_in.ensures
    c.refusal_of_app.ensures)

pub returns-in_default-spoken : goal.returns-in_default-spoken
returns-in_default-spoken g c = λ tells.
    let who = listener_seen g.L.Listener.quiet g.L.Listener.heard g.L.KnownListener.reads g.L.KnownListener.unread g.L.KnownListener.room c.args.listener.now in
    let name = c.in-Some-name_in.name.now in
    of_refusal who c.in-Some.refusal c.args.words.now c.args.left.now name c.refusal_of_other.result c.by_rule-spoken.result c.in-Some.is
    c.by_rule-spoken.ensures c.in-Some-name_in.ensures
    (by_text who c.in-Some.refusal c.args.words.now c.args.left.now name c.refusal_of_other.result c.by_rule-spoken.result
    c.in_default-spoken.not-App (c.refusal_of_other.ensures tells))
