use Rattle.std.proofs.Common.{subst, sym, inl, inr, Contains, List}
use Rattle.std.proofs.lemmas.Option.{get_or_from_slice_get, slice_get_within}
use Rattle.ps_why.specs.declared.fact.Fact.{Fact}
use Rattle.ps_why.specs.Questions.{AreAskedFor, IsAnswered}
use Rattle.ps_why.proofs.Adding.{ok_each}
use Rattle.ps_why.proofs.Rooted.{answered_more, roots_so}
use Rattle.ps_why.proofs.questions.answer.Goals as goal

pub returns-clause-answers : goal.returns-clause-answers
returns-clause-answers c =
    let net = c.args.app.now in
    let x = c.args.scene.now in
    let q = c.args.question in
    let roots = c.as_slice.result.now in
    let answered : IsAnswered net x q (Contains roots) =
    subst (λ (fs : List Fact). IsAnswered net x q (Contains fs)) (sym c.as_slice.ensures.value) c.in_ok-roots.ensures.answers in
    ok_each c.explain.result (λ e t.
    answered_more net x q (Contains roots) (Contains e.facts.items)
    (λ f h. let w = t.asked_for f h in (w.0, slice_get_within e.facts.items w.0 f w.1, get_or_from_slice_get e.facts.items w.0 f f w.1)) answered) c.explain.ensures.told

pub returns-clause-used : goal.returns-clause-used
returns-clause-used c =
    let net = c.args.app.now in
    let x = c.args.scene.now in
    let q = c.args.question in
    let are : AreAskedFor net x q c.as_slice.result.now =
    subst (λ (fs : List Fact). AreAskedFor net x q fs) (sym c.as_slice.ensures.value) c.in_ok-roots.ensures.roots in
    ok_each c.explain.result (λ e t n f at. elim (t.used n f at) [ inl root ↦ inl (are f root) | inr reason ↦ inr reason ])
    c.explain.ensures.told

pub returns-clause-meant : goal.returns-clause-meant
returns-clause-meant c =
    let net = c.args.app.now in
    let x = c.args.scene.now in
    let q = c.args.question in
    let roots = c.as_slice.result.now in
    let are : AreAskedFor net x q roots = subst (λ (fs : List Fact). AreAskedFor net x q fs) (sym c.as_slice.ensures.value) c.in_ok-roots.ensures.roots in
    ok_each c.explain.result (λ e m old ins since new solves scene.
    m old ins since new solves scene (roots_so net c.sound.ensures x old since new scene q c.requires.of roots are)) c.explain.ensures.meant
