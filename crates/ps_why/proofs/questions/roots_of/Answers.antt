use Rattle.std.proofs.Common.{◌≡◌, ◌<◌, Contains, List, Some, subst, sym, inl, inr, refl, arith, slice_get}
use Rattle.std.specs.Prelude.{slice_index_or}
use Rattle.std.proofs.lemmas.List.Elements.{Contains-push}
use Rattle.std.proofs.lemmas.Option.{slice_get-get_or}
use Rattle.ps_model.specs.Network.{instance_count}
use Rattle.ps_why.specs.declared.fact.Fact.{Fact}
use Rattle.ps_why.specs.declared.fact.Fact.TheVariants.{StateIs}
use Rattle.ps_why.specs.declared.questions.Question.TheVariants.{Instance}
use Rattle.ps_why.proofs.Guarding.{adds_more, adds_none}
use Rattle.ps_why.specs.Questions.{IsAnswered, IsAskedFor, IsOf, IsSafeValue}
use Rattle.ps_why.proofs.Adding.{adds_as, adds_only, adds_push}
use Rattle.ps_why.proofs.Seeing.{no_call}
use Rattle.ps_why.proofs.questions.roots_of.Goals as goal

pub returns-in_ok-tell_outputs-in-Instance-clause-answers : goal.returns-in_ok-tell_outputs-in-Instance-clause-answers
returns-in_ok-tell_outputs-in-Instance-clause-answers c =
    let net = c.args.app.now in
    let x = c.args.scene.now in
    let i = c.in-Instance.i in
    let inside : i < instance_count net = subst (IsOf net) c.in-Instance.is c.requires.of in
    let here = slice_index_or x.calls.now i no_call in
    let at : slice_get x.calls.now i ≡ Some here = slice_get-get_or x.calls.now i no_call (omega (arith, inside, c.requires.fits.each)) in
    let one = c.push-in-Instance.new.self.items in
    let facts = c.tell_outputs.new.facts.items in
    let pushed = c.in_ok-push-in-Instance.ensures.items in
    subst (λ q. IsAnswered net x q (Contains facts)) (sym c.in-Instance.is) (
      (
        StateIs i here.code,
        (here, at, refl),
        c.in_ok-tell_outputs-in-Instance.ensures.adds.kept (StateIs i here.code)
            (subst (λ (fs : List Fact). Contains fs (StateIs i here.code)) (sym pushed) (Contains-push c.new-roots.result.items (StateIs i here.code))),
      ),
      c.in_ok-tell_outputs-in-Instance.ensures.told,
    )

pub returns-in_ok-tell_outputs-in-Instance-clause-roots : goal.returns-in_ok-tell_outputs-in-Instance-clause-roots
returns-in_ok-tell_outputs-in-Instance-clause-roots c =
    let net = c.args.app.now in
    let x = c.args.scene.now in
    let i = c.in-Instance.i in
    let inside : i < instance_count net = subst (IsOf net) c.in-Instance.is c.requires.of in
    let here = slice_index_or x.calls.now i no_call in
    let at : slice_get x.calls.now i ≡ Some here = slice_get-get_or x.calls.now i no_call (omega (arith, inside, c.requires.fits.each)) in
    let one = c.push-in-Instance.new.self.items in
    let facts = c.tell_outputs.new.facts.items in
    let pushed = c.in_ok-push-in-Instance.ensures.items in
    let none = c.new-roots.result.items in
    let asked = IsAskedFor net x c.args.question in
    let same : (f : Fact) → IsAskedFor net x (Instance i) f → asked f = λ f h. subst (λ q. IsAskedFor net x q f) (sym c.in-Instance.is) h in
    let all = adds_more asked none one facts
    (adds_push asked none none one (StateIs i here.code) (adds_none asked none) (same (StateIs i here.code) (inl (here, at, refl))) pushed)
    (adds_as (IsSafeValue net x i) asked (λ f h. same f (inr h)) one facts c.in_ok-tell_outputs-in-Instance.ensures.adds) in
    λ f h. adds_only asked none facts c.new-roots.ensures.items all f h

pub returns-in_ok-push-in-Pin-clause-roots : goal.returns-in_ok-push-in-Pin-clause-roots
returns-in_ok-push-in-Pin-clause-roots c =
    let net = c.args.app.now in
    let x = c.args.scene.now in
    let asked = IsAskedFor net x c.args.question in
    let none = c.new-roots.result.items in
    let facts = c.push-in-Pin.new.self.items in
    let fact = c.pin_fact.result in
    let is : asked fact = subst (λ q. IsAskedFor net x q fact) (sym c.in-Pin.is) c.pin_fact.ensures in
    let all = adds_push asked none none facts fact (adds_none asked none) is c.in_ok-push-in-Pin.ensures.items in
    λ f h. adds_only asked none facts c.new-roots.ensures.items all f h

pub returns-in_ok-push-in-Signal-clause-roots : goal.returns-in_ok-push-in-Signal-clause-roots
returns-in_ok-push-in-Signal-clause-roots c =
    let net = c.args.app.now in
    let x = c.args.scene.now in
    let asked = IsAskedFor net x c.args.question in
    let none = c.new-roots.result.items in
    let facts = c.push.new.self.items in
    let fact = c.value_fact.result in
    let is : asked fact = subst (λ q. IsAskedFor net x q fact) (sym c.in-Signal.is) c.value_fact.ensures in
    let all = adds_push asked none none facts fact (adds_none asked none) is c.in_ok-push-in-Signal.ensures.items in
    λ f h. adds_only asked none facts c.new-roots.ensures.items all f h
