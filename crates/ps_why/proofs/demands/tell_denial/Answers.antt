use Rattle.std.proofs.Common.{◌++◌, ◌∷◌, [], Contains, List, ap, subst, sym, ◌∙◌}
use Rattle.std.proofs.lemmas.List.Elements.{Contains-push}
use Rattle.ps_model.specs.Demand.{demand, is_met}
use Rattle.ps_ways.specs.Stepping.{conditions_of}
use Rattle.ps_why.specs.Rests.{unmet}
use Rattle.ps_why.specs.declared.fact.Fact.{Fact}
use Rattle.ps_why.proofs.Listing.{find_some}
use Rattle.ps_why.proofs.demands.tell_denial.Goals as goal

pub returns-in_ok-push-in-Some-clause-denied : goal.returns-in_ok-push-in-Some-clause-denied
returns-in_ok-push-in-Some-clause-denied c =
    let need = c.in-Some.need in
    let pin = unmet c.args.step need in
    let old = c.args.facts.now.items in
    λ yes. (
      need,
      (find_some (is_met (conditions_of c.args.seen.now).pin) (demand c.args.kind c.args.output) need (sym c.in-Some.ensures)).0,
      subst (λ (fs : List Fact). Contains fs pin) (sym (c.in_ok-push-in-Some.ensures.items ∙ ap (λ (f : Fact). old ++ f ∷ []) c.unmet_fact.ensures)) (Contains-push old pin),
    )
