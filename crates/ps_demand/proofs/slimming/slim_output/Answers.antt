use Rattle.std.proofs.Common.{◌≡◌, suc, ◌+◌, List, ◌∷◌, ◌++◌, map, drop, get_or, IfOk, subst, sym, ap, ◌∙◌, append-nil, arith}
use Rattle.std.specs.Prelude.{All, flat_map}
use Rattle.std.proofs.lemmas.List.{drop_all}
use Rattle.std.proofs.Math.Seq.{drop-cons}
use Rattle.ps_model.specs.declared.demands.Need.{Need}
use Rattle.ps_model.specs.declared.demands.Need.TheVariants.{On}
use Rattle.ps_demand.specs.declared.join.Join.TheVariants.{And}
use Rattle.ps_demand.specs.Passes.{IsNeedOf, slim_of_need, slim_together, kept_for}
use Rattle.ps_demand.specs.Requirement.{Requirement}
use Rattle.ps_demand.specs.Slim.{parts_within, slim_of_parts}
use Rattle.ps_demand.specs.Views.{requirement}
use Rattle.ps_demand.proofs.NeedPins.{needs_within}
use Rattle.ps_demand.proofs.Parts.{within_more, together_alone, together_joined}
use Rattle.ps_demand.proofs.slimming.slim_output.Goals as goal

pub slim_need-requires-clause-pin : goal.slim_need-requires-clause-pin
slim_need-requires-clause-pin c =
    let within : All (IsNeedOf c.args.kind) c.demand-needs.result.now =
    subst (λ (needs : List Need). All (IsNeedOf c.args.kind) needs) (sym c.demand-needs.ensures) (needs_within c.args.kind c.args.output) in
    within 0 (On 0) (omega (arith, c.if-needs-eq1.true))

pub slim_need-requires-in-loop-need-clause-pin : goal.slim_need-requires-in-loop-need-clause-pin
slim_need-requires-in-loop-need-clause-pin c =
    let within : All (IsNeedOf c.args.kind) c.demand-needs.result.now =
    subst (λ (needs : List Need). All (IsNeedOf c.args.kind) needs) (sym c.demand-needs.ensures) (needs_within c.args.kind c.args.output) in
    within c.loop-need.need-index (On 0) c.loop-need-test.true

pub loop-need-preserved : goal.loop-need-preserved
loop-need-preserved c =
    let i = c.loop-need.need-index in
    let needs = c.demand-needs.result.now in
    let need = get_or needs i (On 0) in
    let demanded = slim_of_need c.args.app.now c.args.k (kept_for c.args.rows.now) c.args.kind c.args.args.now in
    let plus : suc i ≡ i + 1 = omega arith in
    let next : drop i needs ≡ need ∷ drop (i + 1) needs = drop-cons needs i (On 0) c.loop-need-test.true ∙ ap (λ n. need ∷ drop n needs) plus in
    within_more And (map requirement c.loop-need.parts.items) (map requirement c.add_part.new.parts.items) (map demanded (drop (i + 1) needs))
    (map demanded (drop i needs)) (flat_map (parts_within And) (map demanded needs)) (requirement c.in_ok-part.part) (demanded need)
    c.in_ok-add_part.ensures c.in_ok-part.ensures (ap (map demanded) next) c.loop-need.invariant

pub returns : goal.returns
returns c =
    let needs = c.demand-needs.result.now in
    let parts = map requirement c.loop-need.parts.items in
    let demanded = slim_of_need c.args.app.now c.args.k (kept_for c.args.rows.now) c.args.kind c.args.args.now in
    let all : parts ≡ flat_map (parts_within And) (map demanded needs) =
    sym (append-nil parts)
    ∙ ap (λ left. parts ++ flat_map (parts_within And) (map demanded left)) (sym (drop_all c.loop-need.need-index needs c.loop-need-test.false))
    ∙ c.loop-need.invariant in
    subst (λ (z : Requirement). IfOk c.slim_of_parts.result (λ d. requirement d ≡ z))
    (ap (slim_of_parts And) all ∙ together_joined demanded needs c.if-needs-eq1.false ∙ ap (λ ns. slim_together (map demanded ns)) c.demand-needs.ensures)
    c.slim_of_parts.ensures

pub returns-then-needs-eq1 : goal.returns-then-needs-eq1
returns-then-needs-eq1 c =
    let demanded = slim_of_need c.args.app.now c.args.k (kept_for c.args.rows.now) c.args.kind c.args.args.now in
    subst (λ (z : Requirement). IfOk c.slim_need.result (λ d. requirement d ≡ z))
    (together_alone demanded c.demand-needs.result.now (On 0) c.if-needs-eq1.true ∙ ap (λ ns. slim_together (map demanded ns)) c.demand-needs.ensures)
    c.slim_need.ensures
