use Rattle.std.proofs.Common.{◌≡◌, ap, sym, ◌∙◌, cond, subst, IfOk}
use Rattle.std.specs.Prelude.{slice_index_or}
use Rattle.ps_model.specs.declared.kind.Ty.{Ty}
use Rattle.ps_model.specs.Action.{free}
use Rattle.ps_model.specs.Args.{actual}
use Rattle.ps_model.specs.Network.{signal_count}
use Rattle.ps_model.specs.Scanning.{pin_at}
use Rattle.ps_model.specs.Typing.{is_safe_type}
use Rattle.ps_model.specs.Values.{IsBelow, values_at_pin}
use Rattle.ps_flow.proofs.Walk.{part_of, found_or}
use Rattle.ps_demand.specs.Demand.{negated_at_pin}
use Rattle.ps_demand.specs.Requirement.{Requirement, always}
use Rattle.ps_demand.specs.Passes.{kept_for, slim_at_pin, slim_of_need}
use Rattle.ps_demand.specs.Views.{requirement}
use Rattle.ps_demand.proofs.slimming.slim_need.Goals as goal

pub slim_argument-requires-clause-below : goal.slim_argument-requires-clause-below
slim_argument-requires-clause-below c =
    part_of (IsBelow (signal_count c.args.app.now)) values_at_pin c.args.args.now c.in-On.p (actual c.at.result.now) c.requires.below c.at.ensures

pub negated_argument-requires : goal.negated_argument-requires
negated_argument-requires c =
    part_of (IsBelow (signal_count c.args.app.now)) values_at_pin c.args.args.now c.in-Off.p (actual c.at-in-Off.result.now) c.requires.below c.at-in-Off.ensures

pub returns-in-Safe : goal.returns-in-Safe
returns-in-Safe c =
    let net = c.args.app.now in
    let kept = kept_for c.args.rows.now in
    let p = c.in-On.p in
    let there = slice_index_or c.args.args.now p free in
    let same =
    ap (λ b. slim_at_pin net kept b (actual c.at.result.now)) c.free_value.ensures
    ∙ ap (slim_at_pin net kept (pin_at c.args.kind p).free) (sym (found_or c.args.args.now p (actual c.at.result.now) free c.at.ensures))
    ∙ ap (λ (ty : Ty). cond (is_safe_type ty) (slim_at_pin net kept (pin_at c.args.kind p).free there) always) (sym (sym c.input_type.ensures ∙ c.in-Safe.is))
    ∙ ap (slim_of_need net c.args.k kept c.args.kind c.args.args.now) (sym c.in-On.is) in
    subst (λ (z : Requirement). IfOk c.slim_argument.result (λ d. requirement d ≡ z)) same c.slim_argument.ensures

pub returns-in-Off : goal.returns-in-Off
returns-in-Off c =
    let net = c.args.app.now in
    let p = c.in-Off.p in
    c.negated_argument.ensures
    ∙ ap (λ b. negated_at_pin net c.args.k b (actual c.at-in-Off.result.now)) c.free_value-in-Off.ensures
    ∙ ap (negated_at_pin net c.args.k (pin_at c.args.kind p).free) (sym (found_or c.args.args.now p (actual c.at-in-Off.result.now) free c.at-in-Off.ensures))
    ∙ ap (slim_of_need net c.args.k (kept_for c.args.rows.now) c.args.kind c.args.args.now) (sym c.in-Off.is)
