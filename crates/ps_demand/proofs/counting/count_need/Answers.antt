use Rattle.std.proofs.Common.{ap, sym, ◌∙◌, cond}
use Rattle.ps_model.specs.declared.kind.Ty.{Ty}
use Rattle.ps_model.specs.Action.{free}
use Rattle.ps_model.specs.Args.{actual}
use Rattle.ps_model.specs.Network.{signal_count}
use Rattle.ps_model.specs.Typing.{is_safe_type}
use Rattle.ps_model.specs.Values.{IsBelow, values_at_pin}
use Rattle.std.specs.Prelude.{slice_index_or}
use Rattle.ps_flow.proofs.Walk.{part_of, found_or}
use Rattle.ps_demand.specs.Passes.{saturated, count_in, weight_at_pin, weight_of_need}
use Rattle.ps_demand.proofs.counting.count_need.Goals as goal

pub count_argument-requires-clause-below : goal.count_argument-requires-clause-below
count_argument-requires-clause-below c =
    part_of (IsBelow (signal_count c.args.app.now)) values_at_pin c.args.args.now c.in-On.p (actual c.at.result.now) c.requires.below c.at.ensures

pub returns-in-Safe : goal.returns-in-Safe
returns-in-Safe c =
    let net = c.args.app.now in
    let counts = count_in c.args.counts.now in
    let there = slice_index_or c.args.args.now c.in-On.p free in
    c.count_argument.ensures
    ∙ ap (λ a. saturated (weight_at_pin net counts a)) (sym (found_or c.args.args.now c.in-On.p (actual c.at.result.now) free c.at.ensures))
    ∙ ap (λ (ty : Ty). saturated (cond (is_safe_type ty) (weight_at_pin net counts there) 1)) (sym (sym c.input_type.ensures ∙ c.in-Safe.is))
    ∙ ap (λ need. saturated (weight_of_need net counts c.args.kind c.args.args.now need)) (sym c.in-On.is)
