use Rattle.std.proofs.Common.{◌≡◌, ◌∙◌, ◌++◌, OnOk, Some, ap, map, slice_get, subst, sym}
use Rattle.std.specs.List.{flat_map}
use Rattle.ps_model.specs.Action.{calls}
use Rattle.ps_model.specs.Steps.{action}
use Rattle.ps_cover.specs.Covering.{point_of}
use Rattle.ps_cover.specs.Listing.{call_points, pin_points, step_points}
use Rattle.ps_cover.proofs.Listings.{both_listed}
use Rattle.ps_cover.proofs.listing.push_step.Goals as goal

pub step-requires : goal.step-requires
step-requires c = c.requires

pub returns-in-Assign : goal.returns-in-Assign
returns-in-Assign c =
    let net = c.args.app.now in
    let k = c.args.k in
    subst (λ a. OnOk c.push_decisions.result (map point_of c.push_decisions.new.points.items ≡ map point_of c.args.points.now.items ++ step_points net k a))
    (sym (c.step.ensures ∙ ap (λ s. Some (action s)) c.in-Assign.is)) c.push_decisions.ensures

pub returns-in_ok-push_marks-in-Call : goal.returns-in_ok-push_marks-in-Call
returns-in_ok-push_marks-in-Call c =
    let net = c.args.app.now in
    let k = c.args.k in
    let args = c.in-Call.args in
    let at : slice_get net.steps k ≡ Some (calls c.in-Call.instance args) = c.step.ensures ∙ ap (λ s. Some (action s)) c.in-Call.is in
    both_listed c.push_args.result (map point_of c.args.points.now.items) (map point_of c.push_marks.new.points.items) (map point_of c.push_args.new.points.items)
    (call_points k c.instance_kind.result) (flat_map (pin_points k) args) (step_points net k (slice_get net.steps k)) c.in_ok-push_marks-in-Call.ensures
    (ap (step_points net k) at ∙ ap (λ kind. call_points k kind ++ flat_map (pin_points k) args) (sym c.instance_kind.ensures)) c.push_args.ensures
