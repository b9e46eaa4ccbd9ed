use Rattle.std.proofs.Common.{◌≡◌, ◌∙◌, ℕ, None, Option, Some, ap, false, refl, slice_get, sym, arith}
use Rattle.std.specs.Prelude.{slice_index_or}
use Rattle.std.proofs.lemmas.Option.{slice_get-get_or, slice_get_past}
use Rattle.ps_model.specs.Action.{Action, assigns, calls}
use Rattle.ps_model.specs.Network.{Network}
use Rattle.ps_model.specs.Steps.{action}
use Rattle.ps_ways.specs.Marks.{made}
use Rattle.ps_cover.specs.Covering.{makes_in}
use Rattle.ps_cover.proofs.Calling.{no_call}
use Rattle.ps_cover.proofs.point.made.Goals.{then-k-step_count-via-then-k-step_count, then-k-step_count-via-else-k-step_count+then-k-calls}
use Rattle.ps_cover.proofs.point.made.Goals as goal

-- no step makes a mark of which no call is known
none_makes : (net : Network) (a : Option Action) (mark : ℕ) → makes_in net a None mark ≡ false
none_makes net (Some (calls i args)) mark = refl
none_makes net (Some (assigns t e)) mark = refl
none_makes net None mark = refl

pub returns-then-k-step_count : goal.returns-then-k-step_count
returns-then-k-step_count c =
    let net = c.args.app.now in
    let k = c.args.k in
    let mark = c.args.mark in
    elim c.then-k-step_count.branch [
      | then-k-step_count-via-then-k-step_count w ↦
          sym (ap (λ a. makes_in net a (slice_get c.args.calls.now k) mark) (slice_get_past net.steps k (omega (arith, w.if-k-step_count.true, c.step_count.ensures))))
      | then-k-step_count-via-else-k-step_count+then-k-calls w ↦
          sym (ap (λ d. makes_in net (slice_get net.steps k) d mark) (slice_get_past c.args.calls.now k w.if-k-calls.true) ∙ none_makes net (slice_get net.steps k) mark)
    ]

pub returns-in-Call : goal.returns-in-Call
returns-in-Call c =
    let net = c.args.app.now in
    let k = c.args.k in
    let d = slice_index_or c.args.calls.now k no_call in
    let at : slice_get net.steps k ≡ Some (calls c.in-Call.instance c.in-Call.args) = c.step.ensures ∙ ap (λ s. Some (action s)) c.in-Call.is in
    let there : slice_get c.args.calls.now k ≡ Some d = slice_get-get_or c.args.calls.now k no_call c.if-k-calls.false in
    c.makes.ensures ∙ ap (λ kind. made kind d.moved.from d.moved.number d.moved.block.code c.args.mark) c.instance_kind.ensures
    ∙ (λ i. makes_in net (sym at i) (sym there i) c.args.mark)

pub returns-in-Assign : goal.returns-in-Assign
returns-in-Assign c =
    let net = c.args.app.now in
    let k = c.args.k in
    sym (ap (λ a. makes_in net a (slice_get c.args.calls.now k) c.args.mark) (c.step.ensures ∙ ap (λ s. Some (action s)) c.in-Assign.is))
