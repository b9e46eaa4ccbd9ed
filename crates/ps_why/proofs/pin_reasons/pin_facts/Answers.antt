use Rattle.std.proofs.Common.{◌≡◌, ◌∙◌, ap, sym, arith, Some, inl, inr, slice_get}
use Rattle.std.proofs.lemmas.Option.{slice_get_past}
use Rattle.ps_model.specs.Action.{calls}
use Rattle.ps_model.specs.Args.{actual}
use Rattle.ps_model.specs.Steps.{action}
use Rattle.ps_why.specs.Reasons.{arguments, wired_by}
use Rattle.ps_why.proofs.Adding.{ok_each}
use Rattle.ps_why.proofs.pin_reasons.pin_facts.Goals as goal

pub returns-then-j-len : goal.returns-then-j-len
returns-then-j-len c =
    let net = c.args.app.now in
    let x = c.args.scene.now in
    let k = c.args.k in
    let j = c.args.j in
    let args = c.in-Call.args in
    let stands : slice_get net.steps k ≡ Some (calls c.in-Call.instance args) = c.step.ensures ∙ ap (λ s. Some (action s)) c.in-Call.is in
    c.new-then-j-len.ensures.items
    ∙ sym (ap (λ a. wired_by net x k (slice_get (arguments a) j)) stands ∙ ap (wired_by net x k) (slice_get_past args j (omega (arith, c.if-j-len.true, c.len.ensures))))

pub returns-in-Value : goal.returns-in-Value
returns-in-Value c =
    let net = c.args.app.now in
    let x = c.args.scene.now in
    let k = c.args.k in
    let j = c.args.j in
    let args = c.in-Call.args in
    let stands : slice_get net.steps k ≡ Some (calls c.in-Call.instance args) = c.step.ensures ∙ ap (λ s. Some (action s)) c.in-Call.is in
    let is = ap (λ a. wired_by net x k (slice_get (arguments a) j)) stands ∙ ap (wired_by net x k) (c.at.ensures ∙ ap (λ a. Some (actual a)) c.in-Value.is) in
    ok_each c.expression_facts.result (λ facts g. g ∙ sym is) c.expression_facts.ensures

pub returns-in-Free : goal.returns-in-Free
returns-in-Free c =
    let net = c.args.app.now in
    let x = c.args.scene.now in
    let k = c.args.k in
    let j = c.args.j in
    let args = c.in-Call.args in
    let stands : slice_get net.steps k ≡ Some (calls c.in-Call.instance args) = c.step.ensures ∙ ap (λ s. Some (action s)) c.in-Call.is in
    let there = c.new-in-Free.ensures.items in
    let at = ap (λ a. wired_by net x k (slice_get (arguments a) j)) stands in
    elim c.in-Free.is [
      | inl e ↦ there ∙ sym (at ∙ ap (wired_by net x k) (c.at.ensures ∙ ap (λ a. Some (actual a)) e))
      | inr others ↦ elim others [
        | inl e ↦ there ∙ sym (at ∙ ap (wired_by net x k) (c.at.ensures ∙ ap (λ a. Some (actual a)) e.1))
        | inr e ↦ there ∙ sym (at ∙ ap (wired_by net x k) (c.at.ensures ∙ ap (λ a. Some (actual a)) e.1))
      ]
    ]
