use Rattle.std.proofs.Common.{◌≡◌, ◌∙◌, ◌∷◌, ◌++◌, [], List, Some, ap, arith, slice_get}
use Rattle.std.specs.Prelude.{slice_index_or}
use Rattle.std.proofs.lemmas.Option.{slice_get-get_or}
use Rattle.ps_ways.specs.Stepping.{conditions_of}
use Rattle.ps_why.specs.Reasons.{mode_pins}
use Rattle.ps_why.specs.Scenes.{IsCallFor, conditions_in}
use Rattle.ps_why.specs.declared.fact.Fact.{Fact}
use Rattle.ps_why.specs.declared.fact.Fact.TheVariants.{ModeWas, StateIs, StateWas}
use Rattle.ps_why.proofs.Listed.{mode_anew, mode_old, no_mode}
use Rattle.ps_why.proofs.Seeing.{no_call}
use Rattle.ps_why.proofs.states.mode_facts.Goals as goal

pub returns-then-i-scene : goal.returns-then-i-scene
returns-then-i-scene c = c.new-facts.ensures.items ∙ no_mode c.args.app.now c.args.scene.now c.args.i (omega (arith, c.if-i-scene.true))

pub returns-then-call : goal.returns-then-call
returns-then-call c =
    let net = c.args.app.now in
    let x = c.args.scene.now in
    let i = c.args.i in
    let here = slice_index_or x.calls.now i no_call in
    let at : slice_get x.calls.now i ≡ Some here = slice_get-get_or x.calls.now i no_call (omega (arith, c.if-i-scene.false)) in
    let call : IsCallFor net i here = c.requires.calls i here at in
    let cs = conditions_of c.call_conditions-seen.result in
    let is : cs ≡ conditions_in net x here.step i call.args here = c.call_conditions-seen.ensures call.args call.stands in
    c.in_ok-tell_modes.ensures.told
    ∙ ap (λ (l : List Fact). l ++ mode_pins here.step cs.pin)
    (c.in_ok-push-2.ensures.items
    ∙ ap (λ (l : List Fact). l ++ StateIs i here.code ∷ [])
    (c.in_ok-push.ensures.items ∙ ap (λ (l : List Fact). l ++ StateWas i here.from ∷ []) c.new-facts.ensures.items))
    ∙ mode_anew net x i here at call.args call.stands cs is c.if-call.true

pub returns : goal.returns
returns c =
    let net = c.args.app.now in
    let x = c.args.scene.now in
    let i = c.args.i in
    let here = slice_index_or x.calls.now i no_call in
    let at : slice_get x.calls.now i ≡ Some here = slice_get-get_or x.calls.now i no_call (omega (arith, c.if-i-scene.false)) in
    c.in_ok-push-3.ensures.items
    ∙ ap (λ (l : List Fact). l ++ ModeWas i here.last.mode ∷ [])
    (c.in_ok-push-2.ensures.items
    ∙ ap (λ (l : List Fact). l ++ StateIs i here.code ∷ [])
    (c.in_ok-push.ensures.items ∙ ap (λ (l : List Fact). l ++ StateWas i here.from ∷ []) c.new-facts.ensures.items))
    ∙ mode_old net x i here at c.if-call.false
