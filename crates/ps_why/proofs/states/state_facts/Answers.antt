use Rattle.std.proofs.Common.{◌≡◌, ◌∙◌, ◌∷◌, ◌++◌, [], true, false, List, Some, ap, sym, arith, slice_get}
use Rattle.std.specs.Prelude.{slice_index_or, ◌==◌}
use Rattle.std.proofs.lemmas.Option.{slice_get-get_or}
use Rattle.ps_model.specs.declared.kind.Kind.{Kind}
use Rattle.ps_ways.specs.Stepping.{conditions_of}
use Rattle.ps_ways.specs.Tables.{ways_of}
use Rattle.ps_why.specs.Reasons.{guards_are, tried}
use Rattle.ps_why.specs.Scenes.{IsCallFor, conditions_in}
use Rattle.ps_why.specs.declared.fact.Fact.{Fact}
use Rattle.ps_why.specs.declared.fact.Fact.TheVariants.{PinIs, StateWas}
use Rattle.ps_why.proofs.Listed.{no_state, state_entered, state_guarded, state_idle}
use Rattle.ps_why.proofs.Seeing.{no_call}
use Rattle.ps_why.proofs.states.state_facts.Goals as goal

pub returns-then-i-scene : goal.returns-then-i-scene
returns-then-i-scene c = c.new-facts.ensures.items ∙ no_state c.args.app.now c.args.scene.now c.args.i (omega (arith, c.if-i-scene.true))

pub returns-then-not-branch : goal.returns-then-not-branch
returns-then-not-branch c =
    let net = c.args.app.now in
    let x = c.args.scene.now in
    let i = c.args.i in
    let here = slice_index_or x.calls.now i no_call in
    let at : slice_get x.calls.now i ≡ Some here = slice_get-get_or x.calls.now i no_call (omega (arith, c.if-i-scene.false)) in
    let call : IsCallFor net i here = c.requires.calls i here at in
    let cs = conditions_of c.call_conditions-seen.result in
    let is : cs ≡ conditions_in net x here.step i call.args here = c.call_conditions-seen.ensures call.args call.stands in
    let off : cs.pin 0 ≡ false = sym c.in_ok-tell_pin.ensures.value ∙ c.if-not-branch.true in
    c.in_ok-tell_pin.ensures.told ∙ ap (λ (l : List Fact). l ++ PinIs here.step 0 (cs.pin 0) ∷ []) c.new-facts.ensures.items
    ∙ state_idle net x i here at call.args call.stands cs is off

pub returns-then-was_idle : goal.returns-then-was_idle
returns-then-was_idle c =
    let net = c.args.app.now in
    let x = c.args.scene.now in
    let i = c.args.i in
    let here = slice_index_or x.calls.now i no_call in
    let at : slice_get x.calls.now i ≡ Some here = slice_get-get_or x.calls.now i no_call (omega (arith, c.if-i-scene.false)) in
    let call : IsCallFor net i here = c.requires.calls i here at in
    let cs = conditions_of c.call_conditions-seen.result in
    let is : cs ≡ conditions_in net x here.step i call.args here = c.call_conditions-seen.ensures call.args call.stands in
    let on : cs.pin 0 ≡ true = sym c.in_ok-tell_pin.ensures.value ∙ c.if-not-branch.false in
    let idle : (here.from == 0) ≡ true = sym c.was_idle.ensures ∙ c.if-was_idle.true in
    c.in_ok-push.ensures.items
    ∙ ap (λ (l : List Fact). l ++ StateWas i here.from ∷ [])
    (c.in_ok-tell_pin.ensures.told ∙ ap (λ (l : List Fact). l ++ PinIs here.step 0 (cs.pin 0) ∷ []) c.new-facts.ensures.items)
    ∙ state_entered net x i here at call.args call.stands cs is on idle

pub returns : goal.returns
returns c =
    let net = c.args.app.now in
    let x = c.args.scene.now in
    let i = c.args.i in
    let here = slice_index_or x.calls.now i no_call in
    let at : slice_get x.calls.now i ≡ Some here = slice_get-get_or x.calls.now i no_call (omega (arith, c.if-i-scene.false)) in
    let call : IsCallFor net i here = c.requires.calls i here at in
    let cs = conditions_of c.call_conditions-seen.result in
    let is : cs ≡ conditions_in net x here.step i call.args here = c.call_conditions-seen.ensures call.args call.stands in
    let on : cs.pin 0 ≡ true = sym c.in_ok-tell_pin.ensures.value ∙ c.if-not-branch.false in
    let busy : (here.from == 0) ≡ false = sym c.was_idle.ensures ∙ c.if-was_idle.false in
    let before = PinIs here.step 0 (cs.pin 0) ∷ StateWas i here.from ∷ [] in
    c.in_ok-tell_guards.ensures.told
    ∙ ap (λ (l : List Fact). l ++ guards_are here.step cs (tried cs here.from (ways_of c.instance_kind-kind.result)))
    (c.in_ok-push.ensures.items
    ∙ ap (λ (l : List Fact). l ++ StateWas i here.from ∷ [])
    (c.in_ok-tell_pin.ensures.told ∙ ap (λ (l : List Fact). l ++ PinIs here.step 0 (cs.pin 0) ∷ []) c.new-facts.ensures.items))
    ∙ ap (λ (k : Kind). before ++ guards_are here.step cs (tried cs here.from (ways_of k))) c.instance_kind-kind.ensures
    ∙ state_guarded net x i here at call.args call.stands cs is on busy
