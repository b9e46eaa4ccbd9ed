use Rattle.std.proofs.Common.{◌≡◌, ◌∙◌, ◌++◌, [], List, ap, sym, arith, Some, slice_get}
use Rattle.std.specs.Prelude.{slice_index_or}
use Rattle.std.specs.Option.{option_map_or}
use Rattle.std.proofs.lemmas.Option.{slice_get-get_or}
use Rattle.ps_model.specs.Action.{calls}
use Rattle.ps_model.specs.Steps.{action}
use Rattle.ps_model.specs.Table.{Conditions}
use Rattle.ps_model.specs.declared.kind.Kind.{Kind}
use Rattle.ps_ways.specs.Stepping.{conditions_of}
use Rattle.ps_why.specs.Reasons.{ask_reasons, asked_by, call_at}
use Rattle.ps_why.specs.Scenes.{pins_in}
use Rattle.ps_why.specs.declared.asks.Call.{Call}
use Rattle.ps_why.specs.declared.fact.Fact.{Fact}
use Rattle.ps_why.proofs.Seeing.{no_call}
use Rattle.ps_why.proofs.asks.ask_facts.Goals as goal

pub conditions_at-seen-requires-clause-mode : goal.conditions_at-seen-requires-clause-mode
conditions_at-seen-requires-clause-mode c =
    let net = c.args.app.now in
    let x = c.args.scene.now in
    let k = c.args.k in
    let i = c.in-Call.instance in
    let args = c.in-Call.args in
    let stands : slice_get net.steps k ≡ Some (calls i args) = c.step.ensures ∙ ap (λ s. Some (action s)) c.in-Call.is in
    let inside = c.sound.ensures.instances k i args stands in
    let here = slice_index_or x.calls.now i no_call in
    let at : slice_get x.calls.now i ≡ Some here = slice_get-get_or x.calls.now i no_call (omega (arith, inside, c.requires.each)) in
    (c.requires.calls i here at).mode

pub returns-in_ok-tell_ask-in-Call : goal.returns-in_ok-tell_ask-in-Call
returns-in_ok-tell_ask-in-Call c =
    let net = c.args.app.now in
    let x = c.args.scene.now in
    let k = c.args.k in
    let a = c.args.ask in
    let i = c.in-Call.instance in
    let args = c.in-Call.args in
    let stands : slice_get net.steps k ≡ Some (calls i args) = c.step.ensures ∙ ap (λ s. Some (action s)) c.in-Call.is in
    let inside = c.sound.ensures.instances k i args stands in
    let here = slice_index_or x.calls.now i no_call in
    let at : slice_get x.calls.now i ≡ Some here = slice_get-get_or x.calls.now i no_call (omega (arith, inside, c.requires.each)) in
    let cs = conditions_of c.conditions_at-seen.result in
    let call_of = λ (kind : Kind). let call : Call = record { step = k; instance = i; kind = kind; last = here.last } in call in
    c.in_ok-tell_ask-in-Call.ensures
    ∙ ap (λ (l : List Fact). l ++ ask_reasons (call_of c.instance_kind.result) cs.pin a) c.new-facts.ensures.items
    ∙ ap (λ kind. ask_reasons (call_of kind) cs.pin a) c.instance_kind.ensures
    ∙ ap (λ (y : Conditions). ask_reasons (call_at net k i here) y.pin a) c.conditions_at-seen.ensures
    ∙ sym (ap (λ o. option_map_or (λ c. ask_reasons (call_at net k i c) (pins_in net x k i args) a) o []) at)
    ∙ sym (ap (asked_by net x k a) stands)
