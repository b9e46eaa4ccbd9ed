use Rattle.std.proofs.Common.{◌≡◌, ◌∙◌, ◌++◌, [], List, Some, ap, sym, arith, length, slice_get}
use Rattle.std.specs.Prelude.{slice_index_or, vec_len}
use Rattle.std.proofs.lemmas.Option.{slice_get-get_or}
use Rattle.ps_model.specs.declared.kind.Kind.{Kind}
use Rattle.ps_ways.specs.Stepping.{conditions_of}
use Rattle.ps_why.specs.Reasons.{lacked, or_else, shown}
use Rattle.ps_why.specs.Scenes.{IsCallFor, conditions_in}
use Rattle.ps_why.specs.declared.fact.Fact.{Fact}
use Rattle.ps_why.proofs.Listed.{else_these, else_those, no_output, not_nil, output_told, nil_is}
use Rattle.ps_why.proofs.Seeing.{no_call}
use Rattle.ps_why.proofs.signals.output_facts.Goals as goal

pub returns-then-i-scene : goal.returns-then-i-scene
returns-then-i-scene c =
    c.new-facts.ensures.items ∙ no_output c.args.app.now c.args.scene.now c.args.i (omega (arith, c.if-i-scene.true)) c.args.j c.args.value

pub returns-then-not-is_empty : goal.returns-then-not-is_empty
returns-then-not-is_empty c =
    let net = c.args.app.now in
    let x = c.args.scene.now in
    let i = c.args.i in
    let here = slice_index_or x.calls.now i no_call in
    let at : slice_get x.calls.now i ≡ Some here = slice_get-get_or x.calls.now i no_call (omega (arith, c.if-i-scene.false)) in
    let call : IsCallFor net i here = c.requires.calls i here at in
    let cs = conditions_of c.call_conditions-seen.result in
    let is : cs ≡ conditions_in net x here.step i call.args here = c.call_conditions-seen.ensures call.args call.stands in
    let lack = λ (k : Kind). lacked here.step cs.pin k c.args.j c.args.value in
    let told : c.tell_lack.new.facts.items ≡ lack c.instance_kind-kind.result =
    c.in_ok-tell_lack.ensures ∙ ap (λ (l : List Fact). l ++ lack c.instance_kind-kind.result) c.new-facts.ensures.items in
    let long : vec_len c.tell_lack.new.facts ≡ length c.tell_lack.new.facts.items = omega (arith, c.tell_lack.new.facts.ok.0) in
    told
    ∙ sym (else_these (lack c.instance_kind-kind.result) (shown c.instance_kind-kind.result i here)
    (not_nil c.tell_lack.new.facts.items (lack c.instance_kind-kind.result) told (vec_len c.tell_lack.new.facts) long c.if-not-is_empty.true c.is_empty.ensures))
    ∙ ap (λ (k : Kind). or_else (lack k) (shown k i here)) c.instance_kind-kind.ensures
    ∙ output_told net x i here at call.args call.stands cs is c.args.j c.args.value

pub returns : goal.returns
returns c =
    let net = c.args.app.now in
    let x = c.args.scene.now in
    let i = c.args.i in
    let here = slice_index_or x.calls.now i no_call in
    let at : slice_get x.calls.now i ≡ Some here = slice_get-get_or x.calls.now i no_call (omega (arith, c.if-i-scene.false)) in
    let call : IsCallFor net i here = c.requires.calls i here at in
    let cs = conditions_of c.call_conditions-seen.result in
    let is : cs ≡ conditions_in net x here.step i call.args here = c.call_conditions-seen.ensures call.args call.stands in
    let lack = λ (k : Kind). lacked here.step cs.pin k c.args.j c.args.value in
    let kind = c.instance_kind-kind.result in
    let told : c.tell_lack.new.facts.items ≡ lack kind = c.in_ok-tell_lack.ensures ∙ ap (λ (l : List Fact). l ++ lack kind) c.new-facts.ensures.items in
    let long : vec_len c.tell_lack.new.facts ≡ length c.tell_lack.new.facts.items = omega (arith, c.tell_lack.new.facts.ok.0) in
    let none : c.tell_lack.new.facts.items ≡ [] = nil_is c.tell_lack.new.facts.items (vec_len c.tell_lack.new.facts) long c.if-not-is_empty.false c.is_empty.ensures in
    c.in_ok-tell_state.ensures
    ∙ ap (λ (l : List Fact). l ++ shown kind i here) none
    ∙ sym (else_those (lack kind) (shown kind i here) (sym told ∙ none))
    ∙ ap (λ (k : Kind). or_else (lack k) (shown k i here)) c.instance_kind-kind.ensures
    ∙ output_told net x i here at call.args call.stands cs is c.args.j c.args.value
