use Rattle.std.proofs.Common.{◌≡◌, ◌∙◌, ap, subst, sym, Some, slice_get, length}
use Rattle.ps_model.specs.Action.{calls}
use Rattle.ps_model.specs.Blocks.{block}
use Rattle.ps_model.specs.Kept.{counted_down}
use Rattle.ps_model.specs.Network.{kind_at}
use Rattle.ps_model.specs.PinBits.{pin_of}
use Rattle.ps_model.specs.Scanning.{limit_of, pins_under}
use Rattle.ps_model.specs.Steps.{action}
use Rattle.ps_model.specs.declared.kind.Kind.{Kind}
use Rattle.ps_machine.specs.Reading.{read_in}
use Rattle.ps_machine.proofs.Steps.{stands_at}
use Rattle.ps_rows.specs.Counted.{kept_of}
use Rattle.ps_why.specs.Keeping.{StepsSo}
use Rattle.ps_why.specs.Scenes.{IsCallFor}
use Rattle.ps_why.specs.declared.keeping.Stepped.{Stepped}
use Rattle.ps_why.proofs.Blocks.{small_mode, steps_so}
use Rattle.ps_why.proofs.So.{one_call}
use Rattle.ps_why.proofs.keeping.step_instance.Goals as goal

pub returns-in-Call-clause-call : goal.returns-in-Call-clause-call
returns-in-Call-clause-call c =
    let net = c.args.app.now in
    let i = c.args.i in
    let k = c.call_step-k.result in
    let args = c.in-Call.args in
    let found = stands_at net c.sound.ensures i k c.call_step-k.ensures.calls in
    let there : slice_get net.steps k ≡ Some (calls c.in-Call.instance args) = c.step.ensures ∙ ap (λ s. Some (action s)) c.in-Call.is in
    let stands : slice_get net.steps k ≡ Some (calls i args) =
    subst (λ n. slice_get net.steps k ≡ Some (calls n args)) (one_call net (λ i args. i) 0 k i c.in-Call.instance found.0 args found.1 there) there in
    subst (λ (s : Stepped). IsCallFor net i s.call) (sym c.shown_step.ensures) (record { args = args; stands = stands; mode = small_mode (kind_at net i) (kept_of c.args.block) c.requires.kept })

pub returns-in-Call-clause-so : goal.returns-in-Call-clause-so
returns-in-Call-clause-so c =
    let net = c.args.app.now in
    let i = c.args.i in
    let k = c.call_step-k.result in
    let args = c.in-Call.args in
    let found = stands_at net c.sound.ensures i k c.call_step-k.ensures.calls in
    let there : slice_get net.steps k ≡ Some (calls c.in-Call.instance args) = c.step.ensures ∙ ap (λ s. Some (action s)) c.in-Call.is in
    let stands : slice_get net.steps k ≡ Some (calls i args) =
    subst (λ n. slice_get net.steps k ≡ Some (calls n args)) (one_call net (λ i args. i) 0 k i c.in-Call.instance found.0 args found.1 there) there in
    let x = c.args.signals.now in
    let kind = c.instance_kind-kind.result in
    let bits = c.read_pins-bits.result in
    let after = c.stepped-after.result in
    subst (StepsSo net i c.args.block c.args.passed x) (sym c.shown_step.ensures)
    (steps_so net i k bits c.args.passed args c.args.block after x stands
    (λ j. c.read_pins-bits.ensures j ∙ ap (λ (kind : Kind). pins_under (read_in net x k) kind args j) c.instance_kind-kind.ensures)
    (c.stepped-after.ensures.counted
    ∙ ap (λ limit. counted_down kind limit (pin_of bits) c.args.passed (kept_of c.args.block)) c.call_limit.ensures
    ∙ ap (λ (kind : Kind). counted_down kind (limit_of kind args) (pin_of bits) c.args.passed (kept_of c.args.block)) c.instance_kind-kind.ensures))

pub read_pins-bits-requires : goal.read_pins-bits-requires
read_pins-bits-requires c =
    let net = c.args.app.now in
    let i = c.args.i in
    let k = c.call_step-k.result in
    let args = c.in-Call.args in
    let found = stands_at net c.sound.ensures i k c.call_step-k.ensures.calls in
    let there : slice_get net.steps k ≡ Some (calls c.in-Call.instance args) = c.step.ensures ∙ ap (λ s. Some (action s)) c.in-Call.is in
    let stands : slice_get net.steps k ≡ Some (calls i args) =
    subst (λ n. slice_get net.steps k ≡ Some (calls n args)) (one_call net (λ i args. i) 0 k i c.in-Call.instance found.0 args found.1 there) there in
    c.sound.ensures.arguments k i args stands ∙ ap (λ (kind : Kind). length (block kind).inputs) (sym c.instance_kind-kind.ensures)

pub call_limit-requires : goal.call_limit-requires
call_limit-requires c =
    let net = c.args.app.now in
    let i = c.args.i in
    let k = c.call_step-k.result in
    let args = c.in-Call.args in
    let found = stands_at net c.sound.ensures i k c.call_step-k.ensures.calls in
    let there : slice_get net.steps k ≡ Some (calls c.in-Call.instance args) = c.step.ensures ∙ ap (λ s. Some (action s)) c.in-Call.is in
    let stands : slice_get net.steps k ≡ Some (calls i args) =
    subst (λ n. slice_get net.steps k ≡ Some (calls n args)) (one_call net (λ i args. i) 0 k i c.in-Call.instance found.0 args found.1 there) there in
    c.sound.ensures.arguments k i args stands ∙ ap (λ (kind : Kind). length (block kind).inputs) (sym c.instance_kind-kind.ensures)

pub returns-in-Assign-clause-call : goal.returns-in-Assign-clause-call
returns-in-Assign-clause-call c =
    let net = c.args.app.now in
    let found = stands_at net c.sound.ensures c.args.i c.call_step-k.result c.call_step-k.ensures.calls in
    let there = c.step.ensures ∙ ap (λ s. Some (action s)) c.in-Assign.is in
    absurd (let clash = sym found.1 ∙ there in cc)
