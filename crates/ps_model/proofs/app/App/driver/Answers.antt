use Rattle.std.proofs.Common.{◌≡◌, ◌-◌, length, take, Some, None, ap, sym, ◌∙◌, arith}
use Rattle.std.specs.Prelude.{position, slice_index}
use Rattle.std.proofs.lemmas.Grind.{common_steps}
use Rattle.ps_model.specs.declared.driver.Driver.TheVariants.{Output}
use Rattle.ps_model.specs.Named.{pin_types, pin_owners}
use Rattle.ps_model.specs.Network.{declared_count}
use Rattle.ps_model.specs.FirstSteps.{is_assignment_to, is_call}
use Rattle.ps_model.proofs.Owners.{count_outputs}
use Rattle.ps_model.proofs.Placing.{all_signals}
use Rattle.ps_model.proofs.DriversFound.{assigned_driver, no_driver, output_driver, is_called, found_small, owner_owns, owner_inside}
use Rattle.ps_model.proofs.app.App.driver.Goals as goal

pub overflow_cast-step : goal.overflow_cast-step
overflow_cast-step c =
    let net = c.args.self.now in
    let s = c.args.s in
    let k = c.in_ok-step.field-0 in
    let is : c.first_assigning.result ≡ Some k = grind (arith, common_steps) in
    let found : position (is_assignment_to s) net.steps ≡ Some k =
    sym (c.first_assigning.ensures ∙ ap (λ n. position (is_assignment_to s) n.steps) c.self.view_is) ∙ is in
    omega (arith, found_small net c.sound.ensures (is_assignment_to s) k found, c.sound.ensures.few_signals)

pub returns-then-s-declared : goal.returns-then-s-declared
returns-then-s-declared c =
    let net = c.args.self.now in
    let s = c.args.s in
    let k = c.in_ok-step.field-0 in
    let is : c.first_assigning.result ≡ Some k = grind (arith, common_steps) in
    let found : position (is_assignment_to s) net.steps ≡ Some k =
    sym (c.first_assigning.ensures ∙ ap (λ n. position (is_assignment_to s) n.steps) c.self.view_is) ∙ is in
    sym (assigned_driver net c.sound.ensures s k found)

pub owner-instance-requires : goal.owner-instance-requires
owner-instance-requires c =
    omega (arith, ap (λ net. length (pin_types net.instances)) c.self.view_is, all_signals c.args.self.now)

pub overflow_cast-instance : goal.overflow_cast-instance
overflow_cast-instance c =
    let net = c.args.self.now in
    let s = c.args.s in
    let i = c.owner-instance.result in
    let is : i ≡ slice_index (pin_owners net.instances) (s - declared_count net) =
    c.owner-instance.ensures ∙ ap (λ n. slice_index (pin_owners n.instances) (s - c.declared_count-declared.result)) c.self.view_is
    ∙ ap (λ d. slice_index (pin_owners net.instances) (s - d)) c.declared_count-declared.ensures in
    let owns = owner_owns net c.sound.ensures s i (omega arith) (omega arith) is in
    omega (arith, owner_inside net.instances (s - declared_count net) i owns, c.sound.ensures.few_instances)

pub outputs_before-requires : goal.outputs_before-requires
outputs_before-requires c =
    let net = c.args.self.now in
    let s = c.args.s in
    let i = c.owner-instance.result in
    let is : i ≡ slice_index (pin_owners net.instances) (s - declared_count net) =
    c.owner-instance.ensures ∙ ap (λ n. slice_index (pin_owners n.instances) (s - c.declared_count-declared.result)) c.self.view_is
    ∙ ap (λ d. slice_index (pin_owners net.instances) (s - d)) c.declared_count-declared.ensures in
    let owns = owner_owns net c.sound.ensures s i (omega arith) (omega arith) is in
    omega (arith, owner_inside net.instances (s - declared_count net) i owns, ap (λ n. length n.instances) c.self.view_is)

pub overflow_sub-output : goal.overflow_sub-output
overflow_sub-output c =
    let net = c.args.self.now in
    let s = c.args.s in
    let i = c.owner-instance.result in
    let is : i ≡ slice_index (pin_owners net.instances) (s - declared_count net) =
    c.owner-instance.ensures ∙ ap (λ n. slice_index (pin_owners n.instances) (s - c.declared_count-declared.result)) c.self.view_is
    ∙ ap (λ d. slice_index (pin_owners net.instances) (s - d)) c.declared_count-declared.ensures in
    let owns = owner_owns net c.sound.ensures s i (omega arith) (omega arith) is in
    let begins = owns.begins in
    let before : c.outputs_before.result ≡ count_outputs (take i net.instances) = c.outputs_before.ensures ∙ ap (λ n. count_outputs (take i n.instances)) c.self.view_is in
    omega arith

pub returns-in_err-step-2 : goal.returns-in_err-step-2
returns-in_err-step-2 c =
    let net = c.args.self.now in
    let s = c.args.s in
    let i = c.owner-instance.result in
    let is : i ≡ slice_index (pin_owners net.instances) (s - declared_count net) =
    c.owner-instance.ensures ∙ ap (λ n. slice_index (pin_owners n.instances) (s - c.declared_count-declared.result)) c.self.view_is
    ∙ ap (λ d. slice_index (pin_owners net.instances) (s - d)) c.declared_count-declared.ensures in
    let owns = owner_owns net c.sound.ensures s i (omega arith) (omega arith) is in
    let none : c.first_calling.result ≡ None = grind (arith, common_steps) in
    absurd (is_called net c.sound.ensures i (owner_inside net.instances (s - declared_count net) i owns)
    (sym (c.first_calling.ensures ∙ ap (λ n. position (is_call i) n.steps) c.self.view_is) ∙ none))

pub overflow_cast-step-2 : goal.overflow_cast-step-2
overflow_cast-step-2 c =
    let net = c.args.self.now in
    let i = c.owner-instance.result in
    let k = c.in_ok-step-2.field-0 in
    let found_is : c.first_calling.result ≡ Some k = grind (arith, common_steps) in
    let found : position (is_call i) net.steps ≡ Some k =
    sym (c.first_calling.ensures ∙ ap (λ n. position (is_call i) n.steps) c.self.view_is) ∙ found_is in
    omega (arith, found_small net c.sound.ensures (is_call i) k found, c.sound.ensures.few_signals)

pub returns : goal.returns
returns c =
    let net = c.args.self.now in
    let s = c.args.s in
    let i = c.owner-instance.result in
    let k = c.in_ok-step-2.field-0 in
    let is : i ≡ slice_index (pin_owners net.instances) (s - declared_count net) =
    c.owner-instance.ensures ∙ ap (λ n. slice_index (pin_owners n.instances) (s - c.declared_count-declared.result)) c.self.view_is
    ∙ ap (λ d. slice_index (pin_owners net.instances) (s - d)) c.declared_count-declared.ensures in
    let owns = owner_owns net c.sound.ensures s i (omega arith) (omega arith) is in
    let found_is : c.first_calling.result ≡ Some k = grind (arith, common_steps) in
    let found : position (is_call i) net.steps ≡ Some k =
    sym (c.first_calling.ensures ∙ ap (λ n. position (is_call i) n.steps) c.self.view_is) ∙ found_is in
    let before : c.outputs_before.result ≡ count_outputs (take i net.instances) = c.outputs_before.ensures ∙ ap (λ n. count_outputs (take i n.instances)) c.self.view_is in
    let output : s - c.declared_count-declared.result - c.outputs_before.result ≡ s - declared_count net - count_outputs (take i net.instances) = omega arith in
    ap (λ n. Some (Output i n k)) output ∙ sym (output_driver net c.sound.ensures s i k (omega arith) owns found)

pub returns-in_err-step : goal.returns-in_err-step
returns-in_err-step c =
    let net = c.args.self.now in
    let s = c.args.s in
    let none : c.first_assigning.result ≡ None = grind (arith, common_steps) in
    c.from_residual.ensures
    ∙ sym (no_driver net c.sound.ensures s (omega arith)
    (sym (c.first_assigning.ensures ∙ ap (λ n. position (is_assignment_to s) n.steps) c.self.view_is) ∙ none))
