use Rattle.std.proofs.Common.{◌≡◌, ◌∙◌, ◌+◌, ◌*◌, ℕ, Bool, [], ◌∷◌, not, sym, ap, refl}
use Rattle.ps_model.specs.declared.kind.Kind.{Kind}
use Rattle.ps_model.specs.declared.kind.Kind.TheVariants.{Equivalent, Antivalent, EmergencyStop, Espe, TwoHandTwo, TwoHandThree, GuardMonitoring, GuardLocking, EnableSwitch, SafetyRequest, OutControl, Edm}
use Rattle.ps_model.specs.Stored.{bit}
use Rattle.ps_rows.specs.declared.view.BlockView.{BlockView}
use Rattle.ps_rows.specs.Names.{complemented}
use Rattle.ps_model.specs.PinBits.{pin_of}
use Rattle.ps_rows.specs.Viewed.{names_in}
use Rattle.ps_rows.proofs.view.conditions_in.Goals as goal

two : (a b : Bool) (m n : ℕ) → m ≡ bit (not b) + 2 * 0 → n ≡ bit (not a) + 2 * m → n ≡ complemented (a ∷ b ∷ [])
two a b m n inner outer = outer ∙ ap (λ x. bit (not a) + 2 * x) inner

of_kind : (kind kind' : Kind) (view : BlockView) (n : ℕ) → kind ≡ kind' → n ≡ complemented (names_in kind' view) → n ≡ complemented (names_in kind view)
of_kind kind kind' view n is h = h ∙ ap (λ k. complemented (names_in k view)) (sym is)

pub returns-in-Equivalent : goal.returns-in-Equivalent
returns-in-Equivalent c =
    of_kind c.args.kind Equivalent c.args.view.now c.behind_pins.result c.in-Equivalent.is (c.behind_pins.ensures (c.args.view.now.elapsed ∷ []) c.off.ensures.first)

pub returns-in-Antivalent : goal.returns-in-Antivalent
returns-in-Antivalent c =
    of_kind c.args.kind Antivalent c.args.view.now c.behind_pins-in-Antivalent.result c.in-Antivalent.is (c.behind_pins-in-Antivalent.ensures (not (pin_of c.args.view.now.bits 2) ∷ c.args.view.now.elapsed ∷ [])
    (two (not (pin_of c.args.view.now.bits 2)) c.args.view.now.elapsed c.off-in-Antivalent.result c.off-in-Antivalent-2.result c.off-in-Antivalent.ensures.first
    (c.off-in-Antivalent-2.ensures.first ∙ ap (λ b. bit (not (not b)) + 2 * c.off-in-Antivalent.result) c.pin.ensures)))

pub returns-in-EmergencyStop : goal.returns-in-EmergencyStop
returns-in-EmergencyStop c =
    of_kind c.args.kind EmergencyStop c.args.view.now c.behind_pins-in-EmergencyStop.result c.in-EmergencyStop.is (c.behind_pins-in-EmergencyStop.ensures (c.args.view.now.last_reset ∷ []) c.off-in-EmergencyStop.ensures.first)

pub returns-in-Espe : goal.returns-in-Espe
returns-in-Espe c =
    of_kind c.args.kind Espe c.args.view.now c.behind_pins-in-Espe.result c.in-Espe.is (c.behind_pins-in-Espe.ensures (c.args.view.now.last_reset ∷ []) c.off-in-Espe.ensures.first)

pub returns-in-TwoHandTwo : goal.returns-in-TwoHandTwo
returns-in-TwoHandTwo c =
    of_kind c.args.kind TwoHandTwo c.args.view.now c.behind_pins-in-TwoHandTwo.result c.in-TwoHandTwo.is (c.behind_pins-in-TwoHandTwo.ensures [] refl)

pub returns-in-TwoHandThree : goal.returns-in-TwoHandThree
returns-in-TwoHandThree c =
    of_kind c.args.kind TwoHandThree c.args.view.now c.behind_pins-in-TwoHandThree.result c.in-TwoHandThree.is (c.behind_pins-in-TwoHandThree.ensures (c.args.view.now.elapsed ∷ []) c.off-in-TwoHandThree.ensures.first)

pub returns-in-GuardMonitoring : goal.returns-in-GuardMonitoring
returns-in-GuardMonitoring c =
    of_kind c.args.kind GuardMonitoring c.args.view.now c.behind_pins-in-GuardMonitoring.result c.in-GuardMonitoring.is (c.behind_pins-in-GuardMonitoring.ensures (c.args.view.now.last_reset ∷ c.args.view.now.elapsed ∷ [])
    (two c.args.view.now.last_reset c.args.view.now.elapsed c.off-in-GuardMonitoring.result c.off-in-GuardMonitoring-2.result c.off-in-GuardMonitoring.ensures.first c.off-in-GuardMonitoring-2.ensures.first))

pub returns-in-GuardLocking : goal.returns-in-GuardLocking
returns-in-GuardLocking c =
    of_kind c.args.kind GuardLocking c.args.view.now c.behind_pins-in-GuardLocking.result c.in-GuardLocking.is (c.behind_pins-in-GuardLocking.ensures (c.args.view.now.last_reset ∷ []) c.off-in-GuardLocking.ensures.first)

pub returns-in-EnableSwitch : goal.returns-in-EnableSwitch
returns-in-EnableSwitch c =
    of_kind c.args.kind EnableSwitch c.args.view.now c.behind_pins-in-EnableSwitch.result c.in-EnableSwitch.is (c.behind_pins-in-EnableSwitch.ensures (c.args.view.now.last_reset ∷ []) c.off-in-EnableSwitch.ensures.first)

pub returns-in-SafetyRequest : goal.returns-in-SafetyRequest
returns-in-SafetyRequest c =
    of_kind c.args.kind SafetyRequest c.args.view.now c.behind_pins-in-SafetyRequest.result c.in-SafetyRequest.is (c.behind_pins-in-SafetyRequest.ensures (c.args.view.now.last_reset ∷ c.args.view.now.elapsed ∷ [])
    (two c.args.view.now.last_reset c.args.view.now.elapsed c.off-in-SafetyRequest.result c.off-in-SafetyRequest-2.result c.off-in-SafetyRequest.ensures.first c.off-in-SafetyRequest-2.ensures.first))

pub returns-in-OutControl : goal.returns-in-OutControl
returns-in-OutControl c =
    of_kind c.args.kind OutControl c.args.view.now c.behind_pins-in-OutControl.result c.in-OutControl.is (c.behind_pins-in-OutControl.ensures (c.args.view.now.last_reset ∷ c.args.view.now.last_aux ∷ [])
    (two c.args.view.now.last_reset c.args.view.now.last_aux c.off-in-OutControl.result c.off-in-OutControl-2.result c.off-in-OutControl.ensures.first c.off-in-OutControl-2.ensures.first))

pub returns-in-Edm : goal.returns-in-Edm
returns-in-Edm c =
    of_kind c.args.kind Edm c.args.view.now c.behind_pins-in-Edm.result c.in-Edm.is (c.behind_pins-in-Edm.ensures (c.args.view.now.last_reset ∷ c.args.view.now.elapsed ∷ [])
    (two c.args.view.now.last_reset c.args.view.now.elapsed c.off-in-Edm.result c.off-in-Edm-2.result c.off-in-Edm.ensures.first c.off-in-Edm-2.ensures.first))
