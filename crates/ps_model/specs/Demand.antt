-- What each safe output of a block demands of the pins of its own step. Profile; each formula follows from the
-- transition tables.
use Rattle.std.specs.Prelude.{◌≡◌, ℕ, zero, suc, Bool, true, not, List, [], ◌∷◌}
use Rattle.std.specs.List.{list_all}
use Rattle.ps_model.specs.declared.kind.Kind.{Kind}
use Rattle.ps_model.specs.declared.kind.Kind.TheVariants.{Equivalent, Antivalent, EmergencyStop, Espe, ModeSelector}
use Rattle.ps_model.specs.declared.kind.Kind.TheVariants.{TwoHandTwo, TwoHandThree, GuardMonitoring, GuardLocking}
use Rattle.ps_model.specs.declared.kind.Kind.TheVariants.{EnableSwitch, SafetyRequest, OutControl, Edm}
use Rattle.ps_model.specs.declared.demands.Need.{Need}
use Rattle.ps_model.specs.declared.demands.Need.TheVariants.{On, Off}
use Rattle.ps_model.specs.Table.{Conditions}
use Rattle.ps_model.specs.Blocks.{next, safe_output}

-- The formula of safe output j of a kind, a conjunction of pins that are TRUE and pins that are FALSE; an empty one
-- always holds.
abbrev pub demand : Kind → ℕ → List Need
-- S_EquivalentOut: S_ChannelA and S_ChannelB
demand Equivalent j = On 1 ∷ On 2 ∷ []
-- S_AntivalentOut: S_ChannelNC and not S_ChannelNO
demand Antivalent j = On 1 ∷ Off 2 ∷ []
-- S_EStopOut and S_ESPE_Out: the sensor input
demand EmergencyStop j = On 1 ∷ []
demand Espe j = On 1 ∷ []
-- the outputs of SF_ModeSelector: always
demand ModeSelector j = []
-- S_TwoHandOut: S_Button1 and S_Button2
demand TwoHandTwo j = On 1 ∷ On 2 ∷ []
demand TwoHandThree j = On 1 ∷ On 2 ∷ []
-- S_GuardMonitoring: S_GuardSwitch1 and S_GuardSwitch2
demand GuardMonitoring j = On 1 ∷ On 2 ∷ []
-- S_GuardLocked: S_GuardMonitoring and S_GuardLock; S_UnlockGuard: S_SafetyActive
demand GuardLocking zero = On 1 ∷ On 3 ∷ []
demand GuardLocking (suc j) = On 2 ∷ []
-- S_EnableSwitchOut: S_SafetyActive and S_EnableSwitchCh1 and S_EnableSwitchCh2
demand EnableSwitch j = On 1 ∷ On 2 ∷ On 3 ∷ []
-- S_SafetyActive: S_Acknowledge and not S_OpMode; S_SafetyRequest: S_OpMode
demand SafetyRequest zero = On 2 ∷ Off 1 ∷ []
demand SafetyRequest (suc j) = On 1 ∷ []
-- S_OutControl: S_SafeControl and ProcessControl
demand OutControl j = On 1 ∷ On 2 ∷ []
-- S_EDM_Out: S_OutControl
demand Edm j = On 1 ∷ []

-- The formula holds of these pins.
abbrev pub is_met : (ℕ → Bool) → Need → Bool
is_met pins (On j) = pins j
is_met pins (Off j) = not (pins j)

-- Each of these pins is as it has to be.
abbrev pub are_met : (ℕ → Bool) → List Need → Bool
are_met pins needs = list_all (is_met pins) needs

-- A safe output is TRUE after a step only where its formula holds of the step's pins.
abbrev pub Demands : Kind → Type 0
Demands kind = (q m j : ℕ) (c : Conditions) → safe_output kind (next kind q c) m j ≡ true → are_met c.pin (demand kind j) ≡ true
