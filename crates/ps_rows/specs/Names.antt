-- The named conditions of each kind, over which its rows are masks.
use Rattle.std.specs.Prelude.{ℕ, ◌+◌, ◌*◌, Bool, List, [], ◌∷◌, ◌++◌, ◌&&◌, ◌||◌, ◌==◌, not, map}
use Rattle.std.specs.List.{range_with_len}
use Rattle.ps_model.specs.declared.kind.Kind.{Kind}
use Rattle.ps_model.specs.declared.kind.Kind.TheVariants.{Equivalent, Antivalent, EmergencyStop, Espe, ModeSelector}
use Rattle.ps_model.specs.declared.kind.Kind.TheVariants.{TwoHandTwo, TwoHandThree, GuardMonitoring, GuardLocking}
use Rattle.ps_model.specs.declared.kind.Kind.TheVariants.{EnableSwitch, SafetyRequest, OutControl, Edm}
use Rattle.ps_model.specs.Blocks.{modes_on, exactly_on}
use Rattle.ps_model.specs.Kept.{Kept}
use Rattle.ps_model.specs.Stored.{bit}

-- Conditions as complemented bits, the first the lowest: a bit is 1 where its condition is FALSE.
abbrev pub complemented : List Bool → ℕ
complemented [] = 0
complemented (b ∷ bs) = bit (not b) + 2 * complemented bs

-- the first n Boolean pins in order
abbrev pub first_pins : ℕ → (ℕ → Bool) → List Bool
first_pins n pins = map pins (range_with_len 0 n)

-- The Boolean pins in order, then the last Reset and the last auxiliary input where the kind has them, then `elapsed`
-- where a guard reads it. SF_Antivalent has its third pin negated, and so the names of SF_Equivalent. SF_ModeSelector
-- names what its guards ask of the modes: Activate, no mode, one mode, exactly the latched one, S_Unlock, AutoSetMode
-- or a rise of S_SetMode, Reset, the last Reset, `elapsed`.
abbrev pub names : Kind → (ℕ → Bool) → Bool → Kept → List Bool
names Equivalent pins elapsed k = first_pins 3 pins ++ (elapsed ∷ [])
names Antivalent pins elapsed k = first_pins 2 pins ++ (not (pins 2) ∷ elapsed ∷ [])
names EmergencyStop pins elapsed k = first_pins 5 pins ++ (k.last_reset ∷ [])
names Espe pins elapsed k = first_pins 5 pins ++ (k.last_reset ∷ [])
names ModeSelector pins elapsed k =
    pins 0 ∷ (modes_on pins == 0) ∷ (modes_on pins == 1) ∷ exactly_on pins k.mode ∷ pins 9
    ∷ (pins 11 || pins 10 && not k.last_auxiliary) ∷ pins 12 ∷ k.last_reset ∷ elapsed ∷ []
names TwoHandTwo pins elapsed k = first_pins 3 pins
names TwoHandThree pins elapsed k = first_pins 3 pins ++ (elapsed ∷ [])
names GuardMonitoring pins elapsed k = first_pins 6 pins ++ (k.last_reset ∷ elapsed ∷ [])
names GuardLocking pins elapsed k = first_pins 8 pins ++ (k.last_reset ∷ [])
names EnableSwitch pins elapsed k = first_pins 6 pins ++ (k.last_reset ∷ [])
names SafetyRequest pins elapsed k = first_pins 4 pins ++ (k.last_reset ∷ elapsed ∷ [])
names OutControl pins elapsed k = first_pins 7 pins ++ (k.last_reset ∷ k.last_auxiliary ∷ [])
names Edm pins elapsed k = first_pins 6 pins ++ (k.last_reset ∷ elapsed ∷ [])
