-- The states of SF_ModeSelector.
use Rattle.std.specs.Prelude.{ℕ, ◌+◌, ◌^◌}
use Rattle.ps_operator.specs.declared.mode_selector.Mode.{Mode}
use Rattle.ps_operator.specs.declared.mode_selector.Mode.TheVariants.{Mode0, Mode1, Mode2, Mode3, Mode4, Mode5, Mode6}
use Rattle.ps_operator.specs.declared.mode_selector.Mode.TheVariants.{Mode7}
use Rattle.ps_operator.specs.declared.mode_selector.Phase.{Phase}
use Rattle.ps_operator.specs.declared.mode_selector.Phase.TheVariants.{Idle, ModeChanged, Selected, Locked}
use Rattle.ps_operator.specs.declared.mode_selector.Phase.TheVariants.{ShortCircuit, OpenCircuit, ResetError1}
use Rattle.ps_operator.specs.declared.mode_selector.Phase.TheVariants.{ResetError2}
use Rattle.ps_operator.specs.declared.mode_selector.ModeSelectorState.{ModeSelectorState}
use Rattle.ps_model.specs.Kept.{Kept}

-- The number of each mode.
abbrev pub number_of : Mode → ℕ
number_of Mode0 = 0
number_of Mode1 = 1
number_of Mode2 = 2
number_of Mode3 = 3
number_of Mode4 = 4
number_of Mode5 = 5
number_of Mode6 = 6
number_of Mode7 = 7

-- The DiagCode of each state.
abbrev pub code_of : Phase → ℕ
code_of Idle = 0
code_of ModeChanged = 0x8005
code_of (Selected m) = 0x8000
code_of (Locked m) = 0x8004
code_of ShortCircuit = 0xC001
code_of OpenCircuit = 0xC002
code_of ResetError1 = 0xC003
code_of ResetError2 = 0xC004

-- The latched mode of each state, and 0 where none is latched.
abbrev pub mode_of : Phase → ℕ
mode_of (Selected m) = number_of m
mode_of (Locked m) = number_of m
mode_of Idle = 0
mode_of ModeChanged = 0
mode_of ShortCircuit = 0
mode_of OpenCircuit = 0
mode_of ResetError1 = 0
mode_of ResetError2 = 0

-- The safe outputs as bits: S_Mode m Sel of the latched mode m, and S_AnyModeSel.
abbrev pub bits_of : Phase → ℕ
bits_of (Selected m) = 2 ^ number_of m + 256
bits_of (Locked m) = 2 ^ number_of m + 256
bits_of Idle = 0
bits_of ModeChanged = 0
bits_of ShortCircuit = 0
bits_of OpenCircuit = 0
bits_of ResetError1 = 0
bits_of ResetError2 = 0

-- What a state keeps.
abbrev pub kept_of : ModeSelectorState → Kept
kept_of s = record { code = code_of s.phase; last_reset = s.last_reset; last_auxiliary = s.last_set_mode; mode = mode_of s.phase; timer = s.since }
