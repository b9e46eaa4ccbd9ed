-- What a state of a kind is called.
use Rattle.std.specs.Prelude.{ℕ, ◌==◌, ◌&&◌, ◌||◌, Bool, List, nat_le, find, Option, option_map}
use Rattle.std.specs.List.{list_all}
use Rattle.ps_model.specs.declared.kind.Kind.{Kind}
use Rattle.ps_model.specs.declared.kind.Kind.TheVariants.{Equivalent, Antivalent, EmergencyStop, Espe, ModeSelector}
use Rattle.ps_model.specs.declared.kind.Kind.TheVariants.{TwoHandTwo, TwoHandThree, GuardMonitoring, GuardLocking}
use Rattle.ps_model.specs.declared.kind.Kind.TheVariants.{EnableSwitch, SafetyRequest, OutControl, Edm}
use Rattle.ps_ways.specs.Words.{Called, equivalent, stop, modes, two_hand_two, two_hand_three}
use Rattle.ps_ways.specs.Words.{guard_monitoring, guard_locking, enable_switch, safety_request, out_control, edm}

-- The states of a kind, Idle first. SF_Antivalent has those of SF_Equivalent, and SF_ESPE those of SF_EmergencyStop.
abbrev pub called_of : Kind → List Called
called_of Equivalent = equivalent
called_of Antivalent = equivalent
called_of EmergencyStop = stop
called_of Espe = stop
called_of ModeSelector = modes
called_of TwoHandTwo = two_hand_two
called_of TwoHandThree = two_hand_three
called_of GuardMonitoring = guard_monitoring
called_of GuardLocking = guard_locking
called_of EnableSwitch = enable_switch
called_of SafetyRequest = safety_request
called_of OutControl = out_control
called_of Edm = edm

-- the words of a code among states, if one of them has it
abbrev pub words_in : List Called → (code : ℕ) → Option (List ℕ)
words_in states code = option_map (λ (s : Called). s.1) (find (λ (s : Called). s.0 == code) states)

-- what a state of a kind is called
abbrev pub state_words : Kind → (code : ℕ) → Option (List ℕ)
state_words kind code = words_in (called_of kind) code

-- a letter, a digit, `_` or a blank
abbrev pub is_plain : ℕ → Bool
is_plain b =
    b == 32 || b == 95 || nat_le 48 b && nat_le b 57 || nat_le 65 b && nat_le b 90 || nat_le 97 b && nat_le b 122

-- bytes that stand in a line, in CSV, JSON and HTML as they are
abbrev pub are_plain : List ℕ → Bool
are_plain bytes = list_all is_plain bytes
