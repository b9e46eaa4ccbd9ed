-- The notes of an application: where it is accepted, and most likely not meant so. Profile.
use Rattle.std.specs.Prelude.{ℕ, ◌+◌, Bool, true, false, not, ◌&&◌, ◌||◌, ◌==◌, nat_lt, List, [], ◌∷◌, ◌++◌, codes}
use Rattle.std.specs.Prelude.{length, Option, Some, None, position, slice_index_or, if◌then◌else◌}
use Rattle.std.specs.List.{flat_map, list_any, range_with_len}
use Rattle.std.specs.Option.{is_some}
use Rattle.std.specs.Str.{bytes_eq}
use Rattle.ps_model.specs.declared.driver.Driver.{Driver}
use Rattle.ps_model.specs.declared.driver.Driver.TheVariants.{Assigned, Output}
use Rattle.ps_model.specs.declared.kind.Kind.{Kind}
use Rattle.ps_model.specs.declared.kind.Kind.TheVariants.{Equivalent, Antivalent, EmergencyStop, Espe, TwoHandTwo}
use Rattle.ps_model.specs.declared.kind.Kind.TheVariants.{TwoHandThree, GuardMonitoring, GuardLocking, EnableSwitch}
use Rattle.ps_model.specs.declared.kind.Kind.TheVariants.{SafetyRequest, OutControl, Edm}
use Rattle.ps_model.specs.declared.kind.Ty.{Ty}
use Rattle.ps_model.specs.declared.kind.Ty.TheVariants.{Time}
use Rattle.ps_model.specs.Action.{Actual, Action, free, literal, time, wired, assigns, calls}
use Rattle.ps_model.specs.Blocks.{output_count}
use Rattle.ps_model.specs.Drivers.{driver}
use Rattle.ps_model.specs.Formula.{signal}
use Rattle.ps_model.specs.Network.{Network, input_count, declared_count, signal_count, kind_at, first_pin, drives}
use Rattle.ps_model.specs.Pins.{pin_names}
use Rattle.ps_model.specs.Scanning.{pin_at}
use Rattle.ps_model.specs.Values.{reads, values_of_step}
use Rattle.ps_notes.specs.declared.note.Note.{Note}
use Rattle.ps_notes.specs.declared.note.Note.TheVariants.{Idle, NoTime, Early, Unread, Unused, Restarts, Off, Zero}
use Rattle.ps_notes.specs.declared.note.Note.TheVariants.{Static, Joined, Never, Inverted, Loose}

-- ---- Who reads a signal.

-- whether a step reads a signal that it does not drive itself: a value of the step names the signal
abbrev pub is_reader : Network → ℕ → Action → Bool
is_reader net s step = list_any (reads s) (values_of_step step) && not (drives net s step)

-- the first step that reads a signal, the one that drives it left out
abbrev pub first_reader : Network → ℕ → Option ℕ
first_reader net s = position (is_reader net s) net.steps

-- whether there is such a step
abbrev pub has_reader : Network → ℕ → Bool
has_reader net s = is_some (first_reader net s)

-- ---- What is noted of an instance and its call.

-- a TIME pin
abbrev pub is_time : Ty → Bool
is_time Time = true
is_time _ = false

-- a pin that lets a block start or restart without a Reset
abbrev pub is_restart : (name : List ℕ) → Bool
is_restart name = bytes_eq name (codes "S_StartReset") || bytes_eq name (codes "S_AutoReset")

-- the pin that acknowledges
abbrev pub is_reset : (name : List ℕ) → Bool
is_reset name = bytes_eq name (codes "Reset")

-- a kind that hands on a release which another block gave
abbrev pub is_relay : Kind → Bool
is_relay OutControl = true
is_relay Edm = true
is_relay _ = false

-- Of TRUE at pin j of an instance: Reset never rises; or the block restarts by itself, which of a relay is not noted
-- where a block before it asks for a reset.
abbrev pub of_true : Kind → (instance j : ℕ) → (asked : Bool) → (name : List ℕ) → Option Note
of_true kind i j asked name =
    if is_reset name then Some (Static i j)
    else if is_restart name && not (asked && is_relay kind) then Some (Restarts i j) else None

-- Of what stands at pin j of an instance: nothing or FALSE at Activate, which is pin 0 of every kind; nothing or 0 ms
-- at a TIME pin; TRUE at Reset, or at a pin that lets the block restart.
abbrev pub of_pin : Kind → (instance j : ℕ) → (asked : Bool) → Actual → Option Note
of_pin kind i j asked free =
    if j == 0 then Some (Idle i) else if is_time (pin_at kind j).ty then Some (NoTime i j) else None
of_pin kind i j asked (literal b) =
    if b then of_true kind i j asked (slice_index_or (pin_names kind) j []) else if j == 0 then Some (Off i) else None
of_pin kind i j asked (time t) = if t == 0 then Some (Zero i j) else None
of_pin kind i j asked (wired e) = None

-- ---- What is noted of a call by several of its pins.

-- what stands at a pin of a call
abbrev pub at_pin : List Actual → ℕ → Actual
at_pin args p = slice_index_or args p free

-- the signal that stands alone at a pin
abbrev pub alone : Actual → Option ℕ
alone (wired (signal s)) = Some s
alone _ = None

-- one signal, twice
abbrev pub are_same : Option ℕ → Option ℕ → Bool
are_same (Some s) (Some t) = s == t
are_same _ _ = false

-- one signal at both
abbrev pub are_joined : Actual → Actual → Bool
are_joined a b = are_same (alone a) (alone b)

-- of the pins of two channels, the first of which is pin p: one signal stands at both
abbrev pub of_both : (instance p : ℕ) → Actual → Actual → Option Note
of_both i p a b = if are_joined a b then Some (Joined i p) else None

-- Both channels of a block of two channels have one signal. The two feedbacks of SF_EDM are no such channels: they may
-- be joined.
abbrev pub of_channels : Kind → (instance : ℕ) → List Actual → Option Note
of_channels Equivalent i args = of_both i 1 (at_pin args 1) (at_pin args 2)
of_channels Antivalent i args = of_both i 1 (at_pin args 1) (at_pin args 2)
of_channels TwoHandTwo i args = of_both i 1 (at_pin args 1) (at_pin args 2)
of_channels TwoHandThree i args = of_both i 1 (at_pin args 1) (at_pin args 2)
of_channels GuardMonitoring i args = of_both i 1 (at_pin args 1) (at_pin args 2)
of_channels EnableSwitch i args = of_both i 2 (at_pin args 2) (at_pin args 3)
of_channels _ i args = None

-- nothing or FALSE
abbrev pub is_off : Actual → Bool
is_off free = true
is_off (literal b) = not b
is_off _ = false

-- A block is never enabled: S_StartReset and Reset are off, and so is S_AutoReset of a kind that it lets pass at the
-- start.
abbrev pub is_stuck : Kind → List Actual → Bool
is_stuck EmergencyStop args = is_off (at_pin args 2) && is_off (at_pin args 4)
is_stuck Espe args = is_off (at_pin args 2) && is_off (at_pin args 4)
is_stuck GuardMonitoring args = is_off (at_pin args 3) && (is_off (at_pin args 4) && is_off (at_pin args 5))
is_stuck GuardLocking args = is_off (at_pin args 5) && (is_off (at_pin args 6) && is_off (at_pin args 7))
is_stuck OutControl args = is_off (at_pin args 4) && (is_off (at_pin args 5) && is_off (at_pin args 6))
is_stuck Edm args = is_off (at_pin args 4) && is_off (at_pin args 5)
is_stuck _ args = false

-- of a call: the block is never enabled
abbrev pub of_enabling : Kind → (instance : ℕ) → List Actual → Option Note
of_enabling kind i args = if is_stuck kind args then Some (Never i) else None

-- A call asks for a reset: a block that watches, with nothing or FALSE at S_StartReset and at S_AutoReset.
abbrev pub asks_by : Kind → List Actual → Bool
asks_by EmergencyStop args = is_off (at_pin args 2) && is_off (at_pin args 3)
asks_by Espe args = is_off (at_pin args 2) && is_off (at_pin args 3)
asks_by GuardMonitoring args = is_off (at_pin args 3) && is_off (at_pin args 4)
asks_by GuardLocking args = is_off (at_pin args 5) && is_off (at_pin args 6)
asks_by _ args = false

-- whether a step asks for a reset
abbrev pub asks : Network → Action → Bool
asks net (assigns t e) = false
asks net (calls i args) = asks_by (kind_at net i) args

-- of an instance: no output of it is read, but by its own call
abbrev pub of_instance : Network → ℕ → Option Note
of_instance net i =
    if list_any (has_reader net) (range_with_len (first_pin net i) (output_count (kind_at net i))) then None else Some (Unused i)

-- ---- What is noted of a signal.

-- the number of the step that drives a signal
abbrev pub step_of : Driver → ℕ
step_of (Assigned k) = k
step_of (Output i j k) = k

-- whether a driver comes before another one
abbrev pub is_earlier : Option Driver → Option Driver → Bool
is_earlier (Some d) (Some e) = nat_lt (step_of d) (step_of e)
is_earlier _ _ = false

-- what drives a signal, and nothing for a number that is no signal
abbrev pub driver_of : Network → ℕ → Option Driver
driver_of net s = if nat_lt s (signal_count net) then driver net s else None

-- whether a signal is no input, and is driven before the call of an instance, which drives the instance's outputs
abbrev pub is_made : Network → (instance : ℕ) → ℕ → Bool
is_made net i s =
    if nat_lt s (input_count net) then false else is_earlier (driver_of net s) (driver_of net (first_pin net i))

-- Whether a "not" of what stands at a pin of an instance is left out of demands: a signal that an earlier step makes,
-- or an AND or OR.
abbrev pub is_lost : Network → (instance : ℕ) → Actual → Bool
is_lost net i (wired (signal s)) = is_made net i s
is_lost net i (wired _) = true
is_lost net i _ = false

-- of the pins that stand under a "not" in demands
abbrev pub of_inverted : Network → Kind → (instance : ℕ) → List Actual → Option Note
of_inverted net Antivalent i args = if is_lost net i (at_pin args 2) then Some (Inverted i 2) else None
of_inverted net SafetyRequest i args = if is_lost net i (at_pin args 1) then Some (Inverted i 1) else None
of_inverted net _ i args = None

-- of an input, by the first step that reads it: there is none
abbrev pub of_input : ℕ → (reader : Option ℕ) → Option Note
of_input s None = Some (Unread s)
of_input s (Some k) = None

-- Of any other signal, by whether it is a local, the first step that reads it and its driver: a local that no step
-- reads; and one that is read by a step before the one that drives it.
abbrev pub of_driven : (is_local : Bool) → ℕ → (reader : Option ℕ) → Option Driver → Option Note
of_driven is_local s None d = if is_local then Some (Loose s) else None
of_driven is_local s (Some k) (Some d) = if nat_lt k (step_of d) then Some (Early s k) else None
of_driven is_local s (Some k) None = None

-- whether a signal is a local
abbrev pub is_local : Network → ℕ → Bool
is_local net s = not (nat_lt s (input_count net + length net.outputs)) && nat_lt s (declared_count net)

-- of a signal
abbrev pub of_signal : Network → ℕ → Option Note
of_signal net s =
    if nat_lt s (input_count net) then of_input s (first_reader net s)
    else of_driven (is_local net s) s (first_reader net s) (driver net s)

-- ---- All notes.

-- a note, if there is one, as a list
abbrev pub listed : Option Note → List Note
listed None = []
listed (Some note) = note ∷ []

-- of what stands at the pins of an instance from pin j on
abbrev pub of_pins : Kind → (instance j : ℕ) → (asked : Bool) → List Actual → List Note
of_pins kind i j asked [] = []
of_pins kind i j asked (a ∷ args) = listed (of_pin kind i j asked a) ++ of_pins kind i (j + 1) asked args

-- of a call: of its pins in their order, of several of them, and then of the instance
abbrev pub of_call : Network → Kind → (instance : ℕ) → (asked : Bool) → List Actual → List Note
of_call net kind i asked args =
    of_pins kind i 0 asked args ++ listed (of_channels kind i args) ++ listed (of_enabling kind i args)
    ++ listed (of_inverted net kind i args) ++ listed (of_instance net i)

-- of a step, where a block before it asked for a reset or none did
abbrev pub of_step : Network → (asked : Bool) → Action → List Note
of_step net asked (assigns t e) = []
of_step net asked (calls i args) = of_call net (kind_at net i) i asked args

-- of steps, one after the other
abbrev pub of_steps : Network → (asked : Bool) → List Action → List Note
of_steps net asked [] = []
of_steps net asked (step ∷ steps) = of_step net asked step ++ of_steps net (asked || asks net step) steps

-- the notes of an application: of its calls in the order of the text, and then of its signals in the order of their
-- numbers
abbrev pub notes : Network → List Note
notes net =
    of_steps net false net.steps ++ flat_map (λ s. listed (of_signal net s)) (range_with_len 0 (signal_count net))
