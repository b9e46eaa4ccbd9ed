-- The first step of each number: of each signal the first that assigns it, and of each instance the first that calls
-- it.
use Rattle.std.specs.Prelude.{◌≡◌, ℕ, ◌<◌, Bool, false, ◌==◌, List, length, Option, None, Some, if◌then◌else◌, position}
use Rattle.std.specs.Prelude.{slice_index_or}
use Rattle.std.specs.Option.{option_or}
use Rattle.ps_model.specs.Action.{Action, assigns, calls}

-- whether a step assigns to a signal
abbrev pub is_assignment_to : ℕ → Action → Bool
is_assignment_to s (assigns t e) = t == s
is_assignment_to s (calls i args) = false

-- whether a step calls an instance
abbrev pub is_call : ℕ → Action → Bool
is_call i (assigns t e) = false
is_call i (calls j args) = j == i

-- the step that is noted for a number, none past the end
abbrev pub step_noted : List (Option ℕ) → ℕ → Option ℕ
step_noted slots n = slice_index_or slots n None

-- what is noted for a number after one more step at a place, which has the number or not
abbrev pub with_step : (has : Bool) (place : ℕ) → Option ℕ → Option ℕ
with_step has place first = if has then option_or first (Some place) else first

-- there is room to note a step
abbrev pub HasRoomFor : Action → (assigning calling : List (Option ℕ)) → Type 0
HasRoomFor (assigns t e) assigning calling = t < length assigning
HasRoomFor (calls i args) assigning calling = i < length calling

-- for each number is noted the first of the steps that has it
abbrev pub NotesFirst : (ℕ → Action → Bool) → List Action → List (Option ℕ) → Type 0
NotesFirst has steps slots = (n : ℕ) → step_noted slots n ≡ position (has n) steps
