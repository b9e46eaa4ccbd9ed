-- Where in a text the notes on its application are told.
use Rattle.std.specs.Prelude.{ℕ, List, [], ◌∷◌, Option, Some, None, if◌then◌else◌, map, nat_lt, option_and_then}
use Rattle.std.specs.Prelude.{slice_get, unwrap_or}
use Rattle.std.specs.List.{flat_map}
use Rattle.ps_base.specs.LetterCase.{is_same_name}
use Rattle.ps_base.specs.declared.failing.Place.{Place}
use Rattle.ps_model.specs.Network.{Network, declared_count, first_pin, instance_count, kind_at, signal_name}
use Rattle.ps_model.specs.Pins.{pin_names}
use Rattle.ps_model.specs.declared.driver.Driver.{Driver}
use Rattle.ps_model.specs.declared.driver.Driver.TheVariants.{Assigned, Output}
use Rattle.ps_notes.specs.Notes.{driver_of, notes}
use Rattle.ps_notes.specs.declared.note.Note.{Note}
use Rattle.ps_notes.specs.declared.note.Note.TheVariants.{Idle, NoTime, Early, Unread, Unused, Restarts, Off, Zero}
use Rattle.ps_notes.specs.declared.note.Note.TheVariants.{Static, Joined, Never, Inverted, Loose}
use Rattle.ps_notes.specs.declared.note.Placed.{Placed}
use Rattle.ps_parser.specs.Places.{step_place}
use Rattle.ps_parser.specs.Tree.{SourceTree}
use Rattle.ps_parser.specs.declared.name.Name.{Name}
use Rattle.ps_parser.specs.declared.section.Declaration.{Declaration}
use Rattle.ps_parser.specs.declared.section.Section.{Section}

-- the step of a call, where a call drives a signal
abbrev pub calling_step : Option Driver → Option ℕ
calling_step (Some (Output i j k)) = Some k
calling_step (Some (Assigned k)) = None
calling_step None = None

-- the step that calls an instance: the one that drives its first output
abbrev pub call_of : Network → (instance : ℕ) → Option ℕ
call_of net i = if nat_lt i (instance_count net) then calling_step (driver_of net (first_pin net i)) else None

-- the place of the first of these names that is this word, without letter case
abbrev pub declared_at : (word : List ℕ) → List Name → Option Place
declared_at word [] = None
declared_at word (name ∷ names) = if is_same_name name.text word then Some name.place else declared_at word names

-- the names of declarations, in order
abbrev pub names_in : List Declaration → List Name
names_in declarations = flat_map (λ d. d.names) declarations

-- the names that sections declare, in order
abbrev pub names_of : List Section → List Name
names_of sections = flat_map (λ s. names_in s.declarations) sections

module _ (source : SourceTree) (net : Network) where
  -- the place of the call of an instance
  abbrev pub call_place : (instance : ℕ) → Option Place
  call_place i = option_and_then (λ step. step_place source step None) (call_of net i)

  -- the place of a pin of an instance, where its call names the pin
  abbrev pub pin_place : (instance pin : ℕ) → Option Place
  pin_place i j =
      option_and_then
      (λ step. option_and_then (λ name. step_place source step (Some name)) (slice_get (pin_names (kind_at net i)) j))
      (call_of net i)

  -- the place of the declaration of a signal
  abbrev pub signal_place : ℕ → Option Place
  signal_place s =
      if nat_lt s (declared_count net) then declared_at (signal_name net s) (names_of source.sections) else None

  -- The place of a note: the pin that it is about; the call, where the pin is left free or the note is about the block;
  -- the step that reads a signal too early; and the declaration of a signal that nothing reads.
  abbrev pub note_place : Note → Option Place
  note_place (Idle i) = call_place i
  note_place (NoTime i j) = call_place i
  note_place (Early s k) = step_place source k None
  note_place (Unread s) = signal_place s
  note_place (Unused i) = call_place i
  note_place (Restarts i j) = pin_place i j
  note_place (Off i) = pin_place i 0
  note_place (Zero i j) = pin_place i j
  note_place (Static i j) = pin_place i j
  note_place (Joined i j) = pin_place i j
  note_place (Never i) = call_place i
  note_place (Inverted i j) = pin_place i j
  note_place (Loose s) = signal_place s

  -- a note at its place; line 0 where the source has none
  abbrev pub placed : Note → Placed
  placed note = record { note = note; place = unwrap_or (note_place note) (record { line = 0; column = 0 }) }

  -- the notes of the application in their order, each at its place
  abbrev pub placed_notes : List Placed
  placed_notes = map placed (notes net)
