-- How long the line of a note is, and how it ends.
use Rattle.std.proofs.Common.{◌≡◌, ℕ, zero, suc, ◌+◌, ◌<◌, ◌≤◌, ◌^◌, ◌==◌, Bool, true, false, nat_le, nat_lt, ◌&&◌, if◌then◌else◌, List, [], ◌∷◌, ◌++◌, length, codes, decimal, Option, Some, None, refl, ap, sym, ◌∙◌, arith, length-append, lit≤, append_assoc}
use Rattle.std.specs.Prelude.{slice_get, slice_index_or}
use Rattle.std.specs.List.{list_all}
use Rattle.std.proofs.lemmas.Bool.{leb-true, and_parts}
use Rattle.ps_base.specs.declared.failing.Place.{Place}
use Rattle.ps_model.specs.declared.driver.Driver.{Driver}
use Rattle.ps_model.specs.declared.driver.Driver.TheVariants.{Assigned, Output}
use Rattle.ps_model.specs.declared.kind.Kind.{Kind}
use Rattle.ps_model.specs.declared.kind.Kind.TheVariants.{Equivalent, Antivalent, EmergencyStop, Espe, ModeSelector, TwoHandTwo, TwoHandThree, GuardMonitoring, GuardLocking, EnableSwitch, SafetyRequest, OutControl, Edm}
use Rattle.ps_model.specs.Action.{Action, assigns, calls}
use Rattle.ps_model.specs.Blocks.{block}
use Rattle.ps_model.specs.Drivers.{driver}
use Rattle.ps_model.specs.Network.{Network, declared_count, instance_count, instance_name, kind_at, signal_count, signal_name}
use Rattle.ps_model.specs.Pins.{pin_count, pin_names}
use Rattle.ps_notes.specs.declared.note.Note.{Note}
use Rattle.ps_notes.specs.declared.note.Note.TheVariants.{Idle, NoTime, Early, Unread, Unused, Restarts, Off, Zero, Static, Joined, Never, Inverted, Loose}
use Rattle.ps_notes.specs.declared.note.Placed.{Placed}
use Rattle.ps_text.specs.Lines.{IsEnded}
use Rattle.ps_message.specs.NoteLine.{instance_shown, pin_named, pin_shown, output_shown, signal_shown, step_shown, subject, said, note_text}
use Rattle.ps_text.specs.Lines.{place_shown}
use Rattle.ps_text.specs.Shown.{last_shown}
use Rattle.ps_text.proofs.Lengths.{length-column, length-last_shown, length-number}

-- no name of a pin is long
is_short_name : List ℕ → Bool
is_short_name name = nat_le (length name) 32

short_names : (kind : Kind) → list_all is_short_name (pin_names kind) ≡ true
unfolding block is_short_name
short_names Equivalent = refl
short_names Antivalent = refl
short_names EmergencyStop = refl
short_names Espe = refl
short_names ModeSelector = refl
short_names TwoHandTwo = refl
short_names TwoHandThree = refl
short_names GuardMonitoring = refl
short_names GuardLocking = refl
short_names EnableSwitch = refl
short_names SafetyRequest = refl
short_names OutControl = refl
short_names Edm = refl

short_at : (names : List (List ℕ)) (j : ℕ) → list_all is_short_name names ≡ true → length (slice_index_or names j []) ≤ 32
unfolding is_short_name
short_at [] j all = lit≤ tt
short_at (name ∷ names) zero all = leb-true (length name) 32 (and_parts (is_short_name name) (list_all is_short_name names) all).0
short_at (name ∷ names) (suc j) all = short_at names j (and_parts (is_short_name name) (list_all is_short_name names) all).1

module _ (net : Network) where
  length-instance : (i : ℕ) → length (instance_shown net i) ≤ 1023
  length-instance i = length-last_shown 255 (instance_name net i)

  pin-size : (name pin : List ℕ) → length name ≤ 1023 → length pin ≤ 32 → length (name ++ codes "." ++ pin) ≤ 1056
  pin-size name pin n p = simp length-append (omega arith)

  -- where a text is wanted only in one case
  one_case : (b : Bool) (text : List ℕ) (most : ℕ) → length text ≤ most → length (if b then text else []) ≤ most
  one_case true text most few = few
  one_case false text most few = omega arith

  length-pin : (i j : ℕ) → length (pin_shown net i j) ≤ 1056
  length-pin i j =
      let name : List ℕ = slice_index_or (pin_names (kind_at net i)) j [] in
      one_case (nat_lt i (instance_count net) && nat_lt j (pin_count (kind_at net i))) (pin_named net i name) 1056
      (pin-size (instance_shown net i) name (length-instance i) (short_at (pin_names (kind_at net i)) j (short_names (kind_at net i))))

  length-output : (d : Option Driver) → length (output_shown net d) ≤ 1056
  length-output None = lit≤ tt
  length-output (Some (Assigned k)) = lit≤ tt
  length-output (Some (Output i j k)) = length-pin i (length (block (kind_at net i)).inputs + j)

  two_cases : (b : Bool) (text other : List ℕ) → length text ≤ 1056 → length other ≤ 1056 → length (if b then text else other) ≤ 1056
  two_cases true text other t o = t
  two_cases false text other t o = o

  length-signal : (s : ℕ) → length (signal_shown net s) ≤ 1056
  length-signal s =
      let name : length (last_shown 255 (signal_name net s)) ≤ 1056 = omega (arith, length-last_shown 255 (signal_name net s)) in
      two_cases (nat_lt s (declared_count net)) (last_shown 255 (signal_name net s)) (if nat_lt s (signal_count net) then output_shown net (driver net s) else [])
      name (one_case (nat_lt s (signal_count net)) (output_shown net (driver net s)) 1056 (length-output (driver net s)))

  length-step : (a : Option Action) → length (step_shown net a) ≤ 1080
  length-step None = lit≤ tt
  length-step (Some (assigns t e)) = omega (arith, length-append (codes "the assignment to ") (signal_shown net t), length-signal t)
  length-step (Some (calls i args)) = omega (arith, length-append (codes "the call of ") (instance_shown net i), length-instance i)

  early-size : (signal step : List ℕ) → length signal ≤ 1056 → length step ≤ 1080 → length (signal ++ codes " is read in " ++ step) ≤ 2200
  early-size signal step s t = simp length-append (omega arith)

  length-subject : (note : Note) → length (subject net note) ≤ 2200
  length-subject (Idle i) = omega (arith, length-pin i 0)
  length-subject (NoTime i j) = omega (arith, length-pin i j)
  length-subject (Early s k) = early-size (signal_shown net s) (step_shown net (slice_get net.steps k)) (length-signal s) (length-step (slice_get net.steps k))
  length-subject (Unread s) = omega (arith, length-signal s)
  length-subject (Unused i) = omega (arith, length-instance i)
  length-subject (Restarts i j) = omega (arith, length-pin i j)
  length-subject (Off i) = omega (arith, length-pin i 0)
  length-subject (Zero i j) = omega (arith, length-pin i j)
  length-subject (Static i j) = omega (arith, length-pin i j)
  length-subject (Joined i j) = omega (arith, length-pin i j)
  length-subject (Never i) = omega (arith, length-instance i)
  length-subject (Inverted i j) = omega (arith, length-pin i j)
  length-subject (Loose s) = omega (arith, length-signal s)

length-said : (note : Note) → length (said note) ≤ 200
length-said (Idle i) = lit≤ tt
length-said (NoTime i j) = lit≤ tt
length-said (Early s k) = lit≤ tt
length-said (Unread s) = lit≤ tt
length-said (Unused i) = lit≤ tt
length-said (Restarts i j) = lit≤ tt
length-said (Off i) = lit≤ tt
length-said (Zero i j) = lit≤ tt
length-said (Static i j) = lit≤ tt
length-said (Joined i j) = lit≤ tt
length-said (Never i) = lit≤ tt
length-said (Inverted i j) = lit≤ tt
length-said (Loose s) = lit≤ tt

-- the parts of a place
place-size : (n : ℕ) (line column : List ℕ) → length line ≤ 10 → length column ≤ 11 →
    length (if n == 0 then [] else codes ":" ++ line ++ column) ≤ 22
place-size n line column l c =
    elim (n == 0) as (λ v. length (if v then [] else codes ":" ++ line ++ column) ≤ 22) [ true ↦ lit≤ tt | false ↦ simp length-append (omega arith) ]

length-place : (place : Place) → place.line < 2 ^ 32 → place.column < 2 ^ 32 → length (place_shown place) ≤ 22
length-place place line column =
    place-size place.line (decimal place.line) (if place.column == 0 then [] else codes ":" ++ decimal place.column)
    (length-number place.line line) (length-column place.column column)

note-size : (file at about words : List ℕ) → length file ≤ 1023 → length at ≤ 22 → length about ≤ 2200 → length words ≤ 200 →
    length (file ++ at ++ codes ": note: " ++ about ++ words) ≤ 4000
note-size file at about words f p a w = simp length-append (omega arith)

-- the line of a note is short
pub length-note : (file : List ℕ) (net : Network) (placed : Placed) → placed.place.line < 2 ^ 32 → placed.place.column < 2 ^ 32 →
    length (note_text file net placed) ≤ 4000
length-note file net placed line column =
    note-size (last_shown 255 file) (place_shown placed.place) (subject net placed.note) (said placed.note) (length-last_shown 255 file)
    (length-place placed.place line column) (length-subject net placed.note) (length-said placed.note)

said-ended : (note : Note) → IsEnded (said note)
said-ended (Idle i) = (codes " is left free, so the block stays Idle; give it TRUE or a signal (docs/notes.md, 1)", refl)
said-ended (NoTime i j) = (codes " is left free, so the time is 0 ms; give it a TIME literal (docs/notes.md, 2)", refl)
said-ended (Early s k) = (
  codes " before the step that drives it, so its value there is that of the scan before; move that step up, if the value of this scan is meant (docs/notes.md, 3)",
  refl,
)
said-ended (Unread s) = (codes " is an input that no step reads; give it to a block, or leave it out (docs/notes.md, 4)", refl)
said-ended (Unused i) = (codes " has no output that another step reads; read one, or leave the block out (docs/notes.md, 5)", refl)
said-ended (Restarts i j) = (codes " is TRUE, so the block restarts by itself; leave it free where a person has to reset it (docs/notes.md, 6)", refl)
said-ended (Off i) = (codes " is FALSE, so the block stays Idle; give it TRUE or a signal (docs/notes.md, 7)", refl)
said-ended (Zero i j) = (codes " is 0 ms, so what is to follow is late at once; give it the time that is allowed (docs/notes.md, 8)", refl)
said-ended (Static i j) = (codes " is TRUE and never rises, so it acknowledges nothing; give it a button (docs/notes.md, 9)", refl)
said-ended (Joined i j) = (codes " and the pin after it have one signal, so the block finds no fault of a channel; give each its own (docs/notes.md, 10)", refl)
said-ended (Never i) = (codes " can never be enabled, since nothing resets it and S_StartReset is not TRUE; give Reset a button (docs/notes.md, 11)", refl)
said-ended (Inverted i j) = (codes " has no input of the program itself, so demands leave its NOT out; give it the input, where the demand is to have it (docs/notes.md, 12)", refl)
said-ended (Loose s) = (codes " is a local that no step reads; read it, or leave it out (docs/notes.md, 13)", refl)

-- the line of a note ends with a line feed
pub note-ended : (file : List ℕ) (net : Network) (placed : Placed) → IsEnded (note_text file net placed)
note-ended file net placed =
    let last = said-ended placed.note in
    let front : List ℕ = last_shown 255 file ++ place_shown placed.place ++ codes ": note: " ++ subject net placed.note in
    (front ++ last.0, ap (λ (t : List ℕ). front ++ t) last.1 ∙ sym (append_assoc front last.0 (codes "\n")))
