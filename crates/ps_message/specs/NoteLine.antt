-- The line of a note, and that of an odd comment.
use Rattle.std.specs.Prelude.{ℕ, ◌+◌, ◌&&◌, ◌==◌, List, [], ◌++◌, codes, decimal, length, Option, Some, None, nat_lt}
use Rattle.std.specs.Prelude.{slice_get, slice_index_or, if◌then◌else◌}
use Rattle.ps_model.specs.declared.driver.Driver.{Driver}
use Rattle.ps_model.specs.declared.driver.Driver.TheVariants.{Output}
use Rattle.ps_model.specs.Action.{Action, assigns, calls}
use Rattle.ps_model.specs.Blocks.{block}
use Rattle.ps_model.specs.Drivers.{driver}
use Rattle.ps_model.specs.Network.{Network, declared_count, instance_count, instance_name, kind_at, signal_count}
use Rattle.ps_model.specs.Network.{signal_name}
use Rattle.ps_model.specs.Pins.{pin_count, pin_names}
use Rattle.ps_notes.specs.declared.note.Note.{Note}
use Rattle.ps_notes.specs.declared.note.Note.TheVariants.{Idle, NoTime, Early, Unread, Unused, Restarts, Off, Zero}
use Rattle.ps_notes.specs.declared.note.Note.TheVariants.{Static, Joined, Never, Inverted, Loose}
use Rattle.ps_notes.specs.declared.note.OddComment.{OddComment}
use Rattle.ps_notes.specs.declared.note.Oddity.{Oddity}
use Rattle.ps_notes.specs.declared.note.Oddity.TheVariants.{Return, Turn}
use Rattle.ps_notes.specs.declared.note.Placed.{Placed}
use Rattle.ps_message.specs.Message.{unended}
use Rattle.ps_text.specs.Lines.{place_shown}
use Rattle.ps_text.specs.Shown.{last_shown}

-- Names stand as they are declared; of a longer one, as within many function blocks, the last 255 bytes.
module _ (net : Network) where
  -- an instance
  abbrev pub instance_shown : ℕ → List ℕ
  instance_shown i = last_shown 255 (instance_name net i)

  -- the pin of this name of an instance, as `Guard.Activate`
  abbrev pub pin_named : (instance : ℕ) → (pin : List ℕ) → List ℕ
  pin_named i name = instance_shown i ++ codes "." ++ name

  -- a pin of an instance, and nothing where there is none
  abbrev pub pin_shown : (instance pin : ℕ) → List ℕ
  pin_shown i j =
      if nat_lt i (instance_count net) && nat_lt j (pin_count (kind_at net i)) then pin_named i (slice_index_or (pin_names (kind_at net i)) j []) else []

  -- an output of an instance, by what drives it
  abbrev pub output_shown : Option Driver → List ℕ
  output_shown (Some (Output i j k)) = pin_shown i (length (block (kind_at net i)).inputs + j)
  output_shown _ = []

  -- a signal: a declared one, or an output of an instance, and nothing where there is none
  abbrev pub signal_shown : ℕ → List ℕ
  signal_shown s =
      if nat_lt s (declared_count net) then last_shown 255 (signal_name net s) else
      if nat_lt s (signal_count net) then output_shown (driver net s) else []

  -- what a step does, and nothing where there is none
  abbrev pub step_shown : Option Action → List ℕ
  step_shown (Some (assigns t e)) = codes "the assignment to " ++ signal_shown t
  step_shown (Some (calls i args)) = codes "the call of " ++ instance_shown i
  step_shown None = []

  -- what a note is about
  abbrev pub subject : Note → List ℕ
  subject (Idle i) = pin_shown i 0
  subject (NoTime i j) = pin_shown i j
  subject (Early s k) = signal_shown s ++ codes " is read in " ++ step_shown (slice_get net.steps k)
  subject (Unread s) = signal_shown s
  subject (Unused i) = instance_shown i
  subject (Restarts i j) = pin_shown i j
  subject (Off i) = pin_shown i 0
  subject (Zero i j) = pin_shown i j
  subject (Static i j) = pin_shown i j
  subject (Joined i j) = pin_shown i j
  subject (Never i) = instance_shown i
  subject (Inverted i j) = pin_shown i j
  subject (Loose s) = signal_shown s

-- what is said of it, what helps, and where more is said
abbrev pub said : Note → List ℕ
said (Idle i) = codes " is left free, so the block stays Idle; give it TRUE or a signal (docs/notes.md, 1)\n"
said (NoTime i j) = codes " is left free, so the time is 0 ms; give it a TIME literal (docs/notes.md, 2)\n"
said (Early s k) =
    codes " before the step that drives it, so its value there is that of the scan before; move that step up, if the value of this scan is meant (docs/notes.md, 3)\n"
said (Unread s) = codes " is an input that no step reads; give it to a block, or leave it out (docs/notes.md, 4)\n"
said (Unused i) = codes " has no output that another step reads; read one, or leave the block out (docs/notes.md, 5)\n"
said (Restarts i j) = codes " is TRUE, so the block restarts by itself; leave it free where a person has to reset it (docs/notes.md, 6)\n"
said (Off i) = codes " is FALSE, so the block stays Idle; give it TRUE or a signal (docs/notes.md, 7)\n"
said (Zero i j) =
    codes " is 0 ms, so what is to follow is late at once; give it the time that is allowed (docs/notes.md, 8)\n"
said (Static i j) = codes " is TRUE and never rises, so it acknowledges nothing; give it a button (docs/notes.md, 9)\n"
said (Joined i j) =
    codes " and the pin after it have one signal, so the block finds no fault of a channel;"
    ++ codes " give each its own (docs/notes.md, 10)\n"
said (Never i) =
    codes " can never be enabled, since nothing resets it and S_StartReset is not TRUE;"
    ++ codes " give Reset a button (docs/notes.md, 11)\n"
said (Inverted i j) =
    codes " has no input of the program itself, so demands leave its NOT out;"
    ++ codes " give it the input, where the demand is to have it (docs/notes.md, 12)\n"
said (Loose s) = codes " is a local that no step reads; read it, or leave it out (docs/notes.md, 13)\n"

-- the line of a note: the name of the file, of a longer one the last 255 bytes, the place, what the note is about, and
-- what is said of it
abbrev pub note_text : (file : List ℕ) → Network → Placed → List ℕ
note_text file net placed =
    last_shown 255 file ++ place_shown placed.place ++ codes ": note: " ++ subject net placed.note ++ said placed.note

-- the line of a note without its place: what the note is about, and what is said of it
abbrev pub plain_note_text : Network → Note → List ℕ
plain_note_text net note = unended (subject net note ++ said note)

-- what is said of an odd comment, what helps, and where more is said
abbrev pub odd_said : Oddity → List ℕ
odd_said Return =
    codes "this comment has a carriage return, behind which other editors show a line that is not read;"
    ++ codes " end lines by LF or CR LF (docs/notes.md, 14)\n"
odd_said Turn =
    codes "this comment has a character that turns the direction of what is shown, which may hide what stands here;"
    ++ codes " delete it (docs/notes.md, 15)\n"

-- the line of an odd comment without its place: what is said of it
abbrev pub plain_odd_text : Oddity → List ℕ
plain_odd_text what = unended (odd_said what)

-- the line of an odd comment: the name of the file, the place, and what is said of it
abbrev pub odd_text : (file : List ℕ) → OddComment → List ℕ
odd_text file odd = last_shown 255 file ++ place_shown odd.place ++ codes ": note: " ++ odd_said odd.what
