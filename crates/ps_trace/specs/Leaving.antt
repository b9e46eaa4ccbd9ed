-- Apparatus: what a call that reads lines leaves of files, and how far it takes the reader.
use Rattle.std.specs.Prelude.{◌≡◌, ◌<◌, ◌≤◌, ℕ, Bool, IsTrue, List, Option, Some, IsSome, Result, Ok, Err}
use Rattle.ps_outside.specs.Outside.{Rose, CountsStay}
use Rattle.ps_outside.specs.declared.text_fail.TextFail.{TextFail}
use Rattle.ps_outside.specs.declared.text_fail.TextFail.TheVariants.{Memory as NoMemory, Fault as IsFault}
use Rattle.ps_outside.specs.declared.text_fail.TextFail.TheVariants.{Refused as IsRefused}
use Rattle.ps_lines.specs.Reader.{IsReading, begin_of, limits_of, name_of, read_of}
use Rattle.ps_lines.specs.declared.reader.LineReader.{LineReader}
use Rattle.ps_lines.specs.declared.reader.Got.{Got}
use Rattle.ps_lines.specs.declared.reader.Got.TheVariants.{Line, LastLine, TooLong, TooLarge, End}

-- Files: whether they tell, what they hold, and how often reads of each name failed.
pub record Shelf : Type 0 where
  pub tells : Bool
  pub held : List ℕ → Option (List ℕ)
  pub faults : List ℕ → ℕ

-- files that are given so
abbrev pub shelf : (tells : Bool) (held : List ℕ → Option (List ℕ)) (faults : List ℕ → ℕ) → Shelf
shelf tells held faults = record { tells = tells; held = held; faults = faults }

-- the counts after an answer: that of this name rose where its read failed, and else all stay
abbrev pub CountsBy : {X : Type 0} → Result X TextFail → (name : List ℕ) (old new : List ℕ → ℕ) → Type 0
CountsBy (Ok value) name old new = CountsStay old new
CountsBy (Err NoMemory) name old new = CountsStay old new
CountsBy (Err IsFault) name old new = Rose (old name) (new name) × ((other : List ℕ) → old other ≤ new other)
CountsBy (Err (IsRefused refusal)) name old new = CountsStay old new

-- an answer shows that the name is held: it read a line, or the text's end
abbrev pub ShowsHeld : {X : Type 0} → Result X TextFail → Type 0 → Type 0
ShowsHeld (Ok value) P = P
ShowsHeld (Err NoMemory) P = Unit {0}
ShowsHeld (Err IsFault) P = Unit {0}
ShowsHeld (Err (IsRefused refusal)) P = P

-- A call that reads lines of the file of this name ended so.
pub record Leaves {X : Type 0} (name : List ℕ) (old new : Shelf) (ended : Result X TextFail) : Type 0 where
  pub kept : new.held ≡ old.held
  pub telling : new.tells ≡ old.tells
  pub counts : CountsBy ended name old.faults new.faults
  pub found : IsTrue old.tells → ShowsHeld ended (IsSome (old.held name))

-- A reader is under way through its file.
pub record IsUnderWay (files : Shelf) (lines : LineReader) : Type 0 where
  pub reads : IsTrue files.tells → (text : List ℕ) → files.held (name_of lines) ≡ Some text → IsReading lines text
  pub found : IsTrue files.tells → 0 < begin_of lines → IsSome (files.held (name_of lines))
  pub fresh : begin_of lines ≡ 0 → read_of lines ≡ 0
  pub near : begin_of lines ≤ (limits_of lines).largest

-- A line took a reader on, which is still under way.
pub record IsFurther (files : Shelf) (old new : LineReader) : Type 0 where
  pub way : IsUnderWay files new
  pub ahead : begin_of old < begin_of new
  pub name : name_of new ≡ name_of old
  pub limits : limits_of new ≡ limits_of old

-- a line came
abbrev pub Came : Got → Type 0
Came Line = Unit {0}
Came LastLine = Unit {0}
Came TooLong = ⊥
Came TooLarge = ⊥
Came End = ⊥
