-- Apparatus: what the reader of a fault file has found so far.
use Rattle.std.specs.Prelude.{◌≡◌, ◌≤◌, ◌+◌, ◌++◌, ℕ, List, true, Some, None, Result, Ok, Err}
use Rattle.std.specs.List.{All}
use Rattle.ps_base.specs.declared.limits.TheConstants.{MOST_FAULT_LINES}
use Rattle.ps_lines.specs.Lines as cut
use Rattle.ps_lines.specs.Lines.Line.{Kept, KeptLast, Long, Large}
use Rattle.ps_lines.specs.declared.reader.Got.{Got}
use Rattle.ps_lines.specs.declared.reader.Got.TheVariants.{Line, LastLine, TooLong, TooLarge, End}
use Rattle.ps_outside.specs.declared.text_fail.TextFail.{TextFail}
use Rattle.ps_outside.specs.declared.text_fail.TextFail.TheVariants.{Memory as NoMemory, Fault as IsFault}
use Rattle.ps_outside.specs.declared.text_fail.TextFail.TheVariants.{Refused as IsRefused}
use Rattle.ps_trace.specs.Faults.{FaultList, Targets, faults_from}
use Rattle.ps_trace.specs.FaultOrder.{StrikeInOrder, StrikeOne}
use Rattle.ps_trace.specs.declared.fault_file.Before.{Before}
use Rattle.ps_trace.specs.declared.fault_file.Found.{Found}
use Rattle.ps_trace.specs.declared.fault_file.Taken.{Taken}
use Rattle.ps_trace.specs.declared.fault_file.Taken.TheVariants.{More, All as TheLast}
use Rattle.ps_trace.specs.declared.target.FaultLine.{FaultLine}

-- the line that came, or one that is refused
abbrev pub line_got : Got → List ℕ → cut.Line
line_got Line bytes = Kept bytes
line_got LastLine bytes = KeptLast bytes
line_got TooLong bytes = Long
line_got TooLarge bytes = Large
line_got End bytes = Large

-- the number of the line after one
abbrev pub number_behind : Got → ℕ → ℕ
number_behind Line number = number + 1
number_behind LastLine number = number
number_behind TooLong number = number
number_behind TooLarge number = number
number_behind End number = number

-- a line more was taken, or there was no memory
abbrev pub IsMore : Result Taken TextFail → Type 0
IsMore (Ok More) = Unit {0}
IsMore (Ok TheLast) = ⊥
IsMore (Err NoMemory) = Unit {0}
IsMore (Err IsFault) = ⊥
IsMore (Err (IsRefused refusal)) = ⊥

module _ {Who Fault : Type 0} (t : Targets Who Fault) where
  -- a fault line strikes no later than the line before, and the first one where a file may strike one alone
  pub record IsUpTo (before : Before Who) (line : FaultLine Who) : Type 0 where
    pub scan : line.scan ≤ before.scan
    pub turn : line.scan ≡ before.scan → line.turn ≤ before.turn
    pub first : t.one_alone ≡ true → before.first ≡ Some line.who

  -- the lines of all these faults are up to the line before
  abbrev pub AreUpTo : (Fault → FaultLine Who) → Before Who → List Fault → Type 0
  AreUpTo parts before faults = All (λ fault. IsUpTo before (parts fault)) faults

  -- what was found is in order, and its next line is not past line 1,001
  pub record AreFound (parts : Fault → FaultLine Who) (found : Found Who Fault) : Type 0 where
    pub few : found.number ≤ MOST_FAULT_LINES + 1
    pub ordered : StrikeInOrder parts found.faults.items
    pub one : t.one_alone ≡ true → StrikeOne parts found.faults.items
    pub upto : AreUpTo parts found.before found.faults.items

  -- what was found, in front of what these lines give
  abbrev pub found_in : Found Who Fault → List cut.Line → FaultList Fault
  found_in found lines = record {
    faults = found.faults.items ++ (faults_from t found.before found.number lines).faults;
    refusal = (faults_from t found.before found.number lines).refusal;
  }

  -- a call gave this answer at these lines, the rest of which is left: it goes on with a line more or at the text's end
  -- does not, or its first refusal is that of all
  abbrev pub GoesOnBy : Result Taken TextFail → (old new : Found Who Fault) (lines rest : List cut.Line) → Type 0
  GoesOnBy (Ok More) old new lines rest = found_in old lines ≡ found_in new rest
  GoesOnBy (Ok TheLast) old new lines rest = found_in old lines ≡ record { faults = new.faults.items; refusal = None }
  GoesOnBy (Err NoMemory) old new lines rest = Unit {0}
  GoesOnBy (Err IsFault) old new lines rest = Unit {0}
  GoesOnBy (Err (IsRefused refusal)) old new lines rest = (found_in old lines).refusal ≡ Some refusal

  -- what was found at these lines is all that they give, or its refusal is theirs
  abbrev pub EndsBy : Result (Unit {0}) TextFail → (old new : Found Who Fault) (lines : List cut.Line) → Type 0
  EndsBy (Ok done) old new lines = found_in old lines ≡ record { faults = new.faults.items; refusal = None }
  EndsBy (Err NoMemory) old new lines = Unit {0}
  EndsBy (Err IsFault) old new lines = Unit {0}
  EndsBy (Err (IsRefused refusal)) old new lines = (found_in old lines).refusal ≡ Some refusal
