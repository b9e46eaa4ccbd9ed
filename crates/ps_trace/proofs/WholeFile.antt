-- A fault file has no largest size: a line that the reader does not look at is refused all the same.
use Rattle.std.proofs.Common.{◌≡◌, ◌≤◌, ◌<◌, ◌+◌, ◌*◌, ℕ, List, [], ◌∷◌, Bool, true, false, Some, nat_eq, nat_lt, if◌then◌else◌, length, map, refl, sym, ◌∙◌, ap, ⊎_elim, arith}
use Rattle.std.proofs.lemmas.Bool.{le-ltb, lt-ltb}
use Rattle.std.proofs.lemmas.Bool.Decides.{leb_tells}
use Rattle.std.specs.Str.Lines.{strip_carriage_return}
use Rattle.ps_base.specs.declared.failing.Rule.{Rule}
use Rattle.ps_base.specs.declared.failing.Rule.TheVariants.{F1, F5}
use Rattle.ps_base.specs.declared.limits.TheConstants.{MOST_FAULT_LINES, LONGEST_FAULT_LINE}
use Rattle.ps_lines.specs.Lines.{RawLine, Line, onto_first, raw_lines, bytes_of, kept_of, lines_from}
use Rattle.ps_lines.specs.Lines.RawLine.{Ended, Last}
use Rattle.ps_lines.specs.Lines.Line.{Kept, KeptLast, Long, Large}
use Rattle.ps_trace.specs.declared.fault_file.Before.{Before}
use Rattle.ps_trace.specs.Scans.{at_line, number_after}
use Rattle.ps_trace.specs.Faults.{Struck, Targets, before_next, faults_from, faults_in, line_struck, no_fault, onto_faults, struck_of}
use Rattle.ps_trace.specs.Faults.Struck.{broken}
use Rattle.ps_trace.specs.FaultSays.{faults_read}
use Rattle.ps_trace.specs.declared.fault_file.TheConstants.{LARGEST_READ}

-- no line stands after one that the text's end ends
EndsLast : List RawLine → Type 0
EndsLast [] = Unit {0}
EndsLast (Ended line ∷ lines) = EndsLast lines
EndsLast (Last line ∷ lines) = lines ≡ []

ends_onto : (b : ℕ) (lines : List RawLine) → EndsLast lines → EndsLast (onto_first b lines)
unfolding EndsLast
ends_onto b [] ends = refl
ends_onto b (Ended line ∷ lines) ends = ends
ends_onto b (Last line ∷ lines) ends = ends

ends_either : (feed : Bool) (b : ℕ) (lines : List RawLine) → EndsLast lines → EndsLast (if feed then Ended [] ∷ lines else onto_first b lines)
unfolding EndsLast
ends_either true b lines ends = ends
ends_either false b lines ends = ends_onto b lines ends

raw_lines_end : (text : List ℕ) → EndsLast (raw_lines text)
unfolding EndsLast
raw_lines_end [] = tt
raw_lines_end (b ∷ bytes) = ends_either (nat_eq b 10) b (raw_lines bytes) (raw_lines_end bytes)

-- a line that begins at an offset, as the reader gives it
abbrev read_line : ℕ → RawLine → Line
read_line at line = if nat_lt LARGEST_READ (at + bytes_of line) then Large else kept_of LONGEST_FAULT_LINE line

-- the lines of a file from an offset on, as the reader gives them, and all lines
abbrev lines_read : ℕ → List RawLine → List Line
lines_read at lines = lines_from LARGEST_READ LONGEST_FAULT_LINE at lines

abbrev all_lines : List RawLine → List Line
all_lines lines = map (kept_of LONGEST_FAULT_LINE) lines

-- a line of which no byte stands past the largest size is read as it is
read_near : (at : ℕ) (line : RawLine) → at + bytes_of line ≤ LARGEST_READ → read_line at line ≡ kept_of LONGEST_FAULT_LINE line
read_near at line near =
    ap (λ (b : Bool). if b then Large else kept_of LONGEST_FAULT_LINE line) (le-ltb LARGEST_READ (at + bytes_of line) near)

module _ {Who Fault : Type 0} (t : Targets Who Fault) where
  -- a line that a rule refuses is the file's refusal, whatever stands after it
  refused_here : (before : Before Who) (number : ℕ) (line : Line) (rest : List Line) (rule : Rule) → struck_of t before number line ≡ broken rule →
      faults_from t before number (line ∷ rest) ≡ record { faults = []; refusal = Some (at_line rule number) }
  refused_here before number line rest rule is =
      ap (λ (said : Struck Who). onto_faults t said number (faults_from t (before_next said before) (number_after line number) rest)) is

  -- so two lines that one rule refuses refuse their files alike
  refused_alike : (before : Before Who) (number : ℕ) (line other : Line) (rest others : List Line) (rule : Rule) →
      struck_of t before number line ≡ broken rule → struck_of t before number other ≡ broken rule →
      faults_from t before number (line ∷ rest) ≡ faults_from t before number (other ∷ others)
  refused_alike before number line other rest others rule is that =
      refused_here before number line rest rule is ∙ sym (refused_here before number other others rule that)

  -- line 1,001 is refused, whatever it is
  pub struck_many : (before : Before Who) (number : ℕ) (line : Line) → MOST_FAULT_LINES < number → struck_of t before number line ≡ broken F5
  struck_many before number line many =
      ap (λ (b : Bool). if b then broken F5 else line_struck t before line) (lt-ltb MOST_FAULT_LINES number many)

  struck_few : (before : Before Who) (number : ℕ) (line : Line) → number ≤ MOST_FAULT_LINES → struck_of t before number line ≡ line_struck t before line
  struck_few before number line few =
      ap (λ (b : Bool). if b then broken F5 else line_struck t before line) (le-ltb MOST_FAULT_LINES number few)

  -- a line that is too long is refused, also where it is not kept
  struck_long : (before : Before Who) (number : ℕ) (large : Bool) → number ≤ MOST_FAULT_LINES →
      struck_of t before number (if large then Large else Long) ≡ broken F1
  struck_long before number true few = struck_few before number Large few
  struck_long before number false few = struck_few before number Long few

  -- a line that is too long is refused on both sides
  both_long : (before : Before Who) (number at : ℕ) (line : RawLine) (rest others : List Line) → number ≤ MOST_FAULT_LINES →
      kept_of LONGEST_FAULT_LINE line ≡ Long → faults_from t before number (read_line at line ∷ rest) ≡ faults_from t before number (kept_of LONGEST_FAULT_LINE line ∷ others)
  both_long before number at line rest others few long =
      refused_alike before number (read_line at line) (kept_of LONGEST_FAULT_LINE line) rest others F1
      (ap (λ (l : Line). struck_of t before number (if nat_lt LARGEST_READ (at + bytes_of line) then Large else l)) long
      ∙ struck_long before number (nat_lt LARGEST_READ (at + bytes_of line)) few)
      (ap (struck_of t before number) long ∙ struck_few before number Long few)

  -- a line that is kept gives the same on both sides, where the lines after it do
  both_kept : (before : Before Who) (number at : ℕ) (line : RawLine) (kept : Line) (rest others : List Line) →
      at + bytes_of line ≤ LARGEST_READ → kept_of LONGEST_FAULT_LINE line ≡ kept →
      ((next : Before Who) → faults_from t next (number_after kept number) rest ≡ faults_from t next (number_after kept number) others) →
      faults_from t before number (read_line at line ∷ rest) ≡ faults_from t before number (kept_of LONGEST_FAULT_LINE line ∷ others)
  both_kept before number at line kept rest others near is later =
      ap (λ (l : Line). faults_from t before number (l ∷ rest)) (read_near at line near ∙ is)
      ∙ ap (onto_faults t (struck_of t before number kept) number) (later (before_next (struck_of t before number kept) before))
      ∙ sym (ap (λ (l : Line). faults_from t before number (l ∷ others)) is)

  -- a line that a line feed ends, after lines of at most 600 bytes and their line feeds
  both_ended : (before : Before Who) (number at : ℕ) (bytes : List ℕ) (rest others : List Line) → at + 601 ≤ 601 * number →
      (length bytes ≤ LONGEST_FAULT_LINE → (next : Before Who) → faults_from t next (number + 1) rest ≡ faults_from t next (number + 1) others) →
      faults_from t before number (read_line at (Ended bytes) ∷ rest) ≡ faults_from t before number (kept_of LONGEST_FAULT_LINE (Ended bytes) ∷ others)
  both_ended before number at bytes rest others near later =
      ⊎_elim (λ few. ⊎_elim
      (λ short. both_kept before number at (Ended bytes) (Kept (strip_carriage_return bytes)) rest others (omega (arith, near, few.1, short.1))
      (ap (λ (b : Bool). if b then Long else Kept (strip_carriage_return bytes)) (le-ltb LONGEST_FAULT_LINE (length bytes) short.1)) (later short.1))
      (λ long. both_long before number at (Ended bytes) rest others few.1
      (ap (λ (b : Bool). if b then Long else Kept (strip_carriage_return bytes)) (lt-ltb LONGEST_FAULT_LINE (length bytes) long.1)))
      (leb_tells (length bytes) LONGEST_FAULT_LINE))
      (λ many. refused_alike before number (read_line at (Ended bytes)) (kept_of LONGEST_FAULT_LINE (Ended bytes)) rest others F5
      (struck_many before number (read_line at (Ended bytes)) many.1) (struck_many before number (kept_of LONGEST_FAULT_LINE (Ended bytes)) many.1))
      (leb_tells number MOST_FAULT_LINES)

  -- a line that the text's end ends
  both_last : (before : Before Who) (number at : ℕ) (bytes : List ℕ) (rest others : List Line) → at + 601 ≤ 601 * number → rest ≡ others →
      faults_from t before number (read_line at (Last bytes) ∷ rest) ≡ faults_from t before number (kept_of LONGEST_FAULT_LINE (Last bytes) ∷ others)
  both_last before number at bytes rest others near same =
      ⊎_elim (λ few. ⊎_elim
      (λ short. both_kept before number at (Last bytes) (KeptLast bytes) rest others (omega (arith, near, few.1, short.1))
      (ap (λ (b : Bool). if b then Long else KeptLast bytes) (le-ltb LONGEST_FAULT_LINE (length bytes) short.1)) (λ next. ap (faults_from t next number) same))
      (λ long. both_long before number at (Last bytes) rest others few.1
      (ap (λ (b : Bool). if b then Long else KeptLast bytes) (lt-ltb LONGEST_FAULT_LINE (length bytes) long.1)))
      (leb_tells (length bytes) LONGEST_FAULT_LINE))
      (λ many. refused_alike before number (read_line at (Last bytes)) (kept_of LONGEST_FAULT_LINE (Last bytes)) rest others F5
      (struck_many before number (read_line at (Last bytes)) many.1) (struck_many before number (kept_of LONGEST_FAULT_LINE (Last bytes)) many.1))
      (leb_tells number MOST_FAULT_LINES)

  both_sides : (lines : List RawLine) (before : Before Who) (number at : ℕ) → EndsLast lines → at + 601 ≤ 601 * number →
      faults_from t before number (lines_read at lines) ≡ faults_from t before number (all_lines lines)
  unfolding EndsLast
  both_sides [] before number at ends near = refl
  both_sides (Ended bytes ∷ lines) before number at ends near =
      both_ended before number at bytes (lines_read (at + (length bytes + 1)) lines) (all_lines lines) near
      (λ short next. both_sides lines next (number + 1) (at + (length bytes + 1)) ends (omega (arith, near, short)))
  both_sides (Last bytes ∷ lines) before number at ends near =
      both_last before number at bytes (lines_read (at + length bytes) lines) (all_lines lines) near
      (ap (lines_read (at + length bytes)) ends ∙ sym (ap all_lines ends))

  -- what the reader gives of the lines that it looks at is what the file gives
  pub faults_whole : (text : List ℕ) → faults_read t text ≡ faults_in t text
  faults_whole text = both_sides (raw_lines text) no_fault 1 0 (raw_lines_end text) (omega arith)
