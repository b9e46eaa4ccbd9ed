-- What a fault file says.
use Rattle.std.specs.Prelude.{ℕ, List, [], ◌∷◌, ◌+◌, ◌*◌, Bool, true, false, not, ◌==◌, ◌||◌, ◌&&◌, nat_lt, nat_le}
use Rattle.std.specs.Prelude.{if◌then◌else◌, Option, Some, None, Result, Ok, Err, length, map, codes}
use Rattle.std.specs.Str.{bytes_eq}
use Rattle.hex.specs.Hex.{decode_of}
use Rattle.hex.specs.declared.error.FromHexError.{FromHexError}
use Rattle.ps_base.specs.declared.failing.Rule.{Rule}
use Rattle.ps_base.specs.declared.failing.Rule.TheVariants.{F1, F2, F3, F4, F5}
use Rattle.ps_base.specs.declared.failing.Refusal.{Refusal}
use Rattle.ps_base.specs.declared.limits.TheConstants.{MOST_FAULT_LINES, LONGEST_FAULT_LINE, MOST_FAULT_BYTES}
use Rattle.ps_lines.specs.Lines.{Line, kept_of, raw_lines}
use Rattle.ps_lines.specs.Lines.Line.{Kept, KeptLast, Long, Large}
use Rattle.ps_model.specs.declared.channel.Channel.{Channel}
use Rattle.ps_model.specs.declared.channel.Channel.TheVariants.{A, B}
use Rattle.ps_model.specs.declared.channel.Region.{Region}
use Rattle.ps_model.specs.declared.channel.Region.TheVariants.{Code, Cells}
use Rattle.ps_model.specs.declared.channel.Fault.{Fault}
use Rattle.ps_model.specs.declared.channel.ImageSizes.{ImageSizes}
use Rattle.ps_trace.specs.declared.fault_file.Before.{Before}
use Rattle.ps_trace.specs.declared.target.FaultLine.{FaultLine}
use Rattle.ps_trace.specs.Words.{fields, number_of}
use Rattle.ps_trace.specs.Scans.{at_line, number_after}

-- the first of some words, empty where there is none
abbrev pub first_of : List (List ℕ) → List ℕ
first_of [] = []
first_of (word ∷ words) = word

-- the words after the first
abbrev pub others_of : List (List ℕ) → List (List ℕ)
others_of [] = []
others_of (word ∷ words) = words

-- a number from 1 on
abbrev pub above_zero : Option ℕ → Option ℕ
above_zero None = None
above_zero (Some n) = if n == 0 then None else Some n

-- Who the faults of a file strike, and what a fault is that strikes one.
pub record Targets (Who Fault : Type 0) : Type 0 where
  -- who a word names, and whether two are the same
  pub named : List ℕ → Option Who
  pub is_same : Who → Who → Bool
  -- the length of a region
  pub length_of : Who → Region → ℕ
  -- the fault of a line with this number
  pub made : (number : ℕ) → FaultLine Who → Fault
  -- whether a file may strike one alone
  pub one_alone : Bool

-- the region that a word names
abbrev pub region_of : List ℕ → Option Region
region_of word = if bytes_eq word (codes "code") then Some Code else if bytes_eq word (codes "memory") then Some Cells else None

-- the bytes that hexadecimal digits give, if they give any
abbrev pub value_if_ok : Result (List ℕ) FromHexError → Option (List ℕ)
value_if_ok (Ok bytes) = Some bytes
value_if_ok (Err error) = None

-- the bytes that a word is: some, and as many as a fault may have, by two hexadecimal digits of either case each
abbrev pub bytes_said : List ℕ → Option (List ℕ)
bytes_said word = if nat_lt 0 (length word) && nat_le (length word) (2 * MOST_FAULT_BYTES) then value_if_ok (decode_of word) else None

-- a fault line, where each of its parts is right
abbrev pub line_of_parts : {Who : Type 0} → (scan turn : Option ℕ) → Option Who → Option Region → Option ℕ → Option (List ℕ) → Option (FaultLine Who)
line_of_parts (Some scan) (Some turn) (Some who) (Some region) (Some at) (Some bytes) =
    Some record { scan = scan; turn = turn; who = who; region = region; at = at; bytes = bytes }
line_of_parts _ _ _ _ _ _ = None

module _ {Who : Type 0} (named : List ℕ → Option Who) where
  -- the last four words: who, region, offset and bytes
  abbrev pub target_said : (scan turn : Option ℕ) → List (List ℕ) → Option (FaultLine Who)
  target_said scan turn (who ∷ region ∷ at ∷ bytes ∷ []) = line_of_parts scan turn (named who) (region_of region) (number_of at) (bytes_said bytes)
  target_said scan turn _ = None

  -- after the scan: the word `turn` and a turn, or turn 0
  abbrev pub turn_said : Option ℕ → List (List ℕ) → Option (FaultLine Who)
  turn_said scan words =
      if bytes_eq (first_of words) (codes "turn") then target_said scan (above_zero (number_of (first_of (others_of words)))) (others_of (others_of words))
      else target_said scan (Some 0) words

  -- the fault line that words are: `before`, a scan, perhaps a turn, and what it strikes
  abbrev pub fault_said : List (List ℕ) → Option (FaultLine Who)
  fault_said words =
      if bytes_eq (first_of words) (codes "before") then turn_said (above_zero (number_of (first_of (others_of words)))) (others_of (others_of words)) else None

-- `Before` has the scan and the turn of the fault line before, and who the first one strikes.

-- before the first fault line
abbrev pub no_fault : {Who : Type 0} → Before Who
no_fault = record { scan = 0; turn = 0; first = None }

-- whether a scan, or with equal scans a turn, is less than that of the fault line before
abbrev pub falls : {Who : Type 0} → Before Who → (scan turn : ℕ) → Bool
falls before scan turn = nat_lt scan before.scan || (scan == before.scan && nat_lt turn before.turn)

-- who the first fault line strikes, with a fault line after
abbrev pub first_struck : {Who : Type 0} → Option Who → Who → Who
first_struck None who = who
first_struck (Some first) who = first

-- whether a fault line strikes another one than the first does
abbrev pub is_other : {Who : Type 0} → (Who → Who → Bool) → Option Who → Who → Bool
is_other is_same None who = false
is_other is_same (Some first) who = not (is_same first who)

-- What a line says: nothing, as it is skipped; a fault; or it is refused by a rule.
pub data Struck (Who : Type 0) : Type 0 where
  skipped : Struck Who
  strikes : FaultLine Who → Struck Who
  broken : Rule → Struck Who

-- what stands before the next line
abbrev pub before_next : {Who : Type 0} → Struck Who → Before Who → Before Who
before_next (strikes line) before = record { scan = line.scan; turn = line.turn; first = Some (first_struck before.first line.who) }
before_next _ before = before

-- the faults of a file up to its end or its first refused line
pub record FaultList (Fault : Type 0) : Type 0 where
  pub faults : List Fault
  pub refusal : Option Refusal

module _ {Who Fault : Type 0} (t : Targets Who Fault) where
  -- a fault line after others
  abbrev pub fault_judged : Before Who → FaultLine Who → Struck Who
  fault_judged before line =
      if falls before line.scan line.turn then broken F2
      else if nat_lt (t.length_of line.who line.region) (line.at + length line.bytes) then broken F3
      else if t.one_alone && is_other t.is_same before.first line.who then broken F4
      else strikes line

  -- a line, by the fault line that its words are: it is refused where they are none
  abbrev pub form_judged : Before Who → Option (FaultLine Who) → Struck Who
  form_judged before None = broken F1
  form_judged before (Some line) = fault_judged before line

  -- the words of a line that count
  abbrev pub words_struck : Before Who → List (List ℕ) → Struck Who
  words_struck before [] = skipped
  words_struck before (word ∷ words) = form_judged before (fault_said t.named (word ∷ words))

  -- a line, if it isn't line 1,001 of the file
  abbrev pub line_struck : Before Who → Line → Struck Who
  line_struck before (Kept line) = words_struck before (fields line)
  line_struck before (KeptLast line) = words_struck before (fields line)
  line_struck before Long = broken F1
  line_struck before Large = broken F1

  -- what a line with this number says, in front of what the later lines give
  abbrev pub onto_faults : Struck Who → ℕ → FaultList Fault → FaultList Fault
  onto_faults skipped number later = later
  onto_faults (strikes line) number later = record { faults = t.made number line ∷ later.faults; refusal = later.refusal }
  onto_faults (broken rule) number later = record { faults = []; refusal = Some (at_line rule number) }

  -- what a line with this number says: line 1,001 is refused
  abbrev pub struck_of : Before Who → ℕ → Line → Struck Who
  struck_of before number line = if nat_lt MOST_FAULT_LINES number then broken F5 else line_struck before line

  -- the faults of the lines from one with this number on
  abbrev pub faults_from : Before Who → ℕ → List Line → FaultList Fault
  faults_from before number [] = record { faults = []; refusal = None }
  faults_from before number (line ∷ lines) =
      onto_faults (struck_of before number line) number
      (faults_from (before_next (struck_of before number line) before) (number_after line number) lines)

-- the lines of a fault file, which has no largest size
abbrev pub fault_lines : List ℕ → List Line
fault_lines text = map (kept_of LONGEST_FAULT_LINE) (raw_lines text)

-- the faults that a fault file gives, or its first refusal
abbrev pub faults_in : {Who Fault : Type 0} → Targets Who Fault → List ℕ → FaultList Fault
faults_in t text = faults_from t no_fault 1 (fault_lines text)

-- ---- The fault file of two channels.

-- the channel that a word names
abbrev pub channel_of : List ℕ → Option Channel
channel_of word = if bytes_eq word (codes "A") then Some A else if bytes_eq word (codes "B") then Some B else None

-- whether two channels are the same
abbrev pub is_same_channel : Channel → Channel → Bool
is_same_channel A A = true
is_same_channel A B = false
is_same_channel B A = false
is_same_channel B B = true

-- the length of a region of a channel
abbrev pub region_size : ImageSizes → Channel → Region → ℕ
region_size sizes A Code = sizes.a_code
region_size sizes A Cells = sizes.a_cells
region_size sizes B Code = sizes.b_code
region_size sizes B Cells = sizes.b_cells

-- the fault of a line, which keeps no number
abbrev pub channel_fault : ℕ → FaultLine Channel → Fault
channel_fault number line = record { scan = line.scan; turn = line.turn; channel = line.who; region = line.region; at = line.at; bytes = line.bytes }

-- the channels of a world of two, of which a file strikes one alone
abbrev pub two_channels : ImageSizes → Targets Channel Fault
two_channels sizes = record { named = channel_of; is_same = is_same_channel; length_of = region_size sizes; made = channel_fault; one_alone = true }

-- the faults of channels that a fault file gives, or its first refusal
abbrev pub faults_of : List ℕ → ImageSizes → FaultList Fault
faults_of text sizes = faults_in (two_channels sizes) text
