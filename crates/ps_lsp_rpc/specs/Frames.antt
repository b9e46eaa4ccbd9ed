-- Messages of the Language Server Protocol in a stream of bytes: a head of lines, an empty line, and a body.
use Rattle.std.specs.Prelude.{◌≡◌, ◌⊎◌, ℕ, ◌+◌, ◌<◌, ◌≤◌, ◌^◌, ◌==◌, List, [], ◌++◌, codes, decimal, length, map, take, true, false, Bool}
use Rattle.std.specs.Char.{to_ascii_lowercase}
use Rattle.std.specs.List.{ends_with}
use Rattle.std.specs.Str.{IsTrimAscii}
use Rattle.std.specs.Str.Parse.{IsNumeral, digits_value, without_leading_plus}
use Rattle.ps_text.specs.Quoted.{line_of}
use Rattle.ps_lsp_rpc.specs.declared.heads.TheConstants.{MOST_LINES}
use Rattle.ps_lsp_rpc.specs.declared.reading.Frame.{Frame}
use Rattle.ps_lsp_rpc.specs.declared.reading.Frame.TheVariants.{Message, End, Headless, TooLong, Cut}
use Rattle.ps_lsp_rpc.specs.declared.reading.TheConstants.{LARGEST_MESSAGE, LONGEST_HEAD}

-- the end of the last line of a head, and the empty line
abbrev pub head_end : List ℕ
head_end = codes "\r\n\r\n"

-- whether a head ends with these bytes
abbrev pub is_whole : List ℕ → Bool
is_whole bytes = ends_with (λ a b. a == b) bytes head_end

-- a line of a head that says how long the body is: its name in any letter case, and a number of 32 bits between blanks
pub record SaysLength (line : List ℕ) (n : ℕ) : Type 0 where
  pub name : List ℕ
  pub rest : List ℕ
  pub digits : List ℕ
  pub is : line ≡ name ++ rest
  pub named : map to_ascii_lowercase name ≡ codes "content-length:"
  pub trimmed : IsTrimAscii rest digits
  pub numeral : IsNumeral 10 (without_leading_plus digits)
  pub small : digits_value 10 (without_leading_plus digits) < 2 ^ 32
  pub value : n ≡ digits_value 10 (without_leading_plus digits)

-- no line of a head before this one says a length
abbrev pub SaysNoneBefore : (head : List ℕ) (line : ℕ) → Type 0
SaysNoneBefore head line = (k n : ℕ) → 0 < k → k < line → ¬ (SaysLength (line_of head k) n)

-- a head says the length n: the first of its lines that says one does, and it is among the first `MOST_LINES`
pub record SaysFirst (head : List ℕ) (n : ℕ) : Type 0 where
  pub line : ℕ
  pub from : 0 < line
  pub upto : line ≤ MOST_LINES
  pub says : SaysLength (line_of head line) n
  pub first : SaysNoneBefore head line

-- a message: a head, which is what stands up to the first empty line, and a body of as many bytes as the head says;
-- both of them no longer than they may be
pub record IsMessage (bytes body : List ℕ) : Type 0 where
  pub head : List ℕ
  pub is : bytes ≡ head ++ body
  pub whole : is_whole head ≡ true
  pub first : (k : ℕ) → k < length head → is_whole (take k head) ≡ false
  pub says : SaysFirst head (length body)
  pub short : length head ≤ LONGEST_HEAD
  pub small : length body ≤ LARGEST_MESSAGE

-- what is read as a head of the bytes ahead: those up to the first empty line, or as many as a head may have, or all
pub record IsHeadOf (ahead head behind : List ℕ) : Type 0 where
  pub is : ahead ≡ head ++ behind
  pub short : length head ≤ LONGEST_HEAD
  pub first : (k : ℕ) → k < length head → is_whole (take k head) ≡ false
  pub ends : is_whole head ≡ false → length head < LONGEST_HEAD → behind ≡ []

-- What is told of a head and of the bytes after it, of which some are left.
abbrev pub Tells : (head behind left : List ℕ) → Frame → Type 0
-- nothing is ahead
Tells head behind left End = (head ≡ []) × (behind ≡ [])
-- a head that says its length, and so many bytes
Tells head behind left (Message body) =
    (is_whole head ≡ true) × SaysFirst head (length body) × (length body ≤ LARGEST_MESSAGE) × (behind ≡ body ++ left)
-- a head that says no length
Tells head behind left Headless = (is_whole head ≡ true) × SaysNoneBefore head (MOST_LINES + 1) × (left ≡ behind)
-- a head without an end, or one that says a length that is too large
Tells head behind left TooLong =
    ((is_whole head ≡ false) × (length head ≡ LONGEST_HEAD)) ⊎ ((n : ℕ) × SaysFirst head n × (LARGEST_MESSAGE < n))
-- bytes that end within a head, or with fewer after one than it says
Tells head behind left Cut =
    ((is_whole head ≡ false) × (behind ≡ [])) ⊎ ((n : ℕ) × SaysFirst head n × (length behind < n))

-- What a reading gives of the bytes ahead, of which some are left: a message where one stands at their front, and else
-- why there is none.
abbrev pub Gives : (ahead left : List ℕ) → Frame → Type 0
Gives ahead left frame = (head : List ℕ) × (behind : List ℕ) × IsHeadOf ahead head behind × Tells head behind left frame

-- the message that is written of a body
abbrev pub message : List ℕ → List ℕ
message body = codes "Content-Length: " ++ decimal (length body) ++ codes "\r\n\r\n" ++ body
