-- Comments that an editor shows otherwise than they are read.
use Rattle.std.specs.Prelude.{ℕ, suc, ◌+◌, ◌-◌, ◌==◌, ◌&&◌, ◌||◌, Bool, not, List, [], ◌∷◌, ◌++◌, Option, Some, None}
use Rattle.std.specs.Prelude.{codes, count_by, encode_utf8, if◌then◌else◌, length, min, nat_eq, nat_lt, take}
use Rattle.std.specs.List.{list_any, slice_split, starts_with, take_while}
use Rattle.ps_base.specs.declared.failing.Place.{Place}
use Rattle.ps_lexer.specs.Gaps.{is_line_feed}
use Rattle.ps_lexer.specs.Scanning.{opens_block, opens_line}
use Rattle.ps_notes.specs.declared.note.OddComment.{OddComment}
use Rattle.ps_notes.specs.declared.note.Oddity.{Oddity}
use Rattle.ps_notes.specs.declared.note.Oddity.TheVariants.{Return, Turn}
use Rattle.ps_findings.specs.declared.comments.Spot.{Spot}
use Rattle.ps_findings.specs.declared.comments.Spot.TheVariants.{Code, Line, Block}

-- ---- What is odd.

-- bytes begin with one of these characters, in UTF-8
abbrev pub begins_with : (characters : List ℕ) → List ℕ → Bool
begins_with characters bytes = list_any (λ c. starts_with nat_eq bytes (encode_utf8 c)) characters

-- the marks of direction: U+061C, U+200E, U+200F
abbrev pub marks : List ℕ
marks = 0x061C ∷ 0x200E ∷ 0x200F ∷ []

-- what begins or ends a part of another direction: U+202A to U+202E
abbrev pub embeddings : List ℕ
embeddings = 0x202A ∷ 0x202B ∷ 0x202C ∷ 0x202D ∷ 0x202E ∷ []

-- what begins or ends an isolated part: U+2066 to U+2069
abbrev pub isolates : List ℕ
isolates = 0x2066 ∷ 0x2067 ∷ 0x2068 ∷ 0x2069 ∷ []

-- bytes begin with a character that turns the direction of what is shown
abbrev pub turns : List ℕ → Bool
turns bytes = begins_with marks bytes || begins_with embeddings bytes || begins_with isolates bytes

-- bytes begin with a carriage return after which the line goes on
abbrev pub returns : List ℕ → Bool
returns bytes =
    starts_with nat_eq bytes (codes "\r") && nat_lt 1 (length bytes) && not (starts_with nat_eq bytes (codes "\r\n"))

-- ---- Where a byte of an application stands: in code, in a `//` comment, or in a block comment.

-- whether the two bytes are `*)`
abbrev pub closes_block : ℕ → ℕ → Bool
closes_block b c = b == 42 && c == 41

-- after a byte by itself: a line feed ends a `//` comment
abbrev pub after_byte : Spot → (byte : ℕ) → Spot
after_byte Line byte = if is_line_feed byte then Code else Line
after_byte spot byte = spot

-- After two bytes, by where the first of them stands, and what comes between them: in code they may open a comment, and
-- in a block comment close it. So in `(*)` the comment is open, since its `*` stands in no comment.
abbrev pub after_two : (first between : Spot) → (last byte : ℕ) → Spot
after_two Code between last byte =
    if opens_line last byte then Line else if opens_block last byte then Block else after_byte between byte
after_two Block between last byte = if closes_block last byte then Code else after_byte between byte
after_two Line between last byte = after_byte between byte

-- where what comes after these bytes of a text stands, of which the last comes first
abbrev pub spot_after : (back : List ℕ) → Spot
spot_after [] = Code
spot_after (byte ∷ []) = Code
spot_after (byte ∷ last ∷ back) = after_two (spot_after back) (spot_after (last ∷ back)) last byte

-- ---- Which comments are odd, and where.

-- a number of lines or columns, as far as it goes into 32 bits
abbrev pub counted : ℕ → ℕ
counted n = min n 4294967295

-- The place after these bytes of a text, of which the last comes first: a line for each line feed, and a column for
-- each byte after the last one.
abbrev pub place_behind : (back : List ℕ) → Place
place_behind back = record {
  line = counted (1 + count_by is_line_feed back);
  column = counted (1 + length (take_while (λ b. not (is_line_feed b)) back));
}

-- What is odd at the beginning of bytes that stand there: in a `//` comment a carriage return after which the line goes
-- on, and in any comment a character that turns the direction of what is shown.
abbrev pub odd_in : Spot → List ℕ → Option Oddity
odd_in Code bytes = None
odd_in Line bytes = if returns bytes then Some Return else if turns bytes then Some Turn else None
odd_in Block bytes = if turns bytes then Some Turn else None

-- what is odd at a place, if something is, as a list
abbrev pub odd_at : Place → Option Oddity → List OddComment
odd_at place None = []
odd_at place (Some what) = record { what = what; place = place } ∷ []

-- all that is odd in the comments of an application from some place on, by the bytes before it, of which the last comes
-- first
abbrev pub odd_places : (back bytes : List ℕ) → List OddComment
odd_places back [] = []
odd_places back (byte ∷ bytes) =
    odd_at (place_behind back) (odd_in (spot_after back) (byte ∷ bytes)) ++ odd_places (byte ∷ back) bytes

-- Of each line after this one the first, where the list has the order of the lines.
abbrev pub firsts : (line : ℕ) → List OddComment → List OddComment
firsts line [] = []
firsts line (odd ∷ odds) = if nat_lt line odd.place.line then odd ∷ firsts odd.place.line odds else firsts line odds

-- of each line the first, and of these the first 20
abbrev pub told_of : List OddComment → List OddComment
told_of odds = take 20 (firsts 0 odds)

-- the odd comments of an application's text that are told
abbrev pub odds_of : List ℕ → List OddComment
odds_of text = told_of (odd_places [] text)

-- ---- Traces and fault files, in which a comment is a line that begins with `#`.

-- whether a carriage return stands in a line before its last byte
abbrev pub has_return : List ℕ → Bool
has_return line = list_any (λ b. b == 13) (take (length line - 1) line)

-- what is odd in a line: a comment with a carriage return before its last byte
abbrev pub odd_line : List ℕ → Option Oddity
odd_line line = if starts_with nat_eq line (codes "#") && has_return line then Some Return else None

-- all that is odd in lines after so many others; each is told by its line alone, without a column
abbrev pub odd_lines : (before : ℕ) → List (List ℕ) → List OddComment
odd_lines before [] = []
odd_lines before (line ∷ lines) =
    odd_at (record { line = counted (suc before); column = 0 }) (odd_line line) ++ odd_lines (suc before) lines

-- the odd comments of the text of a trace or a fault file that are told
abbrev pub odds_of_lines : List ℕ → List OddComment
odds_of_lines text = told_of (odd_lines 0 (slice_split (λ b. b == 10) text))
