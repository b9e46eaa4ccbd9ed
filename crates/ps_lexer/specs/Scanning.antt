-- What the steps of the scanner answer.
use Rattle.std.specs.Prelude.{◌≡◌, ℕ, ◌+◌, ◌<◌, ◌≤◌, ◌⊎◌, Bool, true, false, List, [], ◌∷◌, ◌++◌, Option, Some, None}
use Rattle.std.specs.Prelude.{◌==◌, ◌&&◌, if◌then◌else◌, length, slice_index}
use Rattle.std.specs.List.{AllByRecursion, slice_range}
use Rattle.std.specs.Char.{is_ascii_digit, is_ascii_alphabetic}
use Rattle.ps_base.specs.declared.failing.Fail.{Fail}
use Rattle.ps_base.specs.declared.failing.Fail.TheVariants as fail
use Rattle.ps_base.specs.declared.failing.Place.{Place}
use Rattle.ps_lexer.specs.declared.token.Form.{Form}
use Rattle.ps_lexer.specs.declared.token.Form.TheVariants as form
use Rattle.ps_lexer.specs.declared.token.Token.{Token}
use Rattle.ps_lexer.specs.declared.token.Word.TheVariants as word
use Rattle.ps_lexer.specs.declared.scanner.Piece.{Piece}
use Rattle.ps_lexer.specs.declared.scanner.Piece.TheVariants as piece
use Rattle.ps_lexer.specs.Gaps.{is_blank, IsBlockComment, IsLineComment}
use Rattle.ps_lexer.specs.Shapes.{IsLongest, Spells}
use Rattle.ps_lexer.specs.Reading.{Reads, Breaks}

-- the sign of one byte
abbrev pub one_byte : ℕ → Option Form
one_byte b =
    if b == 58 then Some form.Colon else
    (if b == 59 then Some form.Semicolon else
    (if b == 44 then Some form.Comma else
    (if b == 40 then Some form.LeftBracket else
    (if b == 41 then Some form.RightBracket else
    (if b == 46 then Some form.Dot else
    (if b == 38 then Some (form.Word word.And) else None))))))

-- the sign of two bytes
abbrev pub two_bytes : ℕ → ℕ → Option Form
two_bytes b c = if b == 58 && c == 61 then Some form.Assign else None

-- the sign with its number of bytes
abbrev pub with_len : ℕ → Option Form → Option (Form × ℕ)
with_len n None = None
with_len n (Some f) = Some (f, n)

-- the longest sign that begins with these two bytes, and how many of them it has
abbrev pub sign_at : ℕ → ℕ → Option (Form × ℕ)
sign_at b c = if b == 58 && c == 61 then Some (form.Assign, 2) else with_len 1 (one_byte b)

-- whether the two bytes are `(*`
abbrev pub opens_block : ℕ → ℕ → Bool
opens_block b c = b == 40 && c == 42

-- whether the two bytes are `//`
abbrev pub opens_line : ℕ → ℕ → Bool
opens_line b c = b == 47 && c == 47

-- the piece stands at i
abbrev pub IsPieceAt : List ℕ → ℕ → Piece → Type 0
IsPieceAt text i piece.Blank = is_blank (slice_index text i) ≡ true
IsPieceAt text i (piece.Comment j) = IsBlockComment text i j ⊎ IsLineComment text i j
IsPieceAt text i (piece.Token f j) = IsLongest text i j × Spells f (slice_range text i j)
IsPieceAt text i (piece.Broken rule) = Breaks rule text i

-- one more piece of the text is read, and its token, if it has one, is at the end of the list
pub record Advances (text : List ℕ) (i j : ℕ) (old new : List Token) : Type 0 where
  pub ahead : i < j
  pub within : j ≤ length text
  pub more : List Token
  pub items : new ≡ old ++ more
  pub few : length more + i ≤ j
  pub read : Reads text i more j

-- a rule is broken at i, which has this place
abbrev pub StopsAt : List ℕ → ℕ → Place → Fail → Type 0
StopsAt text i place (fail.Refused refusal) = Breaks refusal.rule text i × (refusal.place ≡ place)
StopsAt text i place fail.Memory = Unit {0}

-- the first byte fails the test, if there is one
abbrev pub Stops : (ℕ → Bool) → List ℕ → Type 0
Stops test [] = Unit {0}
Stops test (b ∷ bytes) = test b ≡ false

-- the longest run of digits, the longest run of letters after it, and the rest
pub record IsSplit (bytes digits letters tail : List ℕ) : Type 0 where
  pub is : bytes ≡ digits ++ (letters ++ tail)
  pub only_digits : AllByRecursion (λ b. is_ascii_digit b ≡ true) digits
  pub no_digit : Stops is_ascii_digit (letters ++ tail)
  pub only_letters : AllByRecursion (λ b. is_ascii_alphabetic b ≡ true) letters
  pub no_letter : Stops is_ascii_alphabetic tail

-- what stands after an underscore, or at once
abbrev pub gap_rest : List ℕ → List ℕ
gap_rest [] = []
gap_rest (b ∷ bytes) = if b == 95 then bytes else b ∷ bytes
