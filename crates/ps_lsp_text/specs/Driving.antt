-- The statement that drives a name.
use Rattle.std.specs.Prelude.{◌≡◌, ◌==◌, ◌||◌, ℕ, ◌+◌, ◌-◌, ◌<◌, ◌≤◌, ◌⊎◌, Bool, true, false, List, [], ◌++◌, Option, Some, None, length, codes, decimal, drop, take}
use Rattle.std.specs.Prelude.{slice_get}
use Rattle.ps_base.specs.LetterCase.{SameName}
use Rattle.ps_lexer.specs.declared.token.Form.{Form}
use Rattle.ps_lexer.specs.declared.token.Form.TheVariants as form
use Rattle.ps_lexer.specs.declared.token.Token.{Token}
use Rattle.ps_lexer.specs.declared.token.Word.TheVariants as keyword
use Rattle.ps_text.specs.Quoted.{line_of}
use Rattle.ps_text.specs.Shown.{first_shown}
use Rattle.ps_lsp_text.specs.Looking.{form_in, name_in}
use Rattle.ps_lsp_text.specs.declared.driving.TheConstants.{MOST_SHOWN}

-- whether a statement may begin after a form: after the semicolon of the one before it, or after a section
abbrev pub ends_before : Option Form → Bool
ends_before (Some form.Semicolon) = true
ends_before (Some (form.Word keyword.EndVar)) = true
ends_before (Some _) = false
ends_before None = false

-- whether a form after a name shows that the statement assigns it, or calls it
abbrev pub is_driving : Option Form → Bool
is_driving (Some form.Assign) = true
is_driving (Some form.LeftBracket) = true
is_driving (Some _) = false
is_driving None = false

-- the statement that begins at a token assigns a name, or calls the instance of that name, in any letter case
pub record Drives (tokens : List Token) (name : List ℕ) (at : ℕ) : Type 0 where
  pub spelt : List ℕ
  pub is : name_in tokens at ≡ Some spelt
  pub same : SameName spelt name
  pub begins : (at == 0) || ends_before (form_in tokens (at - 1)) ≡ true
  pub takes : is_driving (form_in tokens (at + 1)) ≡ true

-- the first statement from a token on that drives a name begins at this token
pub record IsDriver (tokens : List Token) (name : List ℕ) («from» at : ℕ) : Type 0 where
  pub behind : «from» ≤ at
  pub drives : Drives tokens name at
  pub first : (k : ℕ) → «from» ≤ k → k < at → Drives tokens name k → ⊥

-- the statement that begins at a token ends here: before its semicolon, or with the text
abbrev pub IsStatementEnd : (text : List ℕ) (tokens : List Token) (at upto : ℕ) → Type 0
IsStatementEnd text tokens at upto =
    ((k : ℕ) × (at ≤ k) × ((t : Token) × (slice_get tokens k ≡ Some t) × (t.form ≡ form.Semicolon) × (upto ≡ t.«from»))
    × ((j : ℕ) → at ≤ j → j < k → form_in tokens j ≡ Some form.Semicolon → ⊥))
    ⊎ (((j : ℕ) → at ≤ j → form_in tokens j ≡ Some form.Semicolon → ⊥) × (upto ≡ length text))

-- the statement of a text that begins with a token and ends at a place, in words: its line, and of its first line the
-- first bytes
abbrev pub driver_text : (text : List ℕ) → Token → (upto : ℕ) → List ℕ
driver_text text token upto =
    (codes "\ndriven in line " ++ decimal token.place.line)
    ++ (codes ": " ++ first_shown MOST_SHOWN (line_of (drop token.«from» (take upto text)) 1))

-- the statement that begins at a token, in words
pub record IsStatementTold (text : List ℕ) (tokens : List Token) (at : ℕ) (words : List ℕ) : Type 0 where
  pub token : Token
  pub there : slice_get tokens at ≡ Some token
  pub upto : ℕ
  pub ends : IsStatementEnd text tokens at upto
  pub is : words ≡ driver_text text token upto

-- what is told of what drives a name, from a token on: the first such statement; nothing if there is none
abbrev pub IsDriverTold : (text : List ℕ) (tokens : List Token) (name : List ℕ) («from» : ℕ) (words : List ℕ) → Type 0
IsDriverTold text tokens name start words =
    ((at : ℕ) × IsDriver tokens name start at × IsStatementTold text tokens at words)
    ⊎ (((at : ℕ) → start ≤ at → Drives tokens name at → ⊥) × (words ≡ []))
