-- Which bytes spell a token, and how far a token goes.
use Rattle.std.specs.Prelude.{◌≡◌, ℕ, ◌<◌, ◌≤◌, ◌⊎◌, List, length, codes}
use Rattle.std.specs.List.{slice_range}
use Rattle.ps_lexer.specs.declared.token.Form.{Form}
use Rattle.ps_lexer.specs.declared.token.Form.TheVariants as form
use Rattle.ps_lexer.specs.declared.token.Word.TheVariants as word
use Rattle.ps_lexer.specs.Spelling.{folded, spelling, IsIdentifier, IsName}
use Rattle.ps_lexer.specs.TimeLiterals.{IsTimeText, IsTimeLiteral}

-- the signs; `&` is the word And
abbrev pub SpellsSign : Form → List ℕ → Type 0
SpellsSign form.Assign bytes = bytes ≡ codes ":="
SpellsSign form.Colon bytes = bytes ≡ codes ":"
SpellsSign form.Semicolon bytes = bytes ≡ codes ";"
SpellsSign form.Comma bytes = bytes ≡ codes ","
SpellsSign form.LeftBracket bytes = bytes ≡ codes "("
SpellsSign form.RightBracket bytes = bytes ≡ codes ")"
SpellsSign form.Dot bytes = bytes ≡ codes "."
SpellsSign (form.Word word.And) bytes = bytes ≡ codes "&"
SpellsSign _ bytes = ⊥

-- keywords in any letter case, names with their bytes as they are spelt, and TIME literals
abbrev pub SpellsWord : Form → List ℕ → Type 0
SpellsWord (form.Word k) bytes = folded bytes ≡ spelling k
SpellsWord (form.Name name) bytes = (name ≡ bytes) × IsName bytes
SpellsWord (form.Time v) bytes = IsTimeLiteral bytes v
SpellsWord _ bytes = ⊥

-- the bytes are a spelling of the form
abbrev pub Spells : Form → List ℕ → Type 0
Spells f bytes = SpellsSign f bytes ⊎ SpellsWord f bytes

-- what a comment begins with
abbrev pub OpensComment : List ℕ → Type 0
OpensComment bytes = (bytes ≡ codes "(*") ⊎ (bytes ≡ codes "//")

-- what begins as a token or a comment does, right or wrong: a keyword or a name of any length, `T#` or `TIME#` with
-- all that belongs to it, a sign, or the opening of a comment
pub data IsShape (bytes : List ℕ) : Type 0 where
  identifier : IsIdentifier bytes → IsShape bytes
  time : IsTimeText bytes → IsShape bytes
  sign : (f : Form) → SpellsSign f bytes → IsShape bytes
  opening : OpensComment bytes → IsShape bytes

-- the bytes from i up to j are a shape, and no more bytes from i on are one
pub record IsLongest (text : List ℕ) (i j : ℕ) : Type 0 where
  pub ahead : i < j
  pub within : j ≤ length text
  pub shape : IsShape (slice_range text i j)
  pub none_longer : (k : ℕ) → j < k → k ≤ length text → IsShape (slice_range text i k) → ⊥
