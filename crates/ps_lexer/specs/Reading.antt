-- The tokens of a text, and the rules by which a text has none.
use Rattle.std.specs.Prelude.{◌≡◌, ℕ, ◌+◌, ◌<◌, ◌≤◌, ◌⊎◌, true, false, List, [], ◌∷◌, Result, Ok, Err, length}
use Rattle.std.specs.Prelude.{slice_index, take}
use Rattle.std.specs.List.{slice_range}
use Rattle.ps_base.specs.declared.limits.TheConstants.{LARGEST_SOURCE, LONGEST_NAME}
use Rattle.ps_base.specs.declared.failing.Fail.{Fail}
use Rattle.ps_base.specs.declared.failing.Fail.TheVariants as fail
use Rattle.ps_base.specs.declared.failing.Refusal.{Refusal}
use Rattle.ps_base.specs.declared.failing.Rule.{Rule}
use Rattle.ps_base.specs.declared.failing.Rule.TheVariants.{L1, L2, L3, L4, L5}
use Rattle.ps_lexer.specs.declared.token.Token.{Token}
use Rattle.ps_lexer.specs.declared.token.Tokens.{Tokens}
use Rattle.ps_lexer.specs.Spelling.{IsIdentifier}
use Rattle.ps_lexer.specs.TimeLiterals.{IsTimeText, IsTimeLiteral}
use Rattle.ps_lexer.specs.Gaps.{is_blank, IsBlockComment, IsLineComment, IsOpenComment, place_after}
use Rattle.ps_lexer.specs.Shapes.{IsShape, IsLongest, Spells}

-- the token's bytes are the longest shape that begins at its place, and spell its form
pub record IsToken (text : List ℕ) (t : Token) : Type 0 where
  pub longest : IsLongest text t.from t.upto
  pub spells : Spells t.form (slice_range text t.from t.upto)
  pub place : t.place ≡ place_after (take t.from text)

-- the bytes from i up to j are, in order, blanks, whole comments and these tokens
pub data Reads (text : List ℕ) : ℕ → List Token → ℕ → Type 0 where
  nothing : {i : ℕ} → Reads text i [] i
  blank : {i j : ℕ} {ts : List Token} → is_blank (slice_index text i) ≡ true → Reads text (i + 1) ts j → Reads text i ts j
  block : {i k j : ℕ} {ts : List Token} → IsBlockComment text i k → Reads text k ts j → Reads text i ts j
  line : {i k j : ℕ} {ts : List Token} → IsLineComment text i k → Reads text k ts j → Reads text i ts j
  token : {i j : ℕ} {ts : List Token} (t : Token) → t.from ≡ i → IsToken text t → Reads text t.upto ts j → Reads text i (t ∷ ts) j

-- The rule is broken at i. L1: no token begins with the byte, and no comment. L2: a comment is not closed. L3: what
-- begins as a TIME literal is none. L4: a name is too long.
abbrev pub Breaks : Rule → List ℕ → ℕ → Type 0
Breaks L1 text i = (i < length text) × (is_blank (slice_index text i) ≡ false) × ((j : ℕ) → i < j → j ≤ length text → IsShape (slice_range text i j) → ⊥)
Breaks L2 text i = IsOpenComment text i
Breaks L3 text i = (j : ℕ) × IsLongest text i j × IsTimeText (slice_range text i j) × ((v : ℕ) → IsTimeLiteral (slice_range text i j) v → ⊥)
Breaks L4 text i = (j : ℕ) × IsLongest text i j × IsIdentifier (slice_range text i j) × (i + LONGEST_NAME < j)
Breaks _ text i = ⊥

-- the text is read up to a place, and there it breaks the rule
pub record BreaksFirst (text : List ℕ) (refusal : Refusal) : Type 0 where
  pub before : List Token
  pub at : ℕ
  pub read : Reads text 0 before at
  pub breaks : Breaks refusal.rule text at
  pub place : refusal.place ≡ place_after (take at text)

-- L5, at line 1 column 1, comes before all else, where the text is too large; then the first rule that is broken
abbrev pub IsRefused : List ℕ → Refusal → Type 0
IsRefused text refusal =
    ((LARGEST_SOURCE < length text) × (refusal ≡ record { rule = L5; place = place_after [] }))
    ⊎ ((length text ≤ LARGEST_SOURCE) × BreaksFirst text refusal)

-- The tokens of a text: the list that reads it whole, with the place one past its last byte, or the refusal. Want of
-- memory is the one free answer.
abbrev pub tokens : List ℕ → Result Tokens Fail → Type 0
tokens text (Ok t) = (length text ≤ LARGEST_SOURCE) × Reads text 0 t.list (length text) × (t.end ≡ place_after text)
tokens text (Err (fail.Refused refusal)) = IsRefused text refusal
tokens text (Err fail.Memory) = Unit {0}

-- the spans of the tokens are in order, within the bytes from i up to j
abbrev pub SpansInOrder : ℕ → List Token → ℕ → Type 0
SpansInOrder i [] j = i ≤ j
SpansInOrder i (t ∷ ts) j = (i ≤ t.from) × (t.from < t.upto) × SpansInOrder t.upto ts j
