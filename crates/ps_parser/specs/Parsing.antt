-- What the parser answers.
use Rattle.std.specs.Prelude.{◌≡◌, ℕ, ◌≤◌, length, List, ◌++◌, drop, Result, Ok, Err}
use Rattle.std.specs.List.{slice_range}
use Rattle.ps_base.specs.declared.failing.Fail.{Fail}
use Rattle.ps_base.specs.declared.failing.Fail.TheVariants.{Memory, Refused}
use Rattle.ps_base.specs.declared.failing.Place.{Place}
use Rattle.ps_base.specs.declared.failing.Refusal.{Refusal}
use Rattle.ps_lexer.specs.declared.token.Token.{Token}
use Rattle.ps_lexer.specs.declared.token.Tokens.{Tokens}
use Rattle.ps_parser.specs.declared.heads.Heads.{Heads}
use Rattle.ps_parser.specs.Names.{IsPlainName}
use Rattle.ps_parser.specs.Tree.{SourceTree}
use Rattle.ps_parser.specs.Spelt.{spelt}
use Rattle.ps_parser.specs.Whole.{IsWhole, nesting}
use Rattle.ps_parser.specs.Language.{Language, IsSpelt, IsRefused}

-- A source of the grammar, whose groups are nested at most so deep.
pub record IsSourceWithin (depth : ℕ) (s : SourceTree) : Type 0 where
  pub grammatical : IsWhole IsPlainName s
  pub nested : nesting s ≤ depth

-- the language of the sources between two words
abbrev pub sources : Heads → Language SourceTree
sources h = record { within = IsSourceWithin; spelt = spelt h }

-- The tokens from one number up to another are the spelling of this source.
pub record IsSpeltBetween (h : Heads) (tokens : List Token) (at next : ℕ) (s : SourceTree) : Type 0 where
  pub ahead : at ≤ next
  pub inside : next ≤ length tokens
  pub spelling : IsSpelt (sources h) (slice_range tokens at next) s

-- No source is spelt at the front of the tokens, and they are refused.
pub record IsRefusedFrom (h : Heads) (tokens : List Token) (end : Place) (refusal : Refusal) : Type 0 where
  pub none : (front rest : List Token) (s : SourceTree) → tokens ≡ front ++ rest → IsSpelt (sources h) front s → ⊥
  pub refused : IsRefused (sources h) tokens end refusal

-- The source from a number on and the number of the token after it; or the refusal, where no source is spelt from
-- there.
abbrev pub AnswersFrom : Heads → Tokens → ℕ → Result (SourceTree × ℕ) Fail → Type 0
AnswersFrom h tokens at (Ok r) = IsSpeltBetween h tokens.list at r.1 r.0
AnswersFrom h tokens at (Err Memory) = Unit {0}
AnswersFrom h tokens at (Err (Refused refusal)) = IsRefusedFrom h (drop at tokens.list) tokens.end refusal
