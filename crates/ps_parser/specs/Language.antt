-- A language: trees that are spelt with symbols; which tokens spell one of them, and which are refused.
use Rattle.std.specs.Prelude.{◌≡◌, ℕ, suc, List, [], ◌∷◌, ◌++◌, Result, Ok, Err}
use Rattle.ps_base.specs.declared.failing.Fail.{Fail}
use Rattle.ps_base.specs.declared.failing.Fail.TheVariants.{Memory, Refused}
use Rattle.ps_base.specs.declared.failing.Place.{Place}
use Rattle.ps_base.specs.declared.failing.Refusal.{Refusal}
use Rattle.ps_base.specs.declared.failing.Rule.{Rule}
use Rattle.ps_base.specs.declared.failing.Rule.TheVariants.{P1, P2}
use Rattle.ps_base.specs.declared.limits.TheConstants.{MOST_GROUPS}
use Rattle.ps_lexer.specs.declared.token.Token.{Token}
use Rattle.ps_lexer.specs.declared.token.Tokens.{Tokens}
use Rattle.ps_parser.specs.declared.sign.Sign.TheVariants.{LeftBracket}
use Rattle.ps_parser.specs.Symbol.{Symbol, Mark, symbols}

-- Which trees are in the language, with groups nested at most so deep, and how each is spelt.
pub record Language (X : Type 0) : Type 1 where
  pub within : ℕ → X → Type 0
  pub spelt : X → List Symbol

-- The symbols are the front of the spelling of a tree whose groups are nested at most so deep.
pub record BeginsTree {X : Type 0} (language : Language X) (depth : ℕ) (front : List Symbol) : Type 0 where
  pub tree : X
  pub more : List Symbol
  pub within : language.within depth tree
  pub spelling : language.spelt tree ≡ front ++ more

-- P1, at the end: the symbols are no tree of any depth; at a symbol: with it they begin no tree of any depth.
-- P2: the symbol is a bracket, and with it they begin a tree that is nested one group too deep, and none that is not.
abbrev pub Breaks : {X : Type 0} → Rule → Language X → List Symbol → List Symbol → Type 0
Breaks {X} P1 language front [] = (depth : ℕ) (tree : X) → language.within depth tree → language.spelt tree ≡ front → ⊥
Breaks {X} P1 language front (t ∷ rest) = (depth : ℕ) → BeginsTree language depth (front ++ t ∷ []) → ⊥
Breaks {X} P2 language front [] = ⊥
Breaks {X} P2 language front (t ∷ rest) = (t ≡ Mark LeftBracket) × BeginsTree language (suc MOST_GROUPS) (front ++ t ∷ []) × (BeginsTree language MOST_GROUPS (front ++ t ∷ []) → ⊥)
Breaks {X} _ language front rest = ⊥

-- the place of the first token, or the end of the text
abbrev pub place_at : List Token → Place → Place
place_at [] end = end
place_at (t ∷ rest) end = t.place

-- The tokens before rest begin a tree; what stands next breaks the rule, at its place.
pub record IsRefused {X : Type 0} (language : Language X) (tokens : List Token) (end : Place) (refusal : Refusal) : Type 0 where
  pub front : List Token
  pub rest : List Token
  pub split : tokens ≡ front ++ rest
  pub begins : BeginsTree language MOST_GROUPS (symbols front)
  pub breaks : Breaks refusal.rule language (symbols front) (symbols rest)
  pub place : refusal.place ≡ place_at rest end

-- The tokens are the spelling of this tree, whose groups are nested at most `MOST_GROUPS` deep.
pub record IsSpelt {X : Type 0} (language : Language X) (tokens : List Token) (tree : X) : Type 0 where
  pub within : language.within MOST_GROUPS tree
  pub spelling : symbols tokens ≡ language.spelt tree

-- The tree that all tokens spell, or the refusal.
abbrev pub Answers : {X : Type 0} → Language X → Tokens → Result X Fail → Type 0
Answers language tokens (Ok tree) = IsSpelt language tokens.list tree
Answers language tokens (Err Memory) = Unit {0}
Answers language tokens (Err (Refused refusal)) = IsRefused language tokens.list tokens.end refusal
