-- What a function that reads a phrase answers.
use Rattle.std.specs.Prelude.{ℕ, Bool, false, List, [], ◌∷◌, Result, Ok, Err}
use Rattle.ps_base.specs.declared.failing.Rule.{Rule}
use Rattle.ps_base.specs.declared.failing.Rule.TheVariants.{P1, P2}
use Rattle.ps_parser.specs.declared.stop.Flaw.{Flaw}
use Rattle.ps_parser.specs.declared.stop.Flaw.TheVariants.{Unexpected, TooDeep}
use Rattle.ps_parser.specs.declared.stop.Stop.{Stop}
use Rattle.ps_parser.specs.declared.stop.Stop.TheVariants.{Memory, Refused}
use Rattle.ps_parser.specs.Symbol.{Symbol, symbols}
use Rattle.ps_parser.specs.Phrase.{Phrase, Reads, Refuses}

-- no memory, or what is wrong, and the tokens from the refused one on
abbrev pub Stopped : {X : Type 0} → Phrase X → ℕ → List Symbol → Stop → Type 0
Stopped g limit ts Memory = Unit {0}
Stopped g limit ts (Refused flaw left) = Refuses g limit flaw ts (symbols left.now)

-- the phrase, and the tokens after it
abbrev pub Parses : {R X : Type 0} → Phrase X → ℕ → List Symbol → (R → X) → (R → List Symbol) → Result R Stop → Type 0
Parses g limit ts tree rest (Ok r) = Reads g limit ts (tree r) (rest r)
Parses g limit ts tree rest (Err e) = Stopped g limit ts e

-- the rule that a flaw breaks
abbrev pub rule_of : Flaw → Rule
rule_of Unexpected = P1
rule_of TooDeep = P2

-- whether one of these symbols stands next
abbrev pub stands_next : (Symbol → Bool) → List Symbol → Bool
stands_next first [] = false
stands_next first (t ∷ ts) = first t
