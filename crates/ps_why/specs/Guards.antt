-- How the guards of a state decide by what is told of their conditions.
use Rattle.std.specs.Prelude.{◌≡◌, ◌≢◌, ◌⊎◌, ℕ, Bool, true, false, List, [], ◌∷◌, ◌++◌, Contains, not}
use Rattle.std.specs.List.{AllByRecursion}
use Rattle.ps_ways.specs.declared.way.Literal.{Literal}
use Rattle.ps_ways.specs.declared.way.Literal.TheVariants.{Any, Is, Not}
use Rattle.ps_ways.specs.declared.way.Way.{Way}
use Rattle.ps_why.specs.declared.fact.Fact.{Fact}
use Rattle.ps_why.specs.declared.fact.Fact.TheVariants.{AskIs}

-- literals up to the first that asks nothing
abbrev pub before_any : List Literal → List Literal
before_any [] = []
before_any (Any ∷ ls) = []
before_any (Is a ∷ ls) = Is a ∷ before_any ls
before_any (Not a ∷ ls) = Not a ∷ before_any ls

-- the three literals of a way
abbrev pub literals : Way → List Literal
literals w = w.first ∷ w.second ∷ w.third ∷ []

-- what a way asks
abbrev pub asked : Way → List Literal
asked w = before_any (literals w)

-- `told`: the facts that are told; k: the step that calls
module _ (told : Fact → Type 0) (k : ℕ) where
  -- It is told whether a literal holds.
  abbrev pub LiteralIs : Literal → Bool → Type 0
  LiteralIs Any b = b ≡ true
  LiteralIs (Is a) b = told (AskIs k a b)
  LiteralIs (Not a) b = told (AskIs k a (not b))

  -- Of a way is told that all holds that it asks.
  abbrev pub IsOpen : Way → Type 0
  IsOpen w = AllByRecursion (λ l. LiteralIs l true) (asked w)

  -- Of a way is told that something does not hold that it asks.
  abbrev pub IsClosed : Way → Type 0
  IsClosed w = (l : Literal) × Contains (asked w) l × LiteralIs l false

  -- A way does not lead out of state q: it is none of that state, or is closed.
  abbrev pub IsPassed : (q : ℕ) → Way → Type 0
  IsPassed q w = (w.state ≢ q) ⊎ IsClosed w

  -- State q is left for q': by an open way of it before which no other leads out.
  pub record IsLeft (ways : List Way) (q q' : ℕ) : Type 0 where
    pub before : List Way
    pub way : Way
    pub behind : List Way
    pub order : ways ≡ before ++ way ∷ behind
    pub passed : AllByRecursion (IsPassed q) before
    pub of_state : way.state ≡ q
    pub open_way : IsOpen way
    pub leads : way.next ≡ q'

  -- State q stays: no way leads out of it.
  abbrev pub IsKept : List Way → (q q' : ℕ) → Type 0
  IsKept ways q q' = AllByRecursion (IsPassed q) ways × (q' ≡ q)

  -- The guards decide that state q' stands after state q.
  abbrev pub Decides : List Way → (q q' : ℕ) → Type 0
  Decides ways q q' = IsLeft ways q q' ⊎ IsKept ways q q'
