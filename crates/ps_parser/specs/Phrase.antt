-- Phrases of a grammar: what a text that is read from the left can say of one.
use Rattle.std.specs.Prelude.{◌≡◌, ℕ, suc, ◌≤◌, ◌⊎◌, Bool, true, false, ◌||◌, List, [], ◌∷◌, ◌++◌, Option, Some, None}
use Rattle.std.specs.Prelude.{take}
use Rattle.std.proofs.Common.{inl, inr}
use Rattle.std.specs.List.{flat_map, AllByRecursion}
use Rattle.ps_parser.specs.declared.stop.Flaw.{Flaw}
use Rattle.ps_parser.specs.declared.stop.Flaw.TheVariants.{Unexpected, TooDeep}
use Rattle.ps_parser.specs.declared.sign.Sign.TheVariants.{LeftBracket}
use Rattle.ps_parser.specs.Symbol.{Symbol, Mark, AllProper}
use Rattle.ps_parser.specs.Spelt.{joined_spell}

-- the first symbol
abbrev pub next : List Symbol → Option Symbol
next [] = None
next (t ∷ ts) = Some t

-- the text ends here, or a symbol stands next that does not go on
abbrev pub Stops : (Symbol → Bool) → List Symbol → Type 0
Stops goes_on [] = Unit {0}
Stops goes_on (t ∷ ts) = goes_on t ≡ false

-- A kind of phrase: which trees are whole ones, with groups nested at most so deep; how each is spelt;
-- and which symbols would go on with it.
pub record Phrase (X : Type 0) : Type 1 where
  pub fits : ℕ → X → Type 0
  pub spell : X → List Symbol
  pub goes_on : X → Symbol → Bool

-- ts is the spelling of x and then rest, which does not go on with x
pub record Reads {X : Type 0} (g : Phrase X) (limit : ℕ) (ts : List Symbol) (x : X) (rest : List Symbol) : Type 0 where
  pub whole : g.fits limit x
  pub spelled : ts ≡ g.spell x ++ rest
  pub longest : Stops (g.goes_on x) rest

-- front is the front of a phrase's spelling
pub record Begins {X : Type 0} (g : Phrase X) (limit : ℕ) (front : List Symbol) : Type 0 where
  pub tree : X
  pub more : List Symbol
  pub whole : g.fits limit tree
  pub proper : AllProper more
  pub spelled : g.spell tree ≡ front ++ more

-- no phrase, whatever follows it, is spelt with front and then what stands next in rest
abbrev pub Blocks : {X : Type 0} → Phrase X → ℕ → List Symbol → List Symbol → Type 0
Blocks {X} g limit front rest =
    (x : X) (after other : List Symbol) → g.fits limit x → Stops (g.goes_on x) after → g.spell x ++ after ≡ front ++ other → next other ≡ next rest → ⊥

-- an unexpected symbol rules out phrases of any depth, one that is too deep those within the limit
abbrev pub IsRuledOut : Flaw → ℕ → ℕ → Type 0
IsRuledOut Unexpected limit depth = Unit {0}
IsRuledOut TooDeep limit depth = depth ≤ limit

-- where a group is too deep, one more level of groups would go on
abbrev pub Deeper : {X : Type 0} → Phrase X → Flaw → ℕ → List Symbol → Type 0
Deeper g Unexpected limit front = Unit {0}
Deeper g TooDeep limit front = Begins g (suc limit) front

-- a group that is too deep begins with its bracket
abbrev pub BracketIfTooDeep : Flaw → List Symbol → Type 0
BracketIfTooDeep Unexpected rest = Unit {0}
BracketIfTooDeep TooDeep rest = next rest ≡ Some (Mark LeftBracket)

-- the first symbol of rest is refused, and all before it is the front of a phrase
pub record Refuses {X : Type 0} (g : Phrase X) (limit : ℕ) (flaw : Flaw) (ts rest : List Symbol) : Type 0 where
  pub front : List Symbol
  pub split : ts ≡ front ++ rest
  pub begins : Begins g limit front
  pub blocks : (depth : ℕ) → IsRuledOut flaw limit depth → Blocks g depth front rest
  pub deeper : Deeper g flaw limit (front ++ take 1 rest)
  pub bracket : BracketIfTooDeep flaw rest

-- one phrase and then another
infixl 10 ◌then◌
abbrev pub ◌then◌ : {X Y : Type 0} → Phrase X → Phrase Y → Phrase (X × Y)
a then b = record {
  fits = λ n p. a.fits n p.0 × b.fits n p.1;
  spell = λ p. a.spell p.0 ++ b.spell p.1;
  goes_on = λ p. b.goes_on p.1;
}

-- one symbol
abbrev pub just : Symbol → Phrase (Unit {0})
just t = record { fits = λ _ _. Unit {0}; spell = λ _. t ∷ []; goes_on = λ _ _. false }

-- the end of the text
abbrev pub finish : Phrase (Unit {0})
finish = record { fits = λ _ _. Unit {0}; spell = λ _. []; goes_on = λ _ _. true }

-- what goes on with a list of phrases, of which each begins with one of the first symbols
abbrev pub goes_on_many : {X : Type 0} → (X → Symbol → Bool) → (Symbol → Bool) → List X → Symbol → Bool
goes_on_many goes first [] t = first t
goes_on_many goes first (x ∷ []) t = first t || goes x t
goes_on_many goes first (x ∷ y ∷ xs) t = goes_on_many goes first (y ∷ xs) t

-- any number of phrases, of which each begins with one of the first symbols
abbrev pub many : {X : Type 0} → Phrase X → (Symbol → Bool) → Phrase (List X)
many a first = record {
  fits = λ n xs. AllByRecursion (a.fits n) xs;
  spell = flat_map a.spell;
  goes_on = goes_on_many a.goes_on first;
}

-- a sign, and a phrase after it
abbrev pub behind : {X : Type 0} → Symbol → Phrase X → Phrase X
behind t g = record { fits = g.fits; spell = λ x. t ∷ g.spell x; goes_on = g.goes_on }

-- one at least, and each as asked for
abbrev pub JoinedFits : {X : Type 0} → (X → Type 0) → List X → Type 0
JoinedFits P [] = ⊥
JoinedFits P (x ∷ xs) = P x × AllByRecursion P xs

-- one or more phrases, with the sign between each two
abbrev pub joined : {X : Type 0} → Symbol → (Symbol → Bool) → Phrase X → Phrase (List X)
joined t is_sign g = record {
  fits = λ n xs. JoinedFits (g.fits n) xs;
  spell = joined_spell t g.spell;
  goes_on = goes_on_many g.goes_on is_sign;
}

-- nothing, or phrases that fit
abbrev pub fits_optional : {X : Type 0} → (List X → Type 0) → List X → Type 0
fits_optional P [] = Unit {0}
fits_optional P (x ∷ xs) = P (x ∷ xs)

-- nothing, or their spelling
abbrev pub spell_optional : {X : Type 0} → (List X → List Symbol) → List X → List Symbol
spell_optional spell [] = []
spell_optional spell (x ∷ xs) = spell (x ∷ xs)

-- one of the first symbols goes on with nothing
abbrev pub goes_on_optional : {X : Type 0} → (List X → Symbol → Bool) → (Symbol → Bool) → List X → Symbol → Bool
goes_on_optional goes first [] = first
goes_on_optional goes first (x ∷ xs) = goes (x ∷ xs)

-- nothing, or some phrases, which begin with one of the first symbols
abbrev pub optional : {X : Type 0} → Phrase (List X) → (Symbol → Bool) → Phrase (List X)
optional g first = record {
  fits = λ n. fits_optional (g.fits n);
  spell = spell_optional g.spell;
  goes_on = goes_on_optional g.goes_on first;
}

-- a phrase of one kind or of another that fits
abbrev pub fits_either : {X Y : Type 0} → (X → Type 0) → (Y → Type 0) → X ⊎ Y → Type 0
fits_either P Q (inl x) = P x
fits_either P Q (inr y) = Q y

-- what one function gives of one kind, or another of the other kind
abbrev pub of_either : {X Y Z : Type 0} → (X → Z) → (Y → Z) → X ⊎ Y → Z
of_either f g (inl x) = f x
of_either f g (inr y) = g y

-- a phrase of one kind, or of another
abbrev pub either : {X Y : Type 0} → Phrase X → Phrase Y → Phrase (X ⊎ Y)
either a b = record {
  fits = λ n. fits_either (a.fits n) (b.fits n);
  spell = of_either a.spell b.spell;
  goes_on = of_either a.goes_on b.goes_on;
}

-- the phrases of one kind, seen as those of another
abbrev pub seen : {X Y : Type 0} → (Y → X) → Phrase X → Phrase Y
seen view g = record { fits = λ n y. g.fits n (view y); spell = λ y. g.spell (view y); goes_on = λ y. g.goes_on (view y) }
