-- How reading and refusing compose: of one phrase or another, and of some phrases or none.
use Rattle.std.proofs.Common.{◌≡◌, ℕ, suc, ◌≤◌, ◌⊎◌, inl, inr, Bool, true, List, [], ◌∷◌, ◌++◌, Some, take, refl, sym, ap, ◌∙◌, subst}
use Rattle.ps_parser.specs.declared.stop.Flaw.TheVariants.{Unexpected, TooDeep}
use Rattle.ps_parser.specs.Symbol.{Symbol}
use Rattle.ps_parser.specs.Phrase.{next, Stops, Phrase, Reads, Begins, Blocks, Deeper, optional, either}
use Rattle.ps_parser.proofs.Phrases.{EndsAt, Lawful, IsFirst, first_contradiction, first_alike, stops_alike}
use Rattle.ps_parser.proofs.Joints.{Carries}

-- every phrase of the kind begins with one of the first symbols
abbrev pub Opens : {X : Type 0} → Phrase X → (Symbol → Bool) → Type 0
Opens {X} g first = (n : ℕ) (x : X) → g.fits n x → (t : Symbol) × (ts : List Symbol) × (g.spell x ≡ t ∷ ts) × (first t ≡ true)

pub opens_first : {X : Type 0} (g : Phrase X) (first : Symbol → Bool) → Opens g first → (n : ℕ) (x : X) (after : List Symbol) → g.fits n x → IsFirst first (g.spell x ++ after)
opens_first g first opens n x after fits = let b = opens n x fits in (b.0, ap (λ l. next (l ++ after)) b.2, b.3)

-- no symbol is one of both
abbrev pub Apart : (Symbol → Bool) → (Symbol → Bool) → Type 0
Apart first second = (t : Symbol) → first t ≡ true → second t ≡ true → ⊥

pub apart_texts : (first second : Symbol → Bool) (ts : List Symbol) → Apart first second → IsFirst first ts → IsFirst second ts → ⊥
apart_texts first second ts apart h k =
    let e : Some h.0 ≡ Some k.0 = sym h.1 ∙ k.1 in
    let same : h.0 ≡ k.0 = cc in
    apart k.0 (ap first (sym same) ∙ h.2) k.2

module _ {X Y : Type 0} (a : Phrase X) (b : Phrase Y) (first second : Symbol → Bool) (opens_a : Opens a first) (opens_b : Opens b second) (apart : Apart first second) where
  ends_either : (n : ℕ) → EndsAt a n → EndsAt b n → EndsAt (either a b) n
  ends_either n ea eb (inl x) (inl y) r q fx fy sx sy e = let h = ea x y r q fx fy sx sy e in (ap inl h.0, h.1)
  ends_either n ea eb (inl x) (inr y) r q fx fy sx sy e =
      absurd (apart_texts first second (b.spell y ++ q) apart (subst (IsFirst first) e (opens_first a first opens_a n x r fx)) (opens_first b second opens_b n y q fy))
  ends_either n ea eb (inr x) (inl y) r q fx fy sx sy e =
      absurd (apart_texts first second (a.spell y ++ q) apart (opens_first a first opens_a n y q fy) (subst (IsFirst second) e (opens_first b second opens_b n x r fx)))
  ends_either n ea eb (inr x) (inr y) r q fx fy sx sy e = let h = eb x y r q fx fy sx sy e in (ap inr h.0, h.1)

  either_fits_deeper : Lawful a → Lawful b → (n m : ℕ) (z : X ⊎ Y) → n ≤ m → (either a b).fits n z → (either a b).fits m z
  either_fits_deeper la lb n m (inl x) le f = la.fits_deeper n m x le f
  either_fits_deeper la lb n m (inr y) le f = lb.fits_deeper n m y le f

  pub either_lawful : Lawful a → Lawful b → Lawful (either a b)
  either_lawful la lb = record {
    fits_deeper = either_fits_deeper la lb;
    ends = λ n. ends_either n (la.ends n) (lb.ends n);
    some = inl la.some;
    some_fits = la.some_fits;
    some_proper = la.some_proper;
  }

  begins_left : (n : ℕ) (front : List Symbol) → Begins a n front → Begins (either a b) n front
  begins_left n front h = record { tree = inl h.tree; more = h.more; whole = h.whole; proper = h.proper; spelled = h.spelled }

  begins_right : (n : ℕ) (front : List Symbol) → Begins b n front → Begins (either a b) n front
  begins_right n front h = record { tree = inr h.tree; more = h.more; whole = h.whole; proper = h.proper; spelled = h.spelled }

  blocks_left : (n : ℕ) (front rest : List Symbol) → Stops second (front ++ rest) → Blocks a n front rest → Blocks (either a b) n front rest
  blocks_left n front rest absent blocks (inl x) after other fits stops e same = blocks x after other fits stops e same
  blocks_left n front rest absent blocks (inr y) after other fits stops e same =
      first_contradiction second (front ++ other) (stops_alike second front rest other absent same) (subst (IsFirst second) e (opens_first b second opens_b n y after fits))

  blocks_right : (n : ℕ) (front rest : List Symbol) → Stops first (front ++ rest) → Blocks b n front rest → Blocks (either a b) n front rest
  blocks_right n front rest absent blocks (inr y) after other fits stops e same = blocks y after other fits stops e same
  blocks_right n front rest absent blocks (inl x) after other fits stops e same =
      first_contradiction first (front ++ other) (stops_alike first front rest other absent same) (subst (IsFirst first) e (opens_first a first opens_a n x after fits))

  -- where none of the second kind begins, what the first refuses is refused
  pub refuses_left : (limit : ℕ) (ts : List Symbol) → Stops second ts → Carries a (either a b) limit limit ts ts
  refuses_left limit ts absent flaw rest h = record {
    front = h.front;
    split = h.split;
    begins = begins_left limit h.front h.begins;
    blocks = λ n out. blocks_left n h.front rest (subst (Stops second) h.split absent) (h.blocks n out);
    bracket = h.bracket;
    deeper = elim flaw as (λ r. Deeper a r limit (h.front ++ take 1 rest) → Deeper (either a b) r limit (h.front ++ take 1 rest)) [ Unexpected ↦ λ d. tt | TooDeep ↦ λ d. begins_left (suc limit) (h.front ++ take 1 rest) d ] h.deeper;
  }

  pub refuses_right : (limit : ℕ) (ts : List Symbol) → Stops first ts → Carries b (either a b) limit limit ts ts
  refuses_right limit ts absent flaw rest h = record {
    front = h.front;
    split = h.split;
    begins = begins_right limit h.front h.begins;
    blocks = λ n out. blocks_right n h.front rest (subst (Stops first) h.split absent) (h.blocks n out);
    bracket = h.bracket;
    deeper = elim flaw as (λ r. Deeper b r limit (h.front ++ take 1 rest) → Deeper (either a b) r limit (h.front ++ take 1 rest)) [ Unexpected ↦ λ d. tt | TooDeep ↦ λ d. begins_right (suc limit) (h.front ++ take 1 rest) d ] h.deeper;
  }

  pub reads_left : (limit : ℕ) (ts rest : List Symbol) (x : X) → Reads a limit ts x rest → Reads (either a b) limit ts (inl x) rest
  reads_left limit ts rest x h = record { whole = h.whole; spelled = h.spelled; longest = h.longest }

  pub reads_right : (limit : ℕ) (ts rest : List Symbol) (y : Y) → Reads b limit ts y rest → Reads (either a b) limit ts (inr y) rest
  reads_right limit ts rest y h = record { whole = h.whole; spelled = h.spelled; longest = h.longest }

  -- what either begins with
  pub opens_either : (any : Symbol → Bool) → ((t : Symbol) → first t ≡ true → any t ≡ true) → ((t : Symbol) → second t ≡ true → any t ≡ true) → Opens (either a b) any
  opens_either any wa wb n (inl x) fits = let h = opens_a n x fits in (h.0, h.1, h.2, wa h.0 h.3)
  opens_either any wa wb n (inr y) fits = let h = opens_b n y fits in (h.0, h.1, h.2, wb h.0 h.3)

module _ {X : Type 0} (g : Phrase (List X)) (first : Symbol → Bool) (opens : Opens g first) (some_one : (n : ℕ) → g.fits n [] → ⊥) where
  ends_optional : (n : ℕ) → EndsAt g n → EndsAt (optional g first) n
  ends_optional n ends [] [] r q fx fy sx sy e = (refl, e)
  ends_optional n ends [] (y ∷ ys) r q fx fy sx sy e = absurd (first_contradiction first r sx (subst (IsFirst first) (sym e) (opens_first g first opens n (y ∷ ys) q fy)))
  ends_optional n ends (x ∷ xs) [] r q fx fy sx sy e = absurd (first_contradiction first q sy (subst (IsFirst first) e (opens_first g first opens n (x ∷ xs) r fx)))
  ends_optional n ends (x ∷ xs) (y ∷ ys) r q fx fy sx sy e = ends (x ∷ xs) (y ∷ ys) r q fx fy sx sy e

  optional_fit_deeper : Lawful g → (n m : ℕ) (xs : List X) → n ≤ m → (optional g first).fits n xs → (optional g first).fits m xs
  optional_fit_deeper law n m [] le f = tt
  optional_fit_deeper law n m (x ∷ xs) le f = law.fits_deeper n m (x ∷ xs) le f

  pub optional_lawful : Lawful g → Lawful (optional g first)
  optional_lawful law = record {
    fits_deeper = optional_fit_deeper law;
    ends = λ n. ends_optional n (law.ends n);
    some = [];
    some_fits = tt;
    some_proper = tt;
  }

  begins_present : (n : ℕ) (front : List Symbol) → Begins g n front → Begins (optional g first) n front
  begins_present n front h = some_list h.tree h.whole h.spelled
    where
      some_list : (xs : List X) → g.fits n xs → g.spell xs ≡ front ++ h.more → Begins (optional g first) n front
      some_list [] fits e = absurd (some_one n fits)
      some_list (x ∷ xs) fits e = record { tree = x ∷ xs; more = h.more; whole = fits; proper = h.proper; spelled = e }

  blocks_present : (n : ℕ) (front rest : List Symbol) → IsFirst first (front ++ rest) → Blocks g n front rest → Blocks (optional g first) n front rest
  blocks_present n front rest begun blocks [] after other fits stops e same = first_contradiction first after stops (subst (IsFirst first) (sym e) (first_alike first front rest other begun same))
  blocks_present n front rest begun blocks (x ∷ xs) after other fits stops e same = blocks (x ∷ xs) after other fits stops e same

  pub refuses_present : (limit : ℕ) (ts : List Symbol) → IsFirst first ts → Carries g (optional g first) limit limit ts ts
  refuses_present limit ts begun flaw rest h = record {
    front = h.front;
    split = h.split;
    begins = begins_present limit h.front h.begins;
    blocks = λ n out. blocks_present n h.front rest (subst (IsFirst first) h.split begun) (h.blocks n out);
    bracket = h.bracket;
    deeper = elim flaw as (λ r. Deeper g r limit (h.front ++ take 1 rest) → Deeper (optional g first) r limit (h.front ++ take 1 rest)) [ Unexpected ↦ λ d. tt | TooDeep ↦ λ d. begins_present (suc limit) (h.front ++ take 1 rest) d ] h.deeper;
  }

  pub reads_absent : (limit : ℕ) (ts : List Symbol) → Stops first ts → Reads (optional g first) limit ts [] ts
  reads_absent limit ts s = record { whole = tt; spelled = refl; longest = s }

  pub reads_present : (limit : ℕ) (ts rest : List Symbol) (xs : List X) → Reads g limit ts xs rest → Reads (optional g first) limit ts xs rest
  reads_present limit ts rest [] h = absurd (some_one limit h.whole)
  reads_present limit ts rest (x ∷ xs) h = record { whole = h.whole; spelled = h.spelled; longest = h.longest }
