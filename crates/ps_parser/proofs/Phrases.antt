-- How reading and refusing compose: of a phrase after a phrase, of a list of phrases, of one token.
use Rattle.std.proofs.Common.{◌≡◌, ℕ, suc, ◌+◌, ◌≤◌, ◌<◌, length, Bool, true, false, ◌||◌, List, [], ◌∷◌, ◌++◌, Some, None, take, refl, sym, ap, ◌∙◌, subst, append_assoc, arith}
use Rattle.std.specs.List.{flat_map, AllByRecursion}
use Rattle.std.proofs.lemmas.List.{append-nil}
use Rattle.std.proofs.lemmas.Grind.{flat_map-append}
use Rattle.ps_parser.specs.declared.stop.Flaw.{Flaw}
use Rattle.ps_parser.specs.declared.stop.Flaw.TheVariants.{Unexpected, TooDeep}
use Rattle.ps_parser.specs.Symbol.{Symbol, AllProper, IsProper}
use Rattle.ps_parser.specs.Spelt.{joined_spell}
use Rattle.ps_parser.specs.Phrase.{next, Stops, Phrase, Reads, Begins, Blocks, Deeper, Refuses, ◌then◌, just, finish, goes_on_many, many, behind, JoinedFits, joined, seen}

-- two texts with one front, which go on alike, stop alike
pub stops_alike : (goes : Symbol → Bool) (front rest other : List Symbol) → Stops goes (front ++ rest) → next other ≡ next rest → Stops goes (front ++ other)
stops_alike goes [] [] [] h e = tt
stops_alike goes [] [] (o ∷ other) h e = cc
stops_alike goes [] (r ∷ rest) [] h e = tt
stops_alike goes [] (r ∷ rest) (o ∷ other) h e = cc
stops_alike goes (f ∷ front) rest other h e = h

-- from a spelling the phrase can be told, and where it ends
abbrev pub EndsAt : {X : Type 0} → Phrase X → ℕ → Type 0
EndsAt {X} g n = (x y : X) (r q : List Symbol) → g.fits n x → g.fits n y → Stops (g.goes_on x) r → Stops (g.goes_on y) q → g.spell x ++ r ≡ g.spell y ++ q → (x ≡ y) × (r ≡ q)

pub proper_append : (xs ys : List Symbol) → AllProper xs → AllProper ys → AllProper (xs ++ ys)
proper_append [] ys h k = k
proper_append (x ∷ xs) ys h k = (h.0, proper_append xs ys h.1 k)

-- What a kind of phrase keeps: more groups may be nested, a spelling ends at one place, and there is a phrase.
pub record Lawful {X : Type 0} (g : Phrase X) : Type 0 where
  pub fits_deeper : (n m : ℕ) (x : X) → n ≤ m → g.fits n x → g.fits m x
  pub ends : (n : ℕ) → EndsAt g n
  pub some : X
  pub some_fits : g.fits 0 some
  pub some_proper : AllProper (g.spell some)

-- the end is the same where the two phrases are nested differently
pub ends_between : {X : Type 0} {g : Phrase X} (law : Lawful g) (n m : ℕ) (x y : X) (r q : List Symbol) → g.fits n x → g.fits m y → Stops (g.goes_on x) r → Stops (g.goes_on y) q → g.spell x ++ r ≡ g.spell y ++ q → (x ≡ y) × (r ≡ q)
ends_between law n m x y r q fx fy sx sy e =
    law.ends (n + m) x y r q (law.fits_deeper n (n + m) x (omega arith) fx) (law.fits_deeper m (n + m) y (omega arith) fy) sx sy e

pub some_at : {X : Type 0} {g : Phrase X} (law : Lawful g) (n : ℕ) → g.fits n law.some
some_at law n = law.fits_deeper 0 n law.some (omega arith) law.some_fits

-- no token that goes on with an a begins a b, nor what may follow an empty b
abbrev pub Meets : {X Y : Type 0} → Phrase X → Phrase Y → Type 0
Meets {X} {Y} a b = (n : ℕ) (x : X) (y : Y) (after : List Symbol) → b.fits n y → Stops (b.goes_on y) after → Stops (a.goes_on x) (b.spell y ++ after)

module _ {X Y : Type 0} (a : Phrase X) (b : Phrase Y) (meets : Meets a b) where
  pub ends_then : (n : ℕ) → EndsAt a n → EndsAt b n → EndsAt (a then b) n
  ends_then n ea eb p q r s fp fq sp sq e =
      let assoc : a.spell p.0 ++ (b.spell p.1 ++ r) ≡ a.spell q.0 ++ (b.spell q.1 ++ s) = sym (append_assoc (a.spell p.0) (b.spell p.1) r) ∙ e ∙ append_assoc (a.spell q.0) (b.spell q.1) s in
      let first = ea p.0 q.0 (b.spell p.1 ++ r) (b.spell q.1 ++ s) fp.0 fq.0 (meets n p.0 p.1 r fp.1 sp) (meets n q.0 q.1 s fq.1 sq) assoc in
      let second = eb p.1 q.1 r s fp.1 fq.1 sp sq first.1 in
      ((λ i. (first.0 i, second.0 i)), second.1)

  pub then_lawful : Lawful a → Lawful b → Lawful (a then b)
  then_lawful la lb = record {
    fits_deeper = λ n m p le f. (la.fits_deeper n m p.0 le f.0, lb.fits_deeper n m p.1 le f.1);
    ends = λ n. ends_then n (la.ends n) (lb.ends n);
    some = (la.some, lb.some);
    some_fits = (la.some_fits, lb.some_fits);
    some_proper = proper_append (a.spell la.some) (b.spell lb.some) la.some_proper lb.some_proper;
  }

  pub reads_then : (limit : ℕ) (ts mid rest : List Symbol) (x : X) (y : Y) → Reads a limit ts x mid → Reads b limit mid y rest → Reads (a then b) limit ts (x, y) rest
  reads_then limit ts mid rest x y ra rb = record {
    whole = (ra.whole, rb.whole);
    spelled = ra.spelled ∙ ap (λ l. a.spell x ++ l) rb.spelled ∙ sym (append_assoc (a.spell x) (b.spell y) rest);
    longest = rb.longest;
  }

  begins_first : Lawful b → (n : ℕ) (front : List Symbol) → Begins a n front → Begins (a then b) n front
  begins_first lb n front h =
      record {
        tree = (h.tree, lb.some);
        more = h.more ++ b.spell lb.some;
        whole = (h.whole, some_at lb n);
        proper = proper_append h.more (b.spell lb.some) h.proper lb.some_proper;
        spelled = ap (λ l. l ++ b.spell lb.some) h.spelled ∙ append_assoc front h.more (b.spell lb.some);
      }

  begins_second : (n : ℕ) (x : X) (front : List Symbol) → a.fits n x → Begins b n front → Begins (a then b) n (a.spell x ++ front)
  begins_second n x front f h =
      record { tree = (x, h.tree); more = h.more; whole = (f, h.whole); proper = h.proper; spelled = ap (λ l. a.spell x ++ l) h.spelled ∙ sym (append_assoc (a.spell x) front h.more) }

  pub refuses_first : Lawful b → (limit : ℕ) (flaw : Flaw) (ts rest : List Symbol) → Refuses a limit flaw ts rest → Refuses (a then b) limit flaw ts rest
  refuses_first lb limit flaw ts rest h = record {
    front = h.front;
    split = h.split;
    begins = begins_first lb limit h.front h.begins;
    blocks = λ n out p after other fits stops e same.
        h.blocks n out p.0 (b.spell p.1 ++ after) other fits.0 (meets n p.0 p.1 after fits.1 stops) (sym (append_assoc (a.spell p.0) (b.spell p.1) after) ∙ e) same;
    bracket = h.bracket;
    deeper = elim flaw as (λ r. Deeper a r limit (h.front ++ take 1 rest) → Deeper (a then b) r limit (h.front ++ take 1 rest)) [ Unexpected ↦ λ d. tt | TooDeep ↦ λ d. begins_first lb (suc limit) (h.front ++ take 1 rest) d ] h.deeper;
  }

  pub refuses_second : Lawful a → (limit : ℕ) (flaw : Flaw) (ts mid rest : List Symbol) (x : X) → Reads a limit ts x mid → Refuses b limit flaw mid rest → Refuses (a then b) limit flaw ts rest
  refuses_second la limit flaw ts mid rest x ra h = record {
    front = a.spell x ++ h.front;
    split = ra.spelled ∙ ap (λ l. a.spell x ++ l) h.split ∙ sym (append_assoc (a.spell x) h.front rest);
    begins = begins_second limit x h.front ra.whole h.begins;
    blocks = λ n out p after other fits stops e same.
        let assoc : a.spell p.0 ++ (b.spell p.1 ++ after) ≡ a.spell x ++ (h.front ++ other) = sym (append_assoc (a.spell p.0) (b.spell p.1) after) ∙ e ∙ append_assoc (a.spell x) h.front other in
        let here : Stops (a.goes_on x) (h.front ++ other) = stops_alike (a.goes_on x) h.front rest other (subst (Stops (a.goes_on x)) h.split ra.longest) same in
        h.blocks n out p.1 after other fits.1 stops (ends_between la n limit p.0 x (b.spell p.1 ++ after) (h.front ++ other) fits.0 ra.whole (meets n p.0 p.1 after fits.1 stops) here assoc).1 same;
    bracket = h.bracket;
    deeper = elim flaw as (λ r. Deeper b r limit (h.front ++ take 1 rest) → Deeper (a then b) r limit ((a.spell x ++ h.front) ++ take 1 rest)) [ Unexpected ↦ λ d. tt | TooDeep ↦ λ d. subst (Begins (a then b) (suc limit)) (sym (append_assoc (a.spell x) h.front (take 1 rest))) (begins_second (suc limit) x (h.front ++ take 1 rest) (la.fits_deeper limit (suc limit) x (omega arith) ra.whole) d) ] h.deeper;
  }

-- what nothing goes on with stops everywhere
pub never : (rest : List Symbol) → Stops (λ _. false) rest
never [] = tt
never (r ∷ rest) = refl

pub just_lawful : (t : Symbol) → IsProper t → Lawful (just t)
just_lawful t plain = record {
  fits_deeper = λ n m x le f. tt;
  ends = λ n x y r q fx fy sx sy e. (refl, cc);
  some = tt;
  some_fits = tt;
  some_proper = (plain, tt);
}

pub reads_just : (t : Symbol) (limit : ℕ) (rest : List Symbol) → Reads (just t) limit (t ∷ rest) tt rest
reads_just t limit rest = record { whole = tt; spelled = refl; longest = never rest }

pub finish_lawful : Lawful finish
finish_lawful = record {
  fits_deeper = λ n m x le f. tt;
  ends = λ n x y r q fx fy sx sy e. (refl, e);
  some = tt;
  some_fits = tt;
  some_proper = tt;
}

-- a phrase is refused at its first symbol, where none begins so
pub refuses_here : {X : Type 0} (g : Phrase X) → Lawful g → (limit : ℕ) (ts : List Symbol) → ((n : ℕ) → Blocks g n [] ts) → Refuses g limit Unexpected ts ts
refuses_here g law limit ts blocks = record {
  front = [];
  split = refl;
  begins = record { tree = law.some; more = g.spell law.some; whole = some_at law limit; proper = law.some_proper; spelled = refl };
  blocks = λ n out. blocks n;
  deeper = tt;
  bracket = tt;
}

-- only the end of the text ends it
pub refuses_finish : (limit : ℕ) (t : Symbol) (ts : List Symbol) → Refuses finish limit Unexpected (t ∷ ts) (t ∷ ts)
refuses_finish limit t ts = refuses_here finish finish_lawful limit (t ∷ ts) (λ n x after other f s e same. at_end after other s e same)
  where
    at_end : {t : Symbol} (after other : List Symbol) → Stops (λ _. true) after → after ≡ other → next other ≡ Some t → ⊥
    at_end [] other s e same = let e' : next other ≡ None = ap next (sym e) in cc
    at_end (x ∷ after) other s e same = cc

-- every phrase of the kind begins with one of the first symbols, and none of these goes on with a phrase before it
pub record Starts {X : Type 0} (g : Phrase X) (first : Symbol → Bool) : Type 0 where
  pub begins : (n : ℕ) (x : X) → g.fits n x → (t : Symbol) × (ts : List Symbol) × (g.spell x ≡ t ∷ ts) × (first t ≡ true)
  pub parts : (x : X) (t : Symbol) → first t ≡ true → g.goes_on x t ≡ false

-- where the next token is one of the first
abbrev pub IsFirst : (Symbol → Bool) → List Symbol → Type 0
IsFirst first ts = (t : Symbol) × (next ts ≡ Some t) × (first t ≡ true)

-- what goes on with the last of some phrases
abbrev pub goes_last : {X : Type 0} → (X → Symbol → Bool) → List X → Symbol → Bool
goes_last goes = goes_on_many goes (λ _. false)

-- the phrases so far of a list
pub record ReadsSome {X : Type 0} (g : Phrase X) (limit : ℕ) (ts : List Symbol) (xs : List X) (rest : List Symbol) : Type 0 where
  pub whole : AllByRecursion (g.fits limit) xs
  pub spelled : ts ≡ flat_map g.spell xs ++ rest
  pub longest : Stops (goes_last g.goes_on xs) rest

or_left : (a b : Bool) → a || b ≡ false → a ≡ false
or_left false b e = refl
or_left true b e = e

or_right : (a b : Bool) → a || b ≡ false → b ≡ false
or_right false b e = e
or_right true b e = cc

or_both : (a b : Bool) → a ≡ false → b ≡ false → a || b ≡ false
or_both false b p q = q
or_both true b p q = p

pub first_contradiction : (first : Symbol → Bool) (ts : List Symbol) → Stops first ts → IsFirst first ts → ⊥
first_contradiction first [] s h = let e : next [] ≡ Some h.0 = h.1 in cc
first_contradiction first (t ∷ ts) s h = let e : Some t ≡ Some h.0 = h.1 in let same : t ≡ h.0 = cc in let f : first t ≡ true = ap first same ∙ h.2 in cc

pub first_alike : (first : Symbol → Bool) (front rest other : List Symbol) → IsFirst first (front ++ rest) → next other ≡ next rest → IsFirst first (front ++ other)
first_alike first [] rest other h e = (h.0, e ∙ h.1, h.2)
first_alike first (f ∷ front) rest other h e = h

module _ {X : Type 0} (g : Phrase X) (first : Symbol → Bool) (starts : Starts g first) where
  first_of : (n : ℕ) (x : X) (after : List Symbol) → g.fits n x → IsFirst first (g.spell x ++ after)
  first_of n x after fits = let b = starts.begins n x fits in (b.0, ap (λ l. next (l ++ after)) b.2, b.3)

  stops_first : (x : X) (ts : List Symbol) → IsFirst first ts → Stops (g.goes_on x) ts
  stops_first x [] h = tt
  stops_first x (t ∷ ts) h = let e : Some t ≡ Some h.0 = h.1 in let same : t ≡ h.0 = cc in starts.parts x t (ap first same ∙ h.2)

  first_list : (n : ℕ) (x : X) (xs : List X) (r : List Symbol) → g.fits n x → IsFirst first (flat_map g.spell (x ∷ xs) ++ r)
  first_list n x xs r fits = subst (IsFirst first) (sym (append_assoc (g.spell x) (flat_map g.spell xs) r)) (first_of n x (flat_map g.spell xs ++ r) fits)

  -- a phrase of a list ends where the next begins, or with the list
  stops_mid : (n : ℕ) (f : Symbol → Bool) (x : X) (xs : List X) (r : List Symbol) → AllByRecursion (g.fits n) xs → Stops (goes_on_many g.goes_on f (x ∷ xs)) r → Stops (g.goes_on x) (flat_map g.spell xs ++ r)
  stops_mid n f x [] [] h s = tt
  stops_mid n f x [] (t ∷ r) h s = or_right (f t) (g.goes_on x t) s
  stops_mid n f x (y ∷ ys) r h s = stops_first x (flat_map g.spell (y ∷ ys) ++ r) (first_list n y ys r h.0)

  stops_tail : (f : Symbol → Bool) (x : X) (xs : List X) (r : List Symbol) → Stops (goes_on_many g.goes_on f (x ∷ xs)) r → Stops (goes_on_many g.goes_on f xs) r
  stops_tail f x [] [] s = tt
  stops_tail f x [] (t ∷ r) s = or_left (f t) (g.goes_on x t) s
  stops_tail f x (y ∷ ys) r s = s

  stops_all : (xs : List X) (r : List Symbol) → Stops (goes_on_many g.goes_on first xs) r → Stops first r
  stops_all [] r s = s
  stops_all (x ∷ xs) r s = stops_all xs r (stops_tail first x xs r s)

  pub ends_many : (n : ℕ) → EndsAt g n → (xs ys : List X) (r q : List Symbol) → AllByRecursion (g.fits n) xs → AllByRecursion (g.fits n) ys → Stops (goes_on_many g.goes_on first xs) r → Stops (goes_on_many g.goes_on first ys) q → flat_map g.spell xs ++ r ≡ flat_map g.spell ys ++ q → (xs ≡ ys) × (r ≡ q)
  ends_many n ends [] [] r q fx fy sx sy e = (refl, e)
  ends_many n ends [] (y ∷ ys) r q fx fy sx sy e = absurd (first_contradiction first r sx (subst (IsFirst first) (sym e) (first_list n y ys q fy.0)))
  ends_many n ends (x ∷ xs) [] r q fx fy sx sy e = absurd (first_contradiction first q sy (subst (IsFirst first) e (first_list n x xs r fx.0)))
  ends_many n ends (x ∷ xs) (y ∷ ys) r q fx fy sx sy e =
      let assoc : g.spell x ++ (flat_map g.spell xs ++ r) ≡ g.spell y ++ (flat_map g.spell ys ++ q) = sym (append_assoc (g.spell x) (flat_map g.spell xs) r) ∙ e ∙ append_assoc (g.spell y) (flat_map g.spell ys) q in
      let one = ends x y (flat_map g.spell xs ++ r) (flat_map g.spell ys ++ q) fx.0 fy.0 (stops_mid n first x xs r fx.1 sx) (stops_mid n first y ys q fy.1 sy) assoc in
      let others = ends_many n ends xs ys r q fx.1 fy.1 (stops_tail first x xs r sx) (stops_tail first y ys q sy) one.1 in
      ((λ i. one.0 i ∷ others.0 i), others.1)

  pub many_fit_deeper : (n m : ℕ) → ((x : X) → g.fits n x → g.fits m x) → (xs : List X) → AllByRecursion (g.fits n) xs → AllByRecursion (g.fits m) xs
  many_fit_deeper n m fits_deeper [] f = f
  many_fit_deeper n m fits_deeper (x ∷ xs) f = (fits_deeper x f.0, many_fit_deeper n m fits_deeper xs f.1)

module _ {X : Type 0} (g : Phrase X) (first : Symbol → Bool) (starts : Starts g first) (law : Lawful g) where
  pub many_lawful : Lawful (many g first)
  many_lawful = record {
    fits_deeper = λ n m xs le. many_fit_deeper g first starts n m (λ x. law.fits_deeper n m x le) xs;
    ends = λ n. ends_many g first starts n (law.ends n);
    some = [];
    some_fits = tt;
    some_proper = tt;
  }

  blocks_many : (n m : ℕ) (front rest : List Symbol) (xs : List X) → AllByRecursion (g.fits m) xs → Stops (goes_last g.goes_on xs) (front ++ rest) → IsFirst first (front ++ rest) → Blocks g n front rest
      → (ys : List X) (after other : List Symbol) → AllByRecursion (g.fits n) ys → Stops (goes_on_many g.goes_on first ys) after → flat_map g.spell ys ++ after ≡ (flat_map g.spell xs ++ front) ++ other → next other ≡ next rest → ⊥
  blocks_many n m front rest [] fx sx is_first blocks [] after other fy sy e same =
      first_contradiction first after sy (subst (IsFirst first) (sym e) (first_alike first front rest other is_first same))
  blocks_many n m front rest [] fx sx is_first blocks (y ∷ ys) after other fy sy e same =
      blocks y (flat_map g.spell ys ++ after) other fy.0 (stops_mid g first starts n first y ys after fy.1 sy) (sym (append_assoc (g.spell y) (flat_map g.spell ys) after) ∙ e) same
  blocks_many n m front rest (x ∷ xs) fx sx is_first blocks [] after other fy sy e same =
      let h = first_list g first starts m x xs (front ++ other) fx.0 in
      first_contradiction first after sy (subst (IsFirst first) (sym (e ∙ append_assoc (flat_map g.spell (x ∷ xs)) front other)) h)
  blocks_many n m front rest (x ∷ xs) fx sx is_first blocks (y ∷ ys) after other fy sy e same =
      let assoc : g.spell y ++ (flat_map g.spell ys ++ after) ≡ g.spell x ++ ((flat_map g.spell xs ++ front) ++ other) = sym (append_assoc (g.spell y) (flat_map g.spell ys) after) ∙ e ∙ ap (λ l. l ++ other) (append_assoc (g.spell x) (flat_map g.spell xs) front) ∙ append_assoc (g.spell x) (flat_map g.spell xs ++ front) other in
      let mid = subst (Stops (g.goes_on x)) (sym (append_assoc (flat_map g.spell xs) front rest)) (stops_mid g first starts m (λ _. false) x xs (front ++ rest) fx.1 sx) in
      let here = stops_alike (g.goes_on x) (flat_map g.spell xs ++ front) rest other mid same in
      blocks_many n m front rest xs fx.1 (stops_tail g first starts (λ _. false) x xs (front ++ rest) sx) is_first blocks ys after other fy.1 (stops_tail g first starts first y ys after sy)
      (ends_between law n m y x (flat_map g.spell ys ++ after) ((flat_map g.spell xs ++ front) ++ other) fy.0 fx.0 (stops_mid g first starts n first y ys after fy.1 sy) here assoc).1 same

  all_push : (n : ℕ) (xs : List X) (x : X) → AllByRecursion (g.fits n) xs → g.fits n x → AllByRecursion (g.fits n) (xs ++ x ∷ [])
  all_push n [] x h f = (f, tt)
  all_push n (y ∷ ys) x h f = (h.0, all_push n ys x h.1 f)

  spell_push : (xs : List X) (x : X) → flat_map g.spell (xs ++ x ∷ []) ≡ flat_map g.spell xs ++ g.spell x
  spell_push xs x = flat_map-append g.spell xs (x ∷ []) ∙ ap (λ l. flat_map g.spell xs ++ l) (append-nil (g.spell x))

  begins_many : (n : ℕ) (xs : List X) (front : List Symbol) → AllByRecursion (g.fits n) xs → Begins g n front → Begins (many g first) n (flat_map g.spell xs ++ front)
  begins_many n xs front fits h =
      record {
        tree = xs ++ h.tree ∷ [];
        more = h.more;
        whole = all_push n xs h.tree fits h.whole;
        proper = h.proper;
        spelled = spell_push xs h.tree ∙ ap (λ l. flat_map g.spell xs ++ l) h.spelled ∙ sym (append_assoc (flat_map g.spell xs) front h.more);
      }

  -- a list is refused where its next phrase is
  pub refuses_many : (limit : ℕ) (flaw : Flaw) (ts mid rest : List Symbol) (xs : List X) → ReadsSome g limit ts xs mid → IsFirst first mid → Refuses g limit flaw mid rest → Refuses (many g first) limit flaw ts rest
  refuses_many limit flaw ts mid rest xs so_far is_first h = record {
    front = flat_map g.spell xs ++ h.front;
    split = so_far.spelled ∙ ap (λ l. flat_map g.spell xs ++ l) h.split ∙ sym (append_assoc (flat_map g.spell xs) h.front rest);
    begins = begins_many limit xs h.front so_far.whole h.begins;
    blocks = λ n out ys after other fits stops e same.
        blocks_many n limit h.front rest xs so_far.whole (subst (Stops (goes_last g.goes_on xs)) h.split so_far.longest) (subst (IsFirst first) h.split is_first) (h.blocks n out) ys after other fits stops e same;
    bracket = h.bracket;
    deeper = elim flaw as (λ r. Deeper g r limit (h.front ++ take 1 rest) → Deeper (many g first) r limit ((flat_map g.spell xs ++ h.front) ++ take 1 rest)) [ Unexpected ↦ λ d. tt | TooDeep ↦ λ d. subst (Begins (many g first) (suc limit)) (sym (append_assoc (flat_map g.spell xs) h.front (take 1 rest))) (begins_many (suc limit) xs (h.front ++ take 1 rest) (many_fit_deeper g first starts limit (suc limit) (λ x. law.fits_deeper limit (suc limit) x (omega arith)) xs so_far.whole) d) ] h.deeper;
  }

  stops_push : (f : Symbol → Bool) (xs : List X) (x : X) (r : List Symbol) → Stops f r → Stops (g.goes_on x) r → Stops (goes_on_many g.goes_on f (xs ++ x ∷ [])) r
  stops_push f [] x [] sf sx = tt
  stops_push f [] x (t ∷ r) sf sx = or_both (f t) (g.goes_on x t) sf sx
  stops_push f (y ∷ []) x r sf sx = stops_push f [] x r sf sx
  stops_push f (y ∷ z ∷ ys) x r sf sx = stops_push f (z ∷ ys) x r sf sx

  -- one more phrase of a list
  pub reads_more : (limit : ℕ) (ts mid rest : List Symbol) (xs : List X) (x : X) → ReadsSome g limit ts xs mid → Reads g limit mid x rest → ReadsSome g limit ts (xs ++ x ∷ []) rest
  reads_more limit ts mid rest xs x so_far one = record {
    whole = all_push limit xs x so_far.whole one.whole;
    spelled = so_far.spelled ∙ ap (λ l. flat_map g.spell xs ++ l) one.spelled ∙ sym (append_assoc (flat_map g.spell xs) (g.spell x) rest) ∙ ap (λ l. l ++ rest) (sym (spell_push xs x));
    longest = stops_push (λ _. false) xs x rest (never rest) one.longest;
  }

  stops_done : (xs : List X) (r : List Symbol) → Stops (goes_last g.goes_on xs) r → Stops first r → Stops (goes_on_many g.goes_on first xs) r
  stops_done [] r s f = f
  stops_done (x ∷ []) [] s f = tt
  stops_done (x ∷ []) (t ∷ r) s f = or_both (first t) (g.goes_on x t) f s
  stops_done (x ∷ y ∷ ys) r s f = stops_done (y ∷ ys) r s f

  -- a list ends where no phrase begins
  pub reads_many : (limit : ℕ) (ts rest : List Symbol) (xs : List X) → ReadsSome g limit ts xs rest → Stops first rest → Reads (many g first) limit ts xs rest
  reads_many limit ts rest xs so_far s = record { whole = so_far.whole; spelled = so_far.spelled; longest = stops_done xs rest so_far.longest s }

  pub reads_none : (limit : ℕ) (ts : List Symbol) → ReadsSome g limit ts [] ts
  reads_none limit ts = record { whole = tt; spelled = refl; longest = never ts }

module _ {X : Type 0} (t : Symbol) (g : Phrase X) (law : Lawful g) where
  pub behind_lawful : IsProper t → Lawful (behind t g)
  behind_lawful plain = record {
    fits_deeper = law.fits_deeper;
    ends = λ n x y r q fx fy sx sy e. law.ends n x y r q fx fy sx sy (let e' : t ∷ (g.spell x ++ r) ≡ t ∷ (g.spell y ++ q) = e in cc);
    some = law.some;
    some_fits = law.some_fits;
    some_proper = (plain, law.some_proper);
  }

  pub reads_behind : (limit : ℕ) (ts rest : List Symbol) (x : X) → Reads g limit ts x rest → Reads (behind t g) limit (t ∷ ts) x rest
  reads_behind limit ts rest x h = record { whole = h.whole; spelled = ap (λ l. t ∷ l) h.spelled; longest = h.longest }

  begins_behind : (n : ℕ) (front : List Symbol) → Begins g n front → Begins (behind t g) n (t ∷ front)
  begins_behind n front h = record { tree = h.tree; more = h.more; whole = h.whole; proper = h.proper; spelled = ap (λ l. t ∷ l) h.spelled }

  pub refuses_behind : (limit : ℕ) (flaw : Flaw) (ts rest : List Symbol) → Refuses g limit flaw ts rest → Refuses (behind t g) limit flaw (t ∷ ts) rest
  refuses_behind limit flaw ts rest h = record {
    front = t ∷ h.front;
    split = ap (λ l. t ∷ l) h.split;
    begins = begins_behind limit h.front h.begins;
    blocks = λ n out x after other fits stops e same. h.blocks n out x after other fits stops (let e' : t ∷ (g.spell x ++ after) ≡ t ∷ (h.front ++ other) = e in cc) same;
    bracket = h.bracket;
    deeper = elim flaw as (λ r. Deeper g r limit (h.front ++ take 1 rest) → Deeper (behind t g) r limit (t ∷ (h.front ++ take 1 rest))) [ Unexpected ↦ λ d. tt | TooDeep ↦ λ d. begins_behind (suc limit) (h.front ++ take 1 rest) d ] h.deeper;
  }

module _ {X : Type 0} (t : Symbol) (is_sign : Symbol → Bool) (g : Phrase X) (sign : is_sign t ≡ true) (parts : (x : X) (u : Symbol) → is_sign u ≡ true → g.goes_on x u ≡ false) (plain : IsProper t) where
  joined_starts : Starts (behind t g) is_sign
  joined_starts = record { begins = λ n x fits. (t, g.spell x, refl, sign); parts = parts }

  joined_all : (P : X → Type 0) (xs : List X) → JoinedFits P xs → AllByRecursion P xs
  joined_all P [] h = absurd h
  joined_all P (x ∷ xs) h = h

  behind_joined : (P : X → Type 0) (xs : List X) → JoinedFits P xs → t ∷ joined_spell t g.spell xs ≡ flat_map (behind t g).spell xs
  behind_joined P [] h = absurd h
  behind_joined P (x ∷ xs) h = refl

  behind_joined_more : (P : X → Type 0) (xs : List X) (r : List Symbol) → JoinedFits P xs → t ∷ (joined_spell t g.spell xs ++ r) ≡ flat_map (behind t g).spell xs ++ r
  behind_joined_more P xs r h = ap (λ l. l ++ r) (behind_joined P xs h)

  pub ends_joined : (n : ℕ) → EndsAt g n → EndsAt (joined t is_sign g) n
  ends_joined n ends xs ys r q fx fy sx sy e =
      ends_many (behind t g) is_sign joined_starts n (λ x y r' q' fx' fy' sx' sy' e'. ends x y r' q' fx' fy' sx' sy' (let e2 : t ∷ (g.spell x ++ r') ≡ t ∷ (g.spell y ++ q') = e' in cc))
      xs ys r q (joined_all _ xs fx) (joined_all _ ys fy) sx sy (sym (behind_joined_more _ xs r fx) ∙ ap (λ l. t ∷ l) e ∙ behind_joined_more _ ys q fy)

  pub joined_fit_deeper : (n m : ℕ) → ((x : X) → g.fits n x → g.fits m x) → (xs : List X) → JoinedFits (g.fits n) xs → JoinedFits (g.fits m) xs
  joined_fit_deeper n m fits_deeper [] h = h
  joined_fit_deeper n m fits_deeper (x ∷ xs) h = many_fit_deeper (behind t g) is_sign joined_starts n m fits_deeper (x ∷ xs) h

  pub joined_lawful : Lawful g → Lawful (joined t is_sign g)
  joined_lawful law = record {
    fits_deeper = λ n m xs le. joined_fit_deeper n m (λ x. law.fits_deeper n m x le) xs;
    ends = λ n. ends_joined n (law.ends n);
    some = law.some ∷ [];
    some_fits = (law.some_fits, tt);
    some_proper = proper_append (g.spell law.some) [] law.some_proper tt;
  }

  -- some phrases so far, of those that begin in ts
  abbrev pub Joins : ℕ → List Symbol → List X → List Symbol → Type 0
  Joins limit ts xs rest = ReadsSome (behind t g) limit (t ∷ ts) xs rest

  fits_joined : (P : X → Type 0) (xs : List X) → (x : X) → AllByRecursion P (xs ++ x ∷ []) → JoinedFits P (xs ++ x ∷ [])
  fits_joined P [] x h = h
  fits_joined P (y ∷ ys) x h = h

  pub joins_first : Lawful g → (limit : ℕ) (ts rest : List Symbol) (x : X) → Reads g limit ts x rest → Joins limit ts (x ∷ []) rest
  joins_first law limit ts rest x h =
      reads_more (behind t g) is_sign joined_starts (behind_lawful t g law plain) limit (t ∷ ts) (t ∷ ts) rest [] x (reads_none (behind t g) is_sign joined_starts (behind_lawful t g law plain) limit (t ∷ ts)) (reads_behind t g law limit ts rest x h)

  pub joins_more : Lawful g → (limit : ℕ) (ts mid rest : List Symbol) (xs : List X) (x : X) → Joins limit ts xs (t ∷ mid) → Reads g limit mid x rest → Joins limit ts (xs ++ x ∷ []) rest
  joins_more law limit ts mid rest xs x so_far h =
      reads_more (behind t g) is_sign joined_starts (behind_lawful t g law plain) limit (t ∷ ts) (t ∷ mid) rest xs x so_far (reads_behind t g law limit mid rest x h)

  head_equal : (xs ys : List Symbol) → t ∷ xs ≡ t ∷ ys → xs ≡ ys
  head_equal xs ys e = cc

  pub reads_joined : Lawful g → (limit : ℕ) (ts rest : List Symbol) (xs : List X) → JoinedFits (g.fits limit) xs → Joins limit ts xs rest → Stops is_sign rest → Reads (joined t is_sign g) limit ts xs rest
  reads_joined law limit ts rest xs some so_far stops =
      let many_read = reads_many (behind t g) is_sign joined_starts (behind_lawful t g law plain) limit (t ∷ ts) rest xs so_far stops in
      record {
        whole = some;
        spelled = head_equal ts (joined_spell t g.spell xs ++ rest) (many_read.spelled ∙ sym (behind_joined_more _ xs rest some));
        longest = many_read.longest;
      }

  begins_joined : (n : ℕ) (front : List Symbol) → Begins (many (behind t g) is_sign) n (t ∷ front) → Begins (joined t is_sign g) n front
  begins_joined n front h = whole_row n front h.more h.proper h.tree h.whole h.spelled
    where
      whole_row : (n : ℕ) (front more : List Symbol) → AllProper more → (xs : List X) → AllByRecursion (g.fits n) xs → flat_map (behind t g).spell xs ≡ (t ∷ front) ++ more → Begins (joined t is_sign g) n front
      whole_row n front more proper [] fits e = let e' : [] ≡ t ∷ (front ++ more) = e in cc
      whole_row n front more proper (x ∷ xs) fits e = record { tree = x ∷ xs; more = more; whole = fits; proper = proper; spelled = head_equal (joined_spell t g.spell (x ∷ xs)) (front ++ more) e }

  from_many : (limit : ℕ) (flaw : Flaw) (ts rest front : List Symbol) (h : Refuses (many (behind t g) is_sign) limit flaw (t ∷ ts) rest) → h.front ≡ t ∷ front → Refuses (joined t is_sign g) limit flaw ts rest
  from_many limit flaw ts rest front h is = record {
    front = front;
    split = head_equal ts (front ++ rest) (h.split ∙ ap (λ l. l ++ rest) is);
    begins = begins_joined limit front (subst (Begins (many (behind t g) is_sign) limit) is h.begins);
    blocks = λ n out xs after other fits stops e same.
        h.blocks n out xs after other (joined_all _ xs fits) stops (sym (behind_joined_more _ xs after fits) ∙ ap (λ l. t ∷ l) e ∙ ap (λ l. l ++ other) (sym is)) same;
    bracket = h.bracket;
    deeper = elim flaw as (λ r. Deeper (many (behind t g) is_sign) r limit (h.front ++ take 1 rest) → Deeper (joined t is_sign g) r limit (front ++ take 1 rest)) [ Unexpected ↦ λ d. tt | TooDeep ↦ λ d. begins_joined (suc limit) (front ++ take 1 rest) (subst (λ l. Begins (many (behind t g) is_sign) (suc limit) (l ++ take 1 rest)) is d) ] h.deeper;
  }

  pub refuses_joined_first : Lawful g → (limit : ℕ) (flaw : Flaw) (ts rest : List Symbol) → Refuses g limit flaw ts rest → Refuses (joined t is_sign g) limit flaw ts rest
  unfolding refuses_many refuses_behind
  refuses_joined_first law limit flaw ts rest h =
      from_many limit flaw ts rest h.front (refuses_many (behind t g) is_sign joined_starts (behind_lawful t g law plain) limit flaw (t ∷ ts) (t ∷ ts) rest [] (reads_none (behind t g) is_sign joined_starts (behind_lawful t g law plain) limit (t ∷ ts)) (t, refl, sign) (refuses_behind t g law limit flaw ts rest h)) refl

  pub refuses_joined : Lawful g → (limit : ℕ) (flaw : Flaw) (ts mid rest : List Symbol) (xs : List X) → Joins limit ts xs (t ∷ mid) → Refuses g limit flaw mid rest → Refuses (joined t is_sign g) limit flaw ts rest
  unfolding refuses_many refuses_behind
  refuses_joined law limit flaw ts mid rest [] so_far h =
      from_many limit flaw ts rest h.front (refuses_many (behind t g) is_sign joined_starts (behind_lawful t g law plain) limit flaw (t ∷ ts) (t ∷ mid) rest [] so_far (t, refl, sign) (refuses_behind t g law limit flaw mid rest h)) refl
  refuses_joined law limit flaw ts mid rest (x ∷ xs) so_far h =
      from_many limit flaw ts rest ((g.spell x ++ flat_map (behind t g).spell xs) ++ (t ∷ h.front)) (refuses_many (behind t g) is_sign joined_starts (behind_lawful t g law plain) limit flaw (t ∷ ts) (t ∷ mid) rest (x ∷ xs) so_far (t, refl, sign) (refuses_behind t g law limit flaw mid rest h)) refl

-- what is proved of one kind of phrase holds of another that is seen as it
module _ {X Y : Type 0} (view : Y → X) (back : X → Y) (there : (x : X) → view (back x) ≡ x) (here : (y : Y) → back (view y) ≡ y) (g : Phrase X) where
  pub seen_lawful : Lawful g → Lawful (seen view g)
  seen_lawful law = record {
    fits_deeper = λ n m y. law.fits_deeper n m (view y);
    ends = λ n x y r q fx fy sx sy e.
        let same = law.ends n (view x) (view y) r q fx fy sx sy e in
        (sym (here x) ∙ ap back same.0 ∙ here y, same.1);
    some = back law.some;
    some_fits = subst (g.fits 0) (sym (there law.some)) law.some_fits;
    some_proper = subst (λ x. AllProper (g.spell x)) (sym (there law.some)) law.some_proper;
  }

  begins_seen : (n : ℕ) (front : List Symbol) → Begins g n front → Begins (seen view g) n front
  begins_seen n front h = record { tree = back h.tree; more = h.more; whole = subst (g.fits n) (sym (there h.tree)) h.whole; proper = h.proper; spelled = ap g.spell (there h.tree) ∙ h.spelled }

  pub refuses_seen : (limit : ℕ) (flaw : Flaw) (ts rest : List Symbol) → Refuses g limit flaw ts rest → Refuses (seen view g) limit flaw ts rest
  refuses_seen limit flaw ts rest h = record {
    front = h.front;
    split = h.split;
    begins = begins_seen limit h.front h.begins;
    blocks = λ n out y. h.blocks n out (view y);
    bracket = h.bracket;
    deeper = elim flaw as (λ r. Deeper g r limit (h.front ++ take 1 rest) → Deeper (seen view g) r limit (h.front ++ take 1 rest)) [ Unexpected ↦ λ d. tt | TooDeep ↦ λ d. begins_seen (suc limit) (h.front ++ take 1 rest) d ] h.deeper;
  }

  pub reads_seen : (limit : ℕ) (ts rest : List Symbol) (y : Y) (x : X) → view y ≡ x → Reads g limit ts x rest → Reads (seen view g) limit ts y rest
  reads_seen limit ts rest y x e h =
      let r : Reads g limit ts (view y) rest = subst (λ z. Reads g limit ts z rest) (sym e) h in
      record { whole = r.whole; spelled = r.spelled; longest = r.longest }

-- a list of phrases with a sign between them, seen as a tree
module _ {X Y : Type 0} (t : Symbol) (is_sign : Symbol → Bool) (g : Phrase X) (law : Lawful g) (sign : is_sign t ≡ true) (parts : (x : X) (u : Symbol) → is_sign u ≡ true → g.goes_on x u ≡ false) (plain : IsProper t) (view : Y → List X) (back : List X → Y) (there : (xs : List X) → view (back xs) ≡ xs) (here : (y : Y) → back (view y) ≡ y) where
  pub row_starts : (limit : ℕ) (ts rest : List Symbol) (x : X) → Reads g limit ts x rest → ReadsSome (behind t g) limit (t ∷ ts) (x ∷ []) rest
  row_starts limit ts rest x h = joins_first t is_sign g sign parts plain law limit ts rest x h

  pub row_more : (limit : ℕ) (ts rest mid left : List Symbol) (xs : List X) (x : X) → ReadsSome (behind t g) limit (t ∷ ts) xs rest → rest ≡ t ∷ mid → Reads g limit mid x left → ReadsSome (behind t g) limit (t ∷ ts) (xs ++ x ∷ []) left
  row_more limit ts rest mid left xs x so_far e h = joins_more t is_sign g sign parts plain law limit ts mid left xs x (subst (ReadsSome (behind t g) limit (t ∷ ts) xs) e so_far) h

  some_joined : (P : X → Type 0) (xs : List X) → 0 < length xs → AllByRecursion P xs → JoinedFits P xs
  some_joined P [] le h = absurd (omega arith)
  some_joined P (x ∷ xs) le h = h

  pub row_reads : (limit : ℕ) (ts rest : List Symbol) (xs : List X) → 0 < length xs → ReadsSome (behind t g) limit (t ∷ ts) xs rest → Stops is_sign rest → Reads (seen view (joined t is_sign g)) limit ts (back xs) rest
  row_reads limit ts rest xs some so_far stops =
      reads_seen view back there here (joined t is_sign g) limit ts rest (back xs) xs (there xs) (reads_joined t is_sign g sign parts plain law limit ts rest xs (some_joined _ xs some so_far.whole) so_far stops)

  pub row_refuses_first : (limit : ℕ) (flaw : Flaw) (ts rest : List Symbol) → Refuses g limit flaw ts rest → Refuses (seen view (joined t is_sign g)) limit flaw ts rest
  row_refuses_first limit flaw ts rest h = refuses_seen view back there here (joined t is_sign g) limit flaw ts rest (refuses_joined_first t is_sign g sign parts plain law limit flaw ts rest h)

  pub row_refuses : (limit : ℕ) (flaw : Flaw) (ts rest mid left : List Symbol) (xs : List X) → ReadsSome (behind t g) limit (t ∷ ts) xs rest → rest ≡ t ∷ mid → Refuses g limit flaw mid left → Refuses (seen view (joined t is_sign g)) limit flaw ts left
  row_refuses limit flaw ts rest mid left xs so_far e h =
      refuses_seen view back there here (joined t is_sign g) limit flaw ts left (refuses_joined t is_sign g sign parts plain law limit flaw ts mid left xs (subst (ReadsSome (behind t g) limit (t ∷ ts) xs) e so_far) h)
