-- One more name in a table, and the list that it then indexes.
use Rattle.std.proofs.Common.{◌≡◌, ℕ, suc, ◌+◌, ◌≤◌, Bool, true, false, List, [], ◌∷◌, ◌++◌, Option, None, Some, length, map, position, is_some, refl, sym, ap, ◌∙◌, arith, if◌then◌else◌, cond, nat_lt, not, ◌||◌, ◌==◌, length-append, true≢false}
use Rattle.std.specs.Option.{option_or}
use Rattle.std.specs.List.{list_any, position_or_len}
use Rattle.std.specs.Map.{lookup}
use Rattle.std.specs.Str.{bytes_eq}
use Rattle.std.proofs.lemmas.List.Sums.{prefix_len-le-length}
use Rattle.std.proofs.lemmas.List.Folds.{position_or_len_push}
use Rattle.std.proofs.lemmas.Bool.Decides.{nat_tests}
use Rattle.indexmap.specs.IndexMap.{IndexMap, get_by, insert_entry}
use Rattle.indexmap.proofs.CallerLemmas.{insert_entry-new}
use Rattle.ps_base.specs.LetterCase.{folded, is_same_name}
use Rattle.ps_parser.specs.declared.name.Name.{Name}

-- one more entry at the end
lookup_push : {K X : Type 0} (test : K → Bool) (es : List (K × X)) (k : K) (v : X) →
    lookup test (es ++ (k, v) ∷ []) ≡ option_or (lookup test es) (if test k then Some v else None)
lookup_push test [] k v = refl
lookup_push test (e ∷ es) k v = by (test e.0) (lookup_push test es k v)
  where
    by : (b : Bool) → lookup test (es ++ (k, v) ∷ []) ≡ option_or (lookup test es) (if test k then Some v else None) →
        cond b (Some e.1) (lookup test (es ++ (k, v) ∷ [])) ≡ option_or (cond b (Some e.1) (lookup test es)) (if test k then Some v else None)
    by true h = refl
    by false h = h

none_of : {X : Type 0} (o : Option X) → is_some o ≡ false → o ≡ None
none_of None h = refl
none_of (Some x) h = absurd (true≢false h)

-- a new name's place comes after those that are there
pub place_entered : {K S : Type 0} (items : K → List ℕ) (m n : IndexMap K ℕ S) (key : K) (at : ℕ) (text q : List ℕ) →
    is_some (get_by (λ k. bytes_eq (items key) (items k)) m) ≡ false →
    n.entries ≡ insert_entry (λ x y. bytes_eq (items x) (items y)) m.entries key at →
    items key ≡ folded text →
    get_by (λ k. bytes_eq (folded q) (items k)) n ≡ option_or (get_by (λ k. bytes_eq (folded q) (items k)) m) (if is_same_name q text then Some at else None)
place_entered items m n key at text q absent after is =
    let more = after ∙ insert_entry-new (λ x y. bytes_eq (items x) (items y)) m key at (none_of _ absent) in
    ap (lookup (λ k. bytes_eq (folded q) (items k))) more
    ∙ lookup_push (λ k. bytes_eq (folded q) (items k)) m.entries key at
    ∙ ap (λ w. option_or (get_by (λ k. bytes_eq (folded q) (items k)) m) (if bytes_eq (folded q) w then Some at else None)) is

push_case : (m n : ℕ) (b : Bool) → m ≤ n →
    cond (nat_lt (cond (m == n) (n + cond b 0 1) m) (n + 1)) (Some (cond (m == n) (n + cond b 0 1) m)) None
    ≡ option_or (cond (nat_lt m n) (Some m) None) (cond b (Some n) None)
push_case m n b h = grind (arith, nat_tests)

position_push : {X : Type 0} (p : X → Bool) (xs : List X) (y : X) →
    position p (xs ++ y ∷ []) ≡ option_or (position p xs) (if p y then Some (length xs) else None)
position_push p xs y =
    rw (position_or_len_push p xs y, length-append xs (y ∷ [])) (push_case (position_or_len p xs) (length xs) (p y) (prefix_len-le-length (λ x. not (p x)) xs))

-- a table that indexes a list, with the name of one more item entered, indexes the list with that item at the end
pub indexes_push : {X : Type 0} (name_of : X → Name) (before after : List ℕ → Option ℕ) (xs : List X) (x : X) (k : ℕ) → k ≡ length xs →
    ((q : List ℕ) → before q ≡ position (λ y. is_same_name q (name_of y).text) xs) →
    ((q : List ℕ) → after q ≡ option_or (before q) (if is_same_name q (name_of x).text then Some k else None)) →
    (q : List ℕ) → after q ≡ position (λ y. is_same_name q (name_of y).text) (xs ++ x ∷ [])
indexes_push name_of before after xs x k count was is q =
    is q ∙ ap (λ o. option_or o (if is_same_name q (name_of x).text then Some k else None)) (was q)
    ∙ ap (λ j. option_or (position (λ y. is_same_name q (name_of y).text) xs) (if is_same_name q (name_of x).text then Some j else None)) count
    ∙ sym (position_push (λ y. is_same_name q (name_of y).text) xs x)

any_below : {X : Type 0} (p : X → Bool) (xs : List X) → list_any p xs ≡ nat_lt (position_or_len p xs) (length xs)
any_below p [] = refl
any_below p (x ∷ xs) = by (p x) (any_below p xs)
  where
    by : (b : Bool) → list_any p xs ≡ nat_lt (position_or_len p xs) (length xs) → (b || list_any p xs) ≡ nat_lt (cond (not b) (1 + position_or_len p xs) 0) (suc (length xs))
    by true h = grind (arith, nat_tests)
    by false h = h ∙ grind (arith, nat_tests)

is_some_cond : (b : Bool) (k : ℕ) → b ≡ is_some (cond b (Some k) None)
is_some_cond true k = refl
is_some_cond false k = refl

any_at : {X : Type 0} (p : X → Bool) (xs : List X) → list_any p xs ≡ is_some (position p xs)
any_at p xs = any_below p xs ∙ is_some_cond (nat_lt (position_or_len p xs) (length xs)) (position_or_len p xs)

any_map : {X Y : Type 0} (p : Y → Bool) (f : X → Y) (xs : List X) → list_any p (map f xs) ≡ list_any (λ x. p (f x)) xs
any_map p f [] = refl
any_map p f (x ∷ xs) = ap (λ b. p (f x) || b) (any_map p f xs)

-- a text has a place among these items where it is one of their names
pub placed_among : {X : Type 0} (name_of : X → Name) (xs : List X) (q : List ℕ) → is_some (position (λ x. is_same_name q (name_of x).text) xs) ≡ list_any (λ n. is_same_name q n.text) (map name_of xs)
placed_among name_of xs q = sym (any_at (λ x. is_same_name q (name_of x).text) xs) ∙ sym (any_map (λ n. is_same_name q n.text) name_of xs)
