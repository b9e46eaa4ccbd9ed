-- The names of a header.
use Rattle.std.proofs.Common.{◌≡◌, ◌≤◌, ◌<◌, ◌+◌, ◌==◌, ◌↔◌, ℕ, List, [], ◌∷◌, ◌++◌, Bool, not, true, false, IsTrue, Option, Some, if◌then◌else◌, length, drop, get_or, map, slice_index, slice_set, unwrap_or, codes, refl, sym, ◌∙◌, ap, arith}
use Rattle.std.specs.List.{position_from, list_any, list_all, range_with_len}
use Rattle.std.specs.Char.{to_ascii_lowercase}
use Rattle.std.specs.Str.{bytes_eq}
use Rattle.ps_base.specs.LetterCase.{is_same_name}
use Rattle.std.proofs.lemmas.Grind.{common_steps}
use Rattle.std.proofs.lemmas.List.{drop_more, get_or_append_left, get_or-map, length-map, ext_get_or}
use Rattle.std.proofs.lemmas.Slice.Eq.{bytes_eq-Decides}
use Rattle.ps_model.specs.Network.{Network, input_count, signal_name, no_signal}
use Rattle.ps_model.specs.declared.named.Signal.{Signal}
use Rattle.ps_trace.specs.Header.{input_names, input_named, inputs_named, names_another, times_named, not_once_each, place_of, names_said, header_said}
use Rattle.ps_trace.specs.Header.Header.{places, wrong}
use Rattle.ps_base.specs.declared.failing.Rule.TheVariants.{T1, T2, T3}
use Rattle.std.proofs.lemmas.List.FromFn.{get_or-map-range_with_len, length-range_with_len}
use Rattle.std.proofs.lemmas.List.Folds.{list_all_at, list_all-map}

-- what a comparison without letter case says
pub same_name : (found : Bool) (a b : List ℕ) → (IsTrue found ↔ (map to_ascii_lowercase a ≡ map to_ascii_lowercase b)) → is_same_name a b ≡ found
same_name found a b test = let decides = bytes_eq-Decides (map to_ascii_lowercase a) (map to_ascii_lowercase b) in grind (arith, common_steps)

-- the name of an input
pub input_name : (net : Network) (i : ℕ) → i < input_count net → get_or (input_names net) i [] ≡ signal_name net i
input_name net i within =
    get_or-map (λ s. s.name) net.inputs i no_signal [] within
    ∙ sym (ap (λ (s : Signal). s.name) (get_or_append_left net.inputs (net.outputs ++ net.locals) no_signal i within))

pub input_names-length : (net : Network) → length (input_names net) ≡ input_count net
input_names-length net = length-map net.inputs (λ s. s.name)

-- the name at a place is the one that was looked for, or the search goes on
pub name_found : (names : List (List ℕ)) (word : List ℕ) (i : ℕ) → i < length names → is_same_name word (get_or names i []) ≡ true →
    position_from (is_same_name word) i (drop i names) ≡ Some i
name_found names word i within same =
    ap (position_from (is_same_name word) i) (drop_more names i [] within) ∙ grind (arith, common_steps)

pub name_passed : (names : List (List ℕ)) (word : List ℕ) (i : ℕ) → i < length names → is_same_name word (get_or names i []) ≡ false →
    position_from (is_same_name word) i (drop i names) ≡ position_from (is_same_name word) (i + 1) (drop (i + 1) names)
name_passed names word i within differs =
    ap (position_from (is_same_name word) i) (drop_more names i [] within) ∙ grind (arith, common_steps)

-- one word more that names an input
pub named_more : (names words : List (List ℕ)) (word : List ℕ) (i : ℕ) → input_named names word ≡ Some i →
    inputs_named names (word ∷ words) ≡ i ∷ inputs_named names words
named_more names words word i is = grind (arith, common_steps)

pub known_more : (names words : List (List ℕ)) (word : List ℕ) (i : ℕ) → input_named names word ≡ Some i →
    names_another names (word ∷ words) ≡ names_another names words
known_more names words word i is = grind (arith, common_steps)

-- how often an input was named, with one word more
pub times_more : (times after rest : List ℕ) (j i : ℕ) → j < length times → after ≡ slice_set times j (slice_index times j + 1) →
    slice_index times i + times_named (j ∷ rest) i ≡ slice_index after i + times_named rest i
times_more times after rest j i within is = grind (arith, common_steps)

-- where it was named first, with one word more
pub places_more : (times after found moved rest : List ℕ) (j i count : ℕ) → j < length times → j < length found →
    after ≡ slice_set times j (slice_index times j + 1) → moved ≡ (if slice_index times j == 0 then slice_set found j count else found) →
    (if slice_index times i == 0 then position_from (λ k. k == i) count (j ∷ rest) else Some (slice_index found i))
    ≡ (if slice_index after i == 0 then position_from (λ k. k == i) (count + 1) rest else Some (slice_index moved i))
places_more times after found moved rest j i count in_times in_places is moves = grind (arith, common_steps)

pub few_more : (times after : List ℕ) (j i count : ℕ) → j < length times → after ≡ slice_set times j (slice_index times j + 1) →
    slice_index times i ≤ count → slice_index times j ≤ count → slice_index after i ≤ count + 1
few_more times after j i count within is few this = grind (arith, common_steps)

-- some test fails on a list where not all pass
any_fails : {X : Type 0} (p : X → Bool) (xs : List X) → list_any (λ x. not (p x)) xs ≡ not (list_all p xs)
any_fails p [] = refl
any_fails p (x ∷ xs) = let ih : list_any (λ x. not (p x)) xs ≡ not (list_all p xs) = any_fails p xs in grind (arith, common_steps)

-- the counts are those of the inputs
pub counts_are : (times named : List ℕ) (inputs : ℕ) → length times ≡ inputs → ((i : ℕ) → i < inputs → slice_index times i ≡ times_named named i) →
    times ≡ map (times_named named) (range_with_len 0 inputs)
counts_are times named inputs size each =
    ext_get_or 0 times (map (times_named named) (range_with_len 0 inputs)) (size ∙ sym (length-map (range_with_len 0 inputs) (times_named named) ∙ length-range_with_len 0 inputs))
    (λ i within. each i (omega arith) ∙ sym (get_or-map-range_with_len (times_named named) 0 inputs i i 0 (omega arith) (omega arith)))

pub once_each : (times named : List ℕ) (inputs : ℕ) → length times ≡ inputs → ((i : ℕ) → i < inputs → slice_index times i ≡ times_named named i) →
    not_once_each inputs named ≡ not (list_all (λ n. n == 1) times)
once_each times named inputs size each =
    any_fails (λ i. times_named named i == 1) (range_with_len 0 inputs)
    ∙ ap not (sym (list_all-map (λ (n : ℕ). n == 1) (times_named named) (range_with_len 0 inputs)))
    ∙ ap (λ (t : List ℕ). not (list_all (λ n. n == 1) t)) (sym (counts_are times named inputs size each))

-- each input that is named once stands at the place that was written
pub places_are : (times found named : List ℕ) (inputs : ℕ) → length times ≡ inputs → length found ≡ inputs → list_all (λ n. n == 1) times ≡ true →
    ((i : ℕ) → i < inputs → 0 < slice_index times i → position_from (λ j. j == i) 0 named ≡ Some (slice_index found i)) →
    found ≡ map (place_of named) (range_with_len 0 inputs)
places_are times found named inputs size room once each =
    ext_get_or 0 found (map (place_of named) (range_with_len 0 inputs)) (room ∙ sym (length-map (range_with_len 0 inputs) (place_of named) ∙ length-range_with_len 0 inputs))
    (λ i within.
    let one : slice_index times i ≡ 1 = all_one times i once (omega arith) in
    let here : position_from (λ j. j == i) 0 named ≡ Some (slice_index found i) = each i (omega arith) (omega arith) in
    ap (λ (p : Option ℕ). unwrap_or p 0) (sym here) ∙ sym (get_or-map-range_with_len (place_of named) 0 inputs i i 0 (omega arith) (omega arith)))
  where
    all_one : (ts : List ℕ) (i : ℕ) → list_all (λ n. n == 1) ts ≡ true → i < length ts → slice_index ts i ≡ 1
    all_one ts i all within = let at = list_all_at (λ (n : ℕ). n == 1) ts i 0 within in grind (arith, common_steps)

-- what the names say, case by case
pub said_T2 : (names words : List (List ℕ)) → names_another names words ≡ true → names_said names words ≡ wrong T2
said_T2 names words another = grind (arith, common_steps)

pub said_T3 : (names words : List (List ℕ)) (inputs : ℕ) → length names ≡ inputs → names_another names words ≡ false →
    not_once_each inputs (inputs_named names words) ≡ true → names_said names words ≡ wrong T3
said_T3 names words inputs size known twice = grind (arith, common_steps)

pub said_places : (names words : List (List ℕ)) (inputs : ℕ) (found : List ℕ) → length names ≡ inputs → names_another names words ≡ false →
    not_once_each inputs (inputs_named names words) ≡ false → found ≡ map (place_of (inputs_named names words)) (range_with_len 0 inputs) →
    names_said names words ≡ places found
said_places names words inputs found size known once is = grind (arith, common_steps)

-- what the words of a header say, case by case
pub said_T1 : (names all words : List (List ℕ)) (word : List ℕ) → all ≡ word ∷ words → bytes_eq word (codes "time") ≡ false → header_said names all ≡ wrong T1
said_T1 names all words word is other = ap (header_said names) is ∙ grind (arith, common_steps)

pub said_names : (names all words : List (List ℕ)) (word : List ℕ) → all ≡ word ∷ words → bytes_eq word (codes "time") ≡ true → header_said names all ≡ names_said names words
said_names names all words word is time = ap (header_said names) is ∙ grind (arith, common_steps)
