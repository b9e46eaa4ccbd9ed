-- The header of the trace of all cases is read as the inputs in their order.
use Rattle.std.proofs.Common.{◌≡◌, ◌≤◌, ◌<◌, ◌+◌, ◌++◌, ◌∙◌, ◌==◌, ◌⊎◌, inl, inr, ℕ, zero, suc, List, [], ◌∷◌, Bool, true, false, not, Option, Some, is_none, if◌then◌else◌, length, map, drop, get_or, slice_index, slice_index_or, filter_map, flat_map, replicate, codes, refl, sym, ap, subst, arith}
use Rattle.std.specs.List.{All, list_all, list_any, position_from, range_with_len}
use Rattle.std.specs.Prelude.{count_by}
use Rattle.std.proofs.lemmas.Grind.{common_steps}
use Rattle.std.proofs.lemmas.Bool.{cases_lt}
use Rattle.std.proofs.lemmas.List.{get_or_append_left, get_or-map, length-map, length-append, length-replicate, ext_get_or}
use Rattle.std.proofs.lemmas.List.FromFn.{get_or-map-range_with_len, length-range_with_len, length-map-range_with_len, get_or-range_with_len}
use Rattle.ps_base.specs.LetterCase.{SameName, is_same_name}
use Rattle.ps_model.specs.declared.named.Signal.{Signal}
use Rattle.ps_model.specs.Network.{Network, input_count, names, no_signal}
use Rattle.ps_model.specs.Sound.{IsSound}
use Rattle.ps_trace.specs.Words.{is_blank, onto_word, before_words, words, fields}
use Rattle.ps_trace.specs.Header.{input_names, input_named, inputs_named, times_named, not_once_each, place_of, header_said}
use Rattle.ps_trace.specs.Header.Header.{places}
use Rattle.ps_trace.specs.Scans.{inputs_of}
use Rattle.ps_trace.proofs.HeaderLemmas.{same_name, input_names-length, name_found, name_passed, once_each, places_are, said_places, said_names}
use Rattle.ps_bench_cases.specs.Traced.{IsWord, HasWords}
use Rattle.ps_bench_cases.proofs.ReadBack.{both_hold}

-- ---- Words.

-- a name after a space
spaced : List (List ℕ) → List ℕ
spaced ns = flat_map (λ n. 32 ∷ n) ns

not_true : (a : Bool) → not a ≡ true → a ≡ false
not_true true is = cc
not_true false is = refl

-- a byte before such names
one_before : (b : ℕ) (ns ws : List (List ℕ)) → before_words b (spaced ns) ws ≡ (b ∷ []) ∷ ws
unfolding spaced
one_before b [] ws = refl
one_before b (n ∷ ns) ws = refl

-- a word before them
word_before : (b : ℕ) (word : List ℕ) (ns : List (List ℕ)) → list_all (λ c. not (is_blank c)) (b ∷ word) ≡ true → words (spaced ns) ≡ ns → words ((b ∷ word) ++ spaced ns) ≡ (b ∷ word) ∷ ns
word_before b [] ns plain is =
    ap (λ (t : Bool). if t then words (spaced ns) else before_words b (spaced ns) (words (spaced ns))) (not_true (is_blank b) (both_hold (not (is_blank b)) true plain).0)
    ∙ one_before b ns (words (spaced ns)) ∙ ap (λ (ws : List (List ℕ)). (b ∷ []) ∷ ws) is
word_before b (c ∷ word) ns plain is =
    let both = both_hold (not (is_blank b)) (list_all (λ d. not (is_blank d)) (c ∷ word)) plain in
    let rest = (c ∷ word) ++ spaced ns in
    ap (λ (t : Bool). if t then words rest else before_words b rest (words rest)) (not_true (is_blank b) both.0)
    ∙ ap (λ (t : Bool). if t then (b ∷ []) ∷ words rest else onto_word b (words rest)) (not_true (is_blank c) (both_hold (not (is_blank c)) (list_all (λ d. not (is_blank d)) word) both.1).0)
    ∙ ap (onto_word b) (word_before c word ns both.1 is)

next_word : (n : List ℕ) (ns : List (List ℕ)) → IsWord n → words (spaced ns) ≡ ns → words (n ++ spaced ns) ≡ n ∷ ns
next_word [] ns word is = absurd (omega (arith, word.some))
next_word (b ∷ n) ns word is = word_before b n ns word.plain is

all_words : (ns : List (List ℕ)) → All IsWord ns → words (spaced ns) ≡ ns
unfolding spaced
all_words [] each = refl
all_words (n ∷ ns) each = next_word n ns (each 0 [] (omega arith)) (all_words ns (λ k d within. each (suc k) d (omega (arith, within))))

-- ---- Names.

-- each name is found at its place
found_from : (ns : List (List ℕ)) (i : ℕ) (count j : ℕ) → i < length ns → j + count ≡ i →
    ((k : ℕ) → k < i → is_same_name (get_or ns i []) (get_or ns k []) ≡ false) → position_from (is_same_name (get_or ns i [])) j (drop j ns) ≡ Some i
found_from ns i zero j within is differ =
    let here : j ≡ i = omega (arith, is) in
    subst (λ (k : ℕ). position_from (is_same_name (get_or ns i [])) k (drop k ns) ≡ Some i) (sym here)
    (name_found ns (get_or ns i []) i within (same_name true (get_or ns i []) (get_or ns i []) (λ t. refl, λ t. refl)))
found_from ns i (suc count) j within is differ =
    name_passed ns (get_or ns i []) j (omega (arith, is, within)) (differ j (omega (arith, is)))
    ∙ found_from ns i count (j + 1) within (omega (arith, is)) differ

-- what finds each element at its place finds all
listed : {X : Type 0} (f : X → Option ℕ) (xs : List X) (a : ℕ) → ((i : ℕ) (d : X) → i < length xs → f (get_or xs i d) ≡ Some (a + i)) →
    (filter_map f xs ≡ range_with_len a (length xs)) × (list_any (λ x. is_none (f x)) xs ≡ false)
listed {X} f [] a each = (refl, refl)
listed {X} f (x ∷ xs) a each =
    let one : f x ≡ Some a = each 0 x (omega arith) ∙ ap (λ (n : ℕ). Some n) (omega arith) in
    let rest = listed f xs (a + 1) (λ i d within. each (suc i) d (omega (arith, within)) ∙ ap (λ (n : ℕ). Some n) (omega arith)) in
    (grind (arith, common_steps, one, rest.0), grind (arith, common_steps, one, rest.1))

-- a number below a range is not in it, and one of it is in it once
none : (a n i : ℕ) → i < a → count_by (λ j. j == i) (range_with_len a n) ≡ 0
none a zero i below = refl
none a (suc n) i below = let rest : count_by (λ j. j == i) (range_with_len (a + 1) n) ≡ 0 = none (a + 1) n i (omega (arith, below)) in grind (arith, common_steps)

once_by : (a n i : ℕ) → a ≤ i → i < a + n → (a < i) ⊎ (i ≤ a) → count_by (λ j. j == i) (range_with_len a n) ≡ 1
once_by a zero i from upto which = absurd (omega (arith, from, upto))
once_by a (suc n) i from upto (inl later) =
    let rest : count_by (λ j. j == i) (range_with_len (a + 1) n) ≡ 1 = once_by (a + 1) n i (omega (arith, later)) (omega (arith, upto)) (cases_lt (a + 1) i) in grind (arith, common_steps)
once_by a (suc n) i from upto (inr here) =
    let rest : count_by (λ j. j == i) (range_with_len (a + 1) n) ≡ 0 = none (a + 1) n i (omega (arith, here)) in grind (arith, common_steps)

-- it stands at its place
stands : (a n i : ℕ) → a ≤ i → i < a + n → (a < i) ⊎ (i ≤ a) → position_from (λ j. j == i) a (range_with_len a n) ≡ Some i
stands a zero i from upto which = absurd (omega (arith, from, upto))
stands a (suc n) i from upto (inl later) =
    let rest : position_from (λ j. j == i) (a + 1) (range_with_len (a + 1) n) ≡ Some i = stands (a + 1) n i (omega (arith, later)) (omega (arith, upto)) (cases_lt (a + 1) i) in grind (arith, common_steps)
stands a (suc n) i from upto (inr here) = let is : a ≡ i = omega (arith, from, here) in grind (arith, common_steps)

-- ---- The header.

all_ones : (n : ℕ) → list_all (λ k. k == 1) (replicate n 1) ≡ true
all_ones zero = refl
all_ones (suc n) = all_ones n

-- the names of inputs, each after a space
spaced_names : (ss : List Signal) → flat_map (λ (s : Signal). 32 ∷ s.name) ss ≡ spaced (map (λ (s : Signal). s.name) ss)
unfolding spaced
spaced_names [] = refl
spaced_names (s ∷ ss) = ap (λ (bytes : List ℕ). (32 ∷ s.name) ++ bytes) (spaced_names ss)

one_at : (n i : ℕ) → i < n → slice_index (replicate n 1) i ≡ 1
one_at zero i within = absurd (omega (arith, within))
one_at (suc n) zero within = refl
one_at (suc n) (suc i) within = one_at n i (omega (arith, within))

module _ (net : Network) (sound : IsSound net) where
  -- an input stands first among all names
  first_names : (i : ℕ) → i < input_count net → get_or (names net) i [] ≡ get_or (input_names net) i []
  first_names i within =
      let declared : List Signal = net.inputs ++ (net.outputs ++ net.locals) in
      let size : length declared ≡ length net.inputs + length (net.outputs ++ net.locals) = length-append net.inputs (net.outputs ++ net.locals) in
      get_or_append_left (map (λ (s : Signal). s.name) declared) (map (λ i. i.name) net.instances) [] i (omega (arith, within, size, length-map declared (λ (s : Signal). s.name)))
      ∙ get_or-map (λ (s : Signal). s.name) declared i no_signal [] (omega (arith, within, size))
      ∙ ap (λ (s : Signal). s.name) (get_or_append_left net.inputs (net.outputs ++ net.locals) no_signal i within)
      ∙ sym (get_or-map (λ (s : Signal). s.name) net.inputs i no_signal [] within)

  -- names of inputs differ
  differ : (i k : ℕ) → i < input_count net → k < i → is_same_name (get_or (input_names net) i []) (get_or (input_names net) k []) ≡ false
  differ i k within before =
      let ns = input_names net in
      let declared : List Signal = net.inputs ++ (net.outputs ++ net.locals) in
      let size : i < length (names net) = omega (arith, within, length-append net.inputs (net.outputs ++ net.locals), length-map declared (λ (s : Signal). s.name), length-append (map (λ (s : Signal). s.name) declared) (map (λ i. i.name) net.instances)) in
      let apart : ¬ (SameName (get_or ns k []) (get_or ns i [])) =
      subst (λ (a : List ℕ). ¬ (SameName a (get_or ns i []))) (first_names k (omega (arith, within, before)))
      (subst (λ (b : List ℕ). ¬ (SameName (get_or (names net) k []) b)) (first_names i within) (sound.names_differ k i [] before size)) in
      same_name false (get_or ns i []) (get_or ns k []) (λ no. cc, λ same. absurd (apart (sym same)))

  found : (i : ℕ) (d : List ℕ) → i < length (input_names net) → input_named (input_names net) (get_or (input_names net) i d) ≡ Some (0 + i)
  found i d within =
      let ns = input_names net in
      let few : i < input_count net = omega (arith, within, input_names-length net) in
      let same : get_or ns i d ≡ get_or ns i [] = get_or-map (λ (s : Signal). s.name) net.inputs i no_signal d few ∙ sym (get_or-map (λ (s : Signal). s.name) net.inputs i no_signal [] few) in
      let here : i ≡ 0 + i = omega arith in
      ap (input_named ns) same ∙ found_from ns i i 0 within (omega arith) (λ k before. differ i k few before) ∙ ap (λ (k : ℕ). Some k) here

  pub header_back : HasWords net → header_said (input_names net) (fields (codes "time" ++ flat_map (λ s. 32 ∷ s.name) net.inputs)) ≡ places (range_with_len 0 (input_count net))
  header_back each =
      let ns = input_names net in let n = input_count net in
      let size : length ns ≡ n = input_names-length net in
      let all : fields (codes "time" ++ flat_map (λ s. 32 ∷ s.name) net.inputs) ≡ codes "time" ∷ ns =
      ap (λ (bytes : List ℕ). fields (codes "time" ++ bytes)) (spaced_names net.inputs) ∙ word_before 116 (codes "ime") ns refl (all_words ns each) in
      let listed_all = listed (input_named ns) ns 0 found in
      let numbers : inputs_named ns ns ≡ range_with_len 0 n = listed_all.0 ∙ ap (range_with_len 0) size in
      let ones : List ℕ = replicate n 1 in
      let once_in : (i : ℕ) → i < n → slice_index ones i ≡ times_named (range_with_len 0 n) i = λ i within. one_at n i within ∙ sym (once_by 0 n i (omega arith) (omega (arith, within)) (cases_lt 0 i)) in
      let one_each : not_once_each n (inputs_named ns ns) ≡ false =
      ap (not_once_each n) numbers ∙ once_each ones (range_with_len 0 n) n (length-replicate n 1) once_in ∙ ap not (all_ones n) in
      let place : (i : ℕ) → i < n → i ≡ slice_index (range_with_len 0 n) i = λ i within. omega (arith, get_or-range_with_len 0 n i 0 within) in
      let at_places : range_with_len 0 n ≡ map (place_of (inputs_named ns ns)) (range_with_len 0 n) =
      places_are ones (range_with_len 0 n) (range_with_len 0 n) n (length-replicate n 1) (length-range_with_len 0 n) (all_ones n)
      (λ i within some. stands 0 n i (omega arith) (omega (arith, within)) (cases_lt 0 i) ∙ ap (λ (k : ℕ). Some k) (place i within))
      ∙ ap (λ (named : List ℕ). map (place_of named) (range_with_len 0 n)) (sym numbers) in
      said_names ns _ ns (codes "time") all refl ∙ said_places ns ns n (range_with_len 0 n) size listed_all.1 one_each at_places

-- the values of a line are those of the inputs
pub values_back : (ins : List Bool) → inputs_of (range_with_len 0 (length ins)) ins ≡ ins
values_back ins =
    ext_get_or false (inputs_of (range_with_len 0 (length ins)) ins) ins (length-map-range_with_len (λ place. slice_index_or ins place false) 0 (length ins))
    (λ i within. get_or-map-range_with_len (λ place. slice_index_or ins place false) 0 (length ins) i i false (omega (arith, within, length-map-range_with_len (λ place. slice_index_or ins place false) 0 (length ins))) (omega arith))
