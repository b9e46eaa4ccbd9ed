-- A name that was read is read again as it is written.
use Rattle.std.proofs.Common.{◌≡◌, ◌≤◌, ◌<◌, ◌+◌, ◌-◌, ◌++◌, ◌∙◌, ◌&&◌, ℕ, zero, suc, List, [], ◌∷◌, Bool, true, false, not, cond, Option, Some, None, if◌then◌else◌, length, take, drop, get_or, reverse, nat_lt, refl, sym, ap, subst, arith, append_assoc}
use Rattle.std.specs.Prelude.{slice_get}
use Rattle.std.specs.Option.{unwrap_or}
use Rattle.std.specs.List.{before_last, after_last, list_all, position_from, suffix_len}
use Rattle.std.specs.Char.{to_ascii_lowercase}
use Rattle.std.specs.Str.{bytes_eq}
use Rattle.std.proofs.lemmas.Bool.Decides.{nat_tests}
use Rattle.std.proofs.lemmas.List.{drop_more, get_or-append-add, get_or-reverse, length-append, length-map, length-reverse, map-append, take-append-drop}
use Rattle.std.proofs.lemmas.List.Folds.{list_all-append}
use Rattle.std.proofs.lemmas.List.Sums.{prefix_len_stops}
use Rattle.std.proofs.lemmas.Slice.Eq.{bytes_eq-Decides}
use Rattle.ps_base.specs.LetterCase.{folded, is_same_name}
use Rattle.ps_lexer.specs.Spelling.{continues_name}
use Rattle.ps_model.specs.Blocks.{block}
use Rattle.ps_model.specs.Network.{Network, declared_count, instance_count, instance_name, kind_at, names, signal_name}
use Rattle.ps_model.specs.Pins.{pin_names, pin_rows}
use Rattle.ps_model.specs.declared.kind.Kind.{Kind}
use Rattle.ps_model.specs.declared.kind.Kind.TheVariants.{Equivalent, Antivalent, EmergencyStop, Espe, ModeSelector, TwoHandTwo, TwoHandThree, GuardMonitoring, GuardLocking, EnableSwitch, SafetyRequest, OutControl, Edm}
use Rattle.ps_model.specs.declared.pins.PinRow.{PinRow}
use Rattle.ps_bench_cases.proofs.ReadBack.{both_hold}
use Rattle.ps_bench_names.specs.Names.{boolean_pin, either_name, instance_names, is_dot, is_time, name_of, number_named, pin_at, pin_named, pin_of, signal_names}
use Rattle.ps_bench_names.specs.declared.name.Name.{Name}
use Rattle.ps_bench_names.specs.declared.name.Name.TheVariants.{Code, Pin, Signal}
use Rattle.ps_bench_names.proofs.Cutting.{last_dot}
use Rattle.ps_bench_names.proofs.Naming.{instance_name_at, instance_names-length, signal_name_at, signal_names-length}
use Rattle.ps_bench_never.specs.Pieces.{instance_text, name_text, pin_text, signal_text}
use Rattle.ps_bench_never.specs.ReadBack.{HasProperNames, is_name_byte}

-- ---- The number of a name.

-- words are the same without letter case
folds : (a b : List ℕ) → is_same_name a b ≡ true → folded a ≡ folded b
folds a b is = (bytes_eq-Decides (folded a) (folded b)).0 is

-- such words are one name
alike : (ns : List (List ℕ)) (a b : List ℕ) → folded a ≡ folded b → number_named ns a ≡ number_named ns b
alike ns a b same = ap (λ (f : List ℕ). position_from (λ n. bytes_eq f (folded n)) 0 ns) same

-- a name is the same as the one at the number that is found
record IsAt (w : List ℕ) (ns : List (List ℕ)) (j k : ℕ) : Type 0 where
  place : ℕ
  far : j + place ≡ k
  inside : place < length ns
  same : folded w ≡ folded (get_or ns place [])

found_by : (b : Bool) (w n : List ℕ) (ns : List (List ℕ)) (j k : ℕ) → is_same_name w n ≡ b →
    (position_from (is_same_name w) (j + 1) ns ≡ Some k → IsAt w ns (j + 1) k) → cond b (Some j) (position_from (is_same_name w) (j + 1) ns) ≡ Some k → IsAt w (n ∷ ns) j k
found_by true w n ns j k same later is =
    let at : j ≡ k = cc in record { place = 0; far = omega (arith, at); inside = omega arith; same = folds w n same }
found_by false w n ns j k same later is =
    let more = later is in
    record { place = suc more.place; far = omega (arith, more.far); inside = omega (arith, more.inside); same = more.same }

found_at : (w : List ℕ) (ns : List (List ℕ)) (j k : ℕ) → position_from (is_same_name w) j ns ≡ Some k → IsAt w ns j k
found_at w [] j k is = let no : ⊥ = cc in absurd no
found_at w (n ∷ ns) j k is = found_by (is_same_name w n) w n ns j k refl (found_at w ns (j + 1) k) is

numbered : (ns : List (List ℕ)) (w : List ℕ) (k : ℕ) → number_named ns w ≡ Some k → (k < length ns) × (folded w ≡ folded (get_or ns k []))
numbered ns w k is =
    let at = found_at w ns 0 k is in
    let here : at.place ≡ k = omega (arith, at.far) in
    (omega (arith, at.inside, here), at.same ∙ ap (λ (i : ℕ). folded (get_or ns i [])) here)

module _ (net : Network) where
  signal_same : (w : List ℕ) (s : ℕ) → number_named (signal_names net) w ≡ Some s → folded w ≡ folded (signal_text net s)
  signal_same w s is =
      let at = numbered (signal_names net) w s is in
      let inside : s < declared_count net = omega (arith, at.0, signal_names-length net) in
      let yes : nat_lt s (declared_count net) ≡ true = grind (arith, nat_tests) in
      at.1 ∙ ap folded (signal_name_at net s inside ∙ sym (ap (λ (t : Bool). if t then signal_name net s else []) yes))

  instance_is : (i : ℕ) → i < instance_count net → instance_text net i ≡ instance_name net i
  instance_is i inside =
      let yes : nat_lt i (instance_count net) ≡ true = grind (arith, nat_tests) in
      ap (λ (t : Bool). if t then instance_name net i else []) yes

  instance_same : (w : List ℕ) (i : ℕ) → number_named (instance_names net) w ≡ Some i → (i < instance_count net) × (folded w ≡ folded (instance_text net i))
  instance_same w i is =
      let at = numbered (instance_names net) w i is in
      let inside : i < instance_count net = omega (arith, at.0, instance_names-length net) in
      (inside, at.1 ∙ ap folded (instance_name_at net i inside ∙ sym (instance_is i inside)))

  got : (ns : List (List ℕ)) (j : ℕ) → unwrap_or (slice_get ns j) [] ≡ get_or ns j []
  got [] j = refl
  got (n ∷ ns) zero = refl
  got (n ∷ ns) (suc j) = got ns j

  pin_is : (i j : ℕ) → i < instance_count net → pin_text net i j ≡ get_or (pin_names (kind_at net i)) j []
  pin_is i j inside =
      let yes : nat_lt i (instance_count net) ≡ true = grind (arith, nat_tests) in
      ap (λ (t : Bool). if t then unwrap_or (slice_get (pin_names (kind_at net i)) j) [] else []) yes ∙ got (pin_names (kind_at net i)) j

  pin_same : (w : List ℕ) (i j : ℕ) → i < instance_count net → number_named (pin_names (kind_at net i)) w ≡ Some j → folded w ≡ folded (pin_text net i j)
  pin_same w i j inside is = (numbered (pin_names (kind_at net i)) w j is).1 ∙ ap folded (sym (pin_is i j inside))

-- ---- Words with a dot.

-- no byte is a dot
abbrev has_no_dot : List ℕ → Bool
has_no_dot bytes = list_all (λ b. not (is_dot b)) bytes

no_dot_at : (bytes : List ℕ) (k : ℕ) → has_no_dot bytes ≡ true → is_dot (get_or bytes k 0) ≡ false
no_dot_at [] k are = refl
no_dot_at (b ∷ bytes) zero are = let one : not (is_dot b) ≡ true = (both_hold (not (is_dot b)) (has_no_dot bytes) are).0 in grind (arith, nat_tests)
no_dot_at (b ∷ bytes) (suc k) are = no_dot_at bytes k (both_hold (not (is_dot b)) (has_no_dot bytes) are).1

front_of : (a : List ℕ) (b : ℕ) (c : List ℕ) → take (length a) (a ++ b ∷ c) ≡ a
front_of [] b c = refl
front_of (x ∷ a) b c = ap (λ (l : List ℕ). x ∷ l) (front_of a b c)

back_of : (a : List ℕ) (b : ℕ) (c : List ℕ) → drop (suc (length a)) (a ++ b ∷ c) ≡ c
back_of [] b c = refl
back_of (x ∷ a) b c = back_of a b c

module _ (front pin : List ℕ) (bare : has_no_dot pin ≡ true) where
  abbrev dotted : List ℕ
  dotted = front ++ 46 ∷ pin

  after_dot : (k : ℕ) → length front + 1 ≤ k → is_dot (get_or dotted k 0) ≡ false
  after_dot k far =
      let step : length front + (1 + (k - length front - 1)) ≡ k = omega (arith, far) in
      let next : 1 + (k - length front - 1) ≡ suc (k - length front - 1) = omega arith in
      ap (λ (n : ℕ). is_dot (get_or dotted n 0)) (sym step) ∙ ap is_dot (get_or-append-add front (46 ∷ pin) (1 + (k - length front - 1)) 0)
      ∙ ap (λ (n : ℕ). is_dot (get_or (46 ∷ pin) n 0)) next ∙ no_dot_at pin (k - length front - 1) bare

  at_dot : is_dot (get_or dotted (length front + 1 - 1) 0) ≡ true
  at_dot =
      let here : length front + 1 - 1 ≡ length front + 0 = omega arith in
      ap (λ (n : ℕ). is_dot (get_or dotted n 0)) here ∙ ap is_dot (get_or-append-add front (46 ∷ pin) 0 0)

  dot_place : length dotted - suffix_len (λ b. not (is_dot b)) dotted ≡ length front + 1
  dot_place = last_dot dotted (length front + 1) (omega (arith, length-append front (46 ∷ pin))) (λ k far inside. after_dot k far) (λ some. at_dot)

  before_dot : before_last is_dot dotted ≡ front
  before_dot =
      let back : length front + 1 - 1 ≡ length front = omega arith in
      ap (λ (n : ℕ). take (n - 1) dotted) dot_place ∙ ap (λ (n : ℕ). take n dotted) back ∙ front_of front 46 pin

  behind_dot : after_last is_dot dotted ≡ pin
  behind_dot =
      let next : length front + 1 ≡ suc (length front) = omega arith in
      ap (λ (n : ℕ). drop n dotted) dot_place ∙ ap (λ (n : ℕ). drop n dotted) next ∙ back_of front 46 pin

-- a word with bytes before its last dot is those, a dot, and what is after it
cut_at_dot : (w : List ℕ) → 0 < length (before_last is_dot w) → w ≡ before_last is_dot w ++ 46 ∷ after_last is_dot w
cut_at_dot w some =
    let tail = suffix_len (λ b. not (is_dot b)) w in
    let at = length w - tail in
    let few : length (take (at - 1) w) ≤ at - 1 = few_taken (at - 1) w in
    let inside : tail < length w = omega (arith, some, few) in
    let stops : not (is_dot (get_or (reverse w) tail 0)) ≡ false = prefix_len_stops (λ b. not (is_dot b)) (reverse w) 0 (omega (arith, inside, length-reverse w)) in
    let there : get_or (reverse w) tail 0 ≡ get_or w (at - 1) 0 =
    get_or-reverse w tail 0 inside ∙ ap (λ (k : ℕ). get_or w k 0) (omega (arith, inside)) in
    let dot : get_or w (at - 1) 0 ≡ 46 = dot_is (get_or w (at - 1) 0) (ap (λ (b : ℕ). not (is_dot b)) (sym there) ∙ stops) in
    let next : at - 1 + 1 ≡ at = omega (arith, some, few) in
    sym (take-append-drop (at - 1) w)
    ∙ ap (λ (rest : List ℕ). take (at - 1) w ++ rest) (drop_more w (at - 1) 0 (omega (arith, some, few)))
    ∙ ap (λ (b : ℕ). take (at - 1) w ++ b ∷ drop (at - 1 + 1) w) dot
    ∙ ap (λ (k : ℕ). take (at - 1) w ++ 46 ∷ drop k w) next
  where
    few_taken : (k : ℕ) (xs : List ℕ) → length (take k xs) ≤ k
    few_taken zero xs = omega arith
    few_taken (suc k) [] = omega arith
    few_taken (suc k) (x ∷ xs) = let rest = few_taken k xs in omega (arith, rest)

    dot_is : (b : ℕ) → not (is_dot b) ≡ false → b ≡ 46
    dot_is b is = grind (arith, nat_tests)

-- ---- Names of pins.

-- names have letters, digits and `_` alone
abbrev are_words : List (List ℕ) → Bool
are_words ns = list_all (λ n. list_all continues_name n) ns

pins_are_words : (kind : Kind) → are_words (pin_names kind) ≡ true
unfolding block
pins_are_words Equivalent = refl
pins_are_words Antivalent = refl
pins_are_words EmergencyStop = refl
pins_are_words Espe = refl
pins_are_words ModeSelector = refl
pins_are_words TwoHandTwo = refl
pins_are_words TwoHandThree = refl
pins_are_words GuardMonitoring = refl
pins_are_words GuardLocking = refl
pins_are_words EnableSwitch = refl
pins_are_words SafetyRequest = refl
pins_are_words OutControl = refl
pins_are_words Edm = refl

word_at : (ns : List (List ℕ)) (j : ℕ) → are_words ns ≡ true → list_all continues_name (get_or ns j []) ≡ true
word_at [] j are = refl
word_at (n ∷ ns) zero are = (both_hold (list_all continues_name n) (are_words ns) are).0
word_at (n ∷ ns) (suc j) are = word_at ns j (both_hold (list_all continues_name n) (are_words ns) are).1

word_has_no_dot : (bytes : List ℕ) → list_all continues_name bytes ≡ true → has_no_dot bytes ≡ true
word_has_no_dot [] are = refl
word_has_no_dot (b ∷ bytes) are =
    let both = both_hold (continues_name b) (list_all continues_name bytes) are in
    let here : continues_name b ≡ true = both.0 in
    let one : not (is_dot b) ≡ true = grind (arith, nat_tests) in
    ap (λ (t : Bool). t && has_no_dot bytes) one ∙ word_has_no_dot bytes both.1

word_is_name : (bytes : List ℕ) → list_all continues_name bytes ≡ true → list_all is_name_byte bytes ≡ true
word_is_name [] are = refl
word_is_name (b ∷ bytes) are =
    let both = both_hold (continues_name b) (list_all continues_name bytes) are in
    let here : continues_name b ≡ true = both.0 in
    let one : is_name_byte b ≡ true = grind (arith, nat_tests) in
    ap (λ (t : Bool). t && list_all is_name_byte bytes) one ∙ word_is_name bytes both.1

-- ---- A name that was read.

module _ (net : Network) (proper : HasProperNames net) where
  instance_some : (i : ℕ) → i < instance_count net → 0 < length (instance_text net i)
  instance_some i inside =
      let declared = signal_names net in
      let at : get_or (names net) (length declared + i) [] ≡ get_or (instance_names net) i [] = get_or-append-add declared (instance_names net) i [] in
      let all : length (names net) ≡ length declared + length (instance_names net) = length-append declared (instance_names net) in
      let one = proper (length declared + i) [] (omega (arith, inside, all, instance_names-length net)) in
      let is : get_or (names net) (length declared + i) [] ≡ instance_text net i = at ∙ instance_name_at net i inside ∙ sym (instance_is net i inside) in
      subst (λ (name : List ℕ). 0 < length name) is one.some

  -- a pin by the parts of its text
  module _ (w : List ℕ) (signals : number_named (signal_names net) w ≡ None) (instances : number_named (instance_names net) w ≡ None) where
    by_row : (i j : ℕ) (row : Option PinRow) (n : Name) → boolean_pin i j row ≡ Some n → n ≡ Pin i j
    by_row i j None n is = let no : ⊥ = cc in absurd no
    by_row i j (Some row) n is = chosen (is_time row.ty) is
      where
        chosen : (b : Bool) → (if b then None else Some (Pin i j)) ≡ Some n → n ≡ Pin i j
        chosen true is = let no : ⊥ = cc in absurd no
        chosen false is = cc

    pin_back : (i j : ℕ) (n : Name) → number_named (instance_names net) (before_last is_dot w) ≡ Some i →
        number_named (pin_names (kind_at net i)) (after_last is_dot w) ≡ Some j → pin_at (kind_at net i) i (Some j) ≡ Some n → name_of net (name_text net n) ≡ Some n
    pin_back i j n instance pin row =
        let inside = (instance_same net (before_last is_dot w) i instance).0 in
        let same_front : folded (before_last is_dot w) ≡ folded (instance_text net i) = (instance_same net (before_last is_dot w) i instance).1 in
        let same_back : folded (after_last is_dot w) ≡ folded (pin_text net i j) = pin_same net (after_last is_dot w) i j inside pin in
        let front = instance_text net i in
        let back = pin_text net i j in
        let bare : has_no_dot back ≡ true =
        ap has_no_dot (pin_is net i j inside) ∙ word_has_no_dot (get_or (pin_names (kind_at net i)) j []) (word_at (pin_names (kind_at net i)) j (pins_are_words (kind_at net i))) in
        let some : 0 < length (before_last is_dot w) =
        omega (
          arith,
          instance_some i inside,
          length-map (before_last is_dot w) to_ascii_lowercase,
          length-map front to_ascii_lowercase,
          ap (λ (bytes : List ℕ). length bytes) same_front,
        ) in
        let text = front ++ 46 ∷ back in
        let same : folded w ≡ folded text =
        ap folded (cut_at_dot w some) ∙ map-append to_ascii_lowercase (before_last is_dot w) (46 ∷ after_last is_dot w)
        ∙ ap (λ (bytes : List ℕ). bytes ++ 46 ∷ folded (after_last is_dot w)) same_front ∙ ap (λ (bytes : List ℕ). folded front ++ 46 ∷ bytes) same_back
        ∙ sym (map-append to_ascii_lowercase front (46 ∷ back)) in
        let no_signal : number_named (signal_names net) text ≡ None = sym (alike (signal_names net) w text same) ∙ signals in
        let no_instance : number_named (instance_names net) text ≡ None = sym (alike (instance_names net) w text same) ∙ instances in
        let its_instance : number_named (instance_names net) (before_last is_dot text) ≡ Some i =
        ap (number_named (instance_names net)) (before_dot front back bare) ∙ sym (alike (instance_names net) (before_last is_dot w) front same_front) ∙ instance in
        let its_pin : number_named (pin_names (kind_at net i)) (after_last is_dot text) ≡ Some j =
        ap (number_named (pin_names (kind_at net i))) (behind_dot front back bare) ∙ sym (alike (pin_names (kind_at net i)) (after_last is_dot w) back same_back) ∙ pin in
        let is : n ≡ Pin i j = by_row i j (slice_get (pin_rows (kind_at net i)) j) n row in
        let whole : name_text net (Pin i j) ≡ text = append_assoc front (46 ∷ []) back in
        let named : pin_named net text ≡ Some n =
        ap (λ (at : Option ℕ). pin_of net at (after_last is_dot text)) its_instance ∙ ap (pin_at (kind_at net i) i) its_pin ∙ row in
        ap (λ (m : Name). name_of net (name_text net m)) is ∙ ap (name_of net) whole
        ∙ ap (λ (a : Option ℕ). either_name a (number_named (instance_names net) text) (pin_named net text)) no_signal
        ∙ ap (λ (b : Option ℕ). either_name None b (pin_named net text)) no_instance ∙ named

    pin_by : (i : ℕ) (j : Option ℕ) (n : Name) → number_named (instance_names net) (before_last is_dot w) ≡ Some i →
        number_named (pin_names (kind_at net i)) (after_last is_dot w) ≡ j → pin_at (kind_at net i) i j ≡ Some n → name_of net (name_text net n) ≡ Some n
    pin_by i None n instance pin is = let no : ⊥ = cc in absurd no
    pin_by i (Some j) n instance pin is = pin_back i j n instance pin is

    pin_named_back : (i : Option ℕ) (n : Name) → number_named (instance_names net) (before_last is_dot w) ≡ i → pin_of net i (after_last is_dot w) ≡ Some n →
        name_of net (name_text net n) ≡ Some n
    pin_named_back None n instance is = let no : ⊥ = cc in absurd no
    pin_named_back (Some i) n instance is = pin_by i (number_named (pin_names (kind_at net i)) (after_last is_dot w)) n instance refl is

  name_by : (a b : Option ℕ) (w : List ℕ) (n : Name) → number_named (signal_names net) w ≡ a → number_named (instance_names net) w ≡ b →
      either_name a b (pin_named net w) ≡ Some n → name_of net (name_text net n) ≡ Some n
  name_by (Some s) b w n signals instances is =
      let same : folded w ≡ folded (signal_text net s) = signal_same net w s signals in
      let found : number_named (signal_names net) (signal_text net s) ≡ Some s = sym (alike (signal_names net) w (signal_text net s) same) ∙ signals in
      let own : n ≡ Signal s = cc in
      ap (λ (m : Name). name_of net (name_text net m)) own
      ∙ ap (λ (t : Option ℕ). either_name t (number_named (instance_names net) (signal_text net s)) (pin_named net (signal_text net s))) found ∙ is
  name_by None (Some i) w n signals instances is =
      let same : folded w ≡ folded (instance_text net i) = (instance_same net w i instances).1 in
      let text = instance_text net i in
      let none : number_named (signal_names net) text ≡ None = sym (alike (signal_names net) w text same) ∙ signals in
      let found : number_named (instance_names net) text ≡ Some i = sym (alike (instance_names net) w text same) ∙ instances in
      let own : n ≡ Code i = cc in
      ap (λ (m : Name). name_of net (name_text net m)) own
      ∙ ap (λ (t : Option ℕ). either_name t (number_named (instance_names net) text) (pin_named net text)) none
      ∙ ap (λ (t : Option ℕ). either_name None t (pin_named net text)) found ∙ is
  name_by None None w n signals instances is =
      pin_named_back w signals instances (number_named (instance_names net) (before_last is_dot w)) n refl is

  pub name_back : (w : List ℕ) (n : Name) → name_of net w ≡ Some n → name_of net (name_text net n) ≡ Some n
  name_back w n is = name_by (number_named (signal_names net) w) (number_named (instance_names net) w) w n refl refl is

  -- ---- The bytes of a name.

  pub proper_signal : (s : ℕ) (b : Bool) → nat_lt s (declared_count net) ≡ b → list_all is_name_byte (signal_text net s) ≡ true
  proper_signal s true is =
      let inside : s < declared_count net = grind (arith, nat_tests) in
      let declared = signal_names net in
      let all : length (names net) ≡ length declared + length (instance_names net) = length-append declared (instance_names net) in
      let at : get_or (names net) s [] ≡ get_or declared s [] = left_of declared (instance_names net) s (omega (arith, inside, signal_names-length net)) in
      ap (λ (t : Bool). list_all is_name_byte (if t then signal_name net s else [])) is
      ∙ ap (list_all is_name_byte) (sym (at ∙ signal_name_at net s inside)) ∙ (proper s [] (omega (arith, inside, all, signal_names-length net))).bytes
    where
      left_of : (xs ys : List (List ℕ)) (k : ℕ) → k < length xs → get_or (xs ++ ys) k [] ≡ get_or xs k []
      left_of [] ys k inside = absurd (omega (arith, inside))
      left_of (x ∷ xs) ys zero inside = refl
      left_of (x ∷ xs) ys (suc k) inside = left_of xs ys k (omega (arith, inside))
  proper_signal s false is = ap (λ (t : Bool). list_all is_name_byte (if t then signal_name net s else [])) is

  proper_instance : (i : ℕ) (b : Bool) → nat_lt i (instance_count net) ≡ b → list_all is_name_byte (instance_text net i) ≡ true
  proper_instance i true is =
      let inside : i < instance_count net = grind (arith, nat_tests) in
      let declared = signal_names net in
      let all : length (names net) ≡ length declared + length (instance_names net) = length-append declared (instance_names net) in
      let at : get_or (names net) (length declared + i) [] ≡ get_or (instance_names net) i [] = get_or-append-add declared (instance_names net) i [] in
      ap (λ (t : Bool). list_all is_name_byte (if t then instance_name net i else [])) is
      ∙ ap (list_all is_name_byte) (sym (at ∙ instance_name_at net i inside)) ∙ (proper (length declared + i) [] (omega (arith, inside, all, instance_names-length net))).bytes
  proper_instance i false is = ap (λ (t : Bool). list_all is_name_byte (if t then instance_name net i else [])) is

  proper_pin : (i j : ℕ) (b : Bool) → nat_lt i (instance_count net) ≡ b → list_all is_name_byte (pin_text net i j) ≡ true
  proper_pin i j true is =
      let inside : i < instance_count net = grind (arith, nat_tests) in
      ap (list_all is_name_byte) (pin_is net i j inside)
      ∙ word_is_name (get_or (pin_names (kind_at net i)) j []) (word_at (pin_names (kind_at net i)) j (pins_are_words (kind_at net i)))
  proper_pin i j false is = ap (λ (t : Bool). list_all is_name_byte (if t then unwrap_or (slice_get (pin_names (kind_at net i)) j) [] else [])) is

  name_both : (a b : List ℕ) → list_all is_name_byte a ≡ true → list_all is_name_byte b ≡ true → list_all is_name_byte (a ++ b) ≡ true
  name_both a b first second = list_all-append is_name_byte a b ∙ ap (λ (t : Bool). t && list_all is_name_byte b) first ∙ second

  pub name_bytes : (n : Name) → list_all is_name_byte (name_text net n) ≡ true
  name_bytes (Signal s) = proper_signal s (nat_lt s (declared_count net)) refl
  name_bytes (Code i) = proper_instance i (nat_lt i (instance_count net)) refl
  name_bytes (Pin i j) =
      name_both (instance_text net i ++ 46 ∷ []) (pin_text net i j)
      (name_both (instance_text net i) (46 ∷ []) (proper_instance i (nat_lt i (instance_count net)) refl) refl)
      (proper_pin i j (nat_lt i (instance_count net)) refl)
