-- What the lines of a rules file name is of its application.
use Rattle.std.proofs.Common.{◌≡◌, ◌<◌, ◌+◌, ◌-◌, ℕ, suc, take, List, [], ◌∷◌, Bool, true, false, Option, Some, None, Result, Ok, Err, IfOk, IfSome, codes, fold, length, nat_lt, if◌then◌else◌, refl, subst, arith}
use Rattle.std.specs.List.{All, after_first, before_first, list_any, position_from}
use Rattle.std.specs.Str.{bytes_eq}
use Rattle.std.proofs.lemmas.Bool.{ltb-true}
use Rattle.std.proofs.lemmas.List.Elements.{All-nil, All-push}
use Rattle.ps_base.specs.LetterCase.{is_same_name}
use Rattle.ps_model.specs.Network.{Network, declared_count, input_count, instance_count, kind_at}
use Rattle.ps_model.specs.Pins.{pin_count, pin_names}
use Rattle.ps_model.specs.declared.pins.PinRow.{PinRow}
use Rattle.ps_bench_names.specs.Names.{IsNameOf, boolean_pin, either_name, has_equals, input_in, instance_names, is_denied, is_time, name_of, name_part, number_named, pin_at, pin_named, pin_of, signal_names, truth_of, value_part}
use Rattle.ps_bench_names.specs.declared.name.Name.{Name}
use Rattle.ps_bench_names.specs.declared.name.Name.TheVariants.{Pin}
use Rattle.ps_bench_names.proofs.Naming.{signal_names-length, instance_names-length}
use Rattle.ps_bench_rules.specs.Parts.{and_then}
use Rattle.ps_bench_rules.specs.Standing.{IsOfInput, IsOfName}
use Rattle.ps_bench_rules.specs.Words.{among_said, is_at, compare_said, condition_of, condition_said, conditions_said, denied_said, named_when, setting_of, setting_said, settings_said, term_of}
use Rattle.ps_bench_rules.specs.declared.flaw.Flaw.{Flaw}

-- of two answers each of which has what is wanted, either has it
pub either_has : {A : Type 0} (P : A → Type 0) (b : Bool) (r s : Result A Flaw) → IfOk r P → IfOk s P → IfOk (if b then r else s) P
either_has P true r s first second = first
either_has P false r s first second = second

-- parts that have it, with one more after them
push_has : {A : Type 0} (P : A → Type 0) (found : Result (List A) Flaw) (next : Result A Flaw) → IfOk found (All P) → IfOk next P → IfOk (and_then found next) (All P)
push_has P (Ok found) (Ok a) before is = All-push P found a before is
push_has P (Ok found) (Err s) before is = tt
push_has P (Err r) (Ok a) before is = tt
push_has P (Err r) (Err s) before is = tt

-- all parts of a line have it where each word has
found_have : {A : Type 0} (P : A → Type 0) (said : List ℕ → Result A Flaw) → ((word : List ℕ) → IfOk (said word) P) →
    (words : List (List ℕ)) (found : Result (List A) Flaw) → IfOk found (All P) → IfOk (fold (λ found word. and_then found (said word)) found words) (All P)
found_have P said each [] found before = before
found_have P said each (word ∷ words) found before = found_have P said each words (and_then found (said word)) (push_has P found (said word) before (each word))

-- a place that was found is one of the list
place_within : {X : Type 0} (p : X → Bool) (i : ℕ) (xs : List X) → IfSome (position_from p i xs) (λ s. s < i + length xs)
place_within p i [] = tt
place_within p i (x ∷ xs) = here (p x) (position_from p (i + 1) xs) (place_within p (i + 1) xs)
  where
    here : (b : Bool) (found : Option ℕ) → IfSome found (λ s. s < i + 1 + length xs) → IfSome (if b then Some i else found) (λ s. s < i + suc (length xs))
    here true found has = omega arith
    here false None has = tt
    here false (Some s) has = omega (arith, has)

-- a name that is found by its number is one of the names
named_within : (names : List (List ℕ)) (word : List ℕ) (count : ℕ) → length names ≡ count → IfSome (number_named names word) (λ s. s < count)
named_within names word count is =
    let all : 0 + length names ≡ count = omega (arith, is) in
    subst (λ n. IfSome (number_named names word) (λ s. s < n)) all (place_within (is_same_name word) 0 names)

module _ (net : Network) where
  -- ---- Settings.

  below : (signal : ℕ) (value : Option Bool) (within : Bool) → (within ≡ true → signal < input_count net) → IfOk (setting_of (if within then Some signal else None) value) (IsOfInput net)
  below signal None true less = tt
  below signal (Some value) true less = less refl
  below signal value false less = tt

  input_has : (found : Option ℕ) (value : Option Bool) → IfOk (setting_of (input_in net found) value) (IsOfInput net)
  input_has None value = tt
  input_has (Some signal) value = below signal value (nat_lt signal (input_count net)) (λ is. ltb-true signal (input_count net) is)

  setting_has : (word : List ℕ) → IfOk (setting_said net word) (IsOfInput net)
  setting_has word =
      either_has (IsOfInput net) (has_equals word) (setting_of (input_in net (number_named (signal_names net) (name_part word))) (truth_of (value_part word))) _
      (input_has (number_named (signal_names net) (name_part word)) (truth_of (value_part word))) tt

  pub settings_have : (words : List (List ℕ)) → IfOk (settings_said net words) (All (IsOfInput net))
  settings_have words = found_have (IsOfInput net) (setting_said net) setting_has words (Ok []) (All-nil (IsOfInput net))

  -- ---- Names.

  boolean_has : (i j : ℕ) (row : Option PinRow) → i < instance_count net → j < pin_count (kind_at net i) → IfSome (boolean_pin i j row) (IsNameOf net)
  boolean_has i j None instance pin = tt
  boolean_has i j (Some row) instance pin = chosen (is_time row.ty)
    where
      chosen : (b : Bool) → IfSome (if b then None else Some (Pin i j)) (IsNameOf net)
      chosen true = tt
      chosen false = (instance, pin)

  pin_has : (i : ℕ) (pin : List ℕ) → i < instance_count net → IfSome (pin_at (kind_at net i) i (number_named (pin_names (kind_at net i)) pin)) (IsNameOf net)
  pin_has i pin instance = chosen (number_named (pin_names (kind_at net i)) pin) (named_within (pin_names (kind_at net i)) pin (pin_count (kind_at net i)) refl)
    where
      chosen : (found : Option ℕ) → IfSome found (λ j. j < pin_count (kind_at net i)) → IfSome (pin_at (kind_at net i) i found) (IsNameOf net)
      chosen None within = tt
      chosen (Some j) within = boolean_has i j _ instance within

  of_instance_has : (found : Option ℕ) (pin : List ℕ) → IfSome found (λ i. i < instance_count net) → IfSome (pin_of net found pin) (IsNameOf net)
  of_instance_has None pin within = tt
  of_instance_has (Some i) pin within = pin_has i pin within

  either_name_has : (signal instance : Option ℕ) (pin : Option Name) → IfSome signal (λ s. s < declared_count net) → IfSome instance (λ i. i < instance_count net) →
      IfSome pin (IsNameOf net) → IfSome (either_name signal instance pin) (IsNameOf net)
  either_name_has (Some s) instance pin first second third = first
  either_name_has None (Some i) pin first second third = second
  either_name_has None None pin first second third = third

  instance_within : (word : List ℕ) → IfSome (number_named (instance_names net) word) (λ i. i < instance_count net)
  instance_within word = named_within (instance_names net) word (instance_count net) (instance_names-length net)

  pub signal_within : (word : List ℕ) → IfSome (number_named (signal_names net) word) (λ s. s < declared_count net)
  signal_within word = named_within (signal_names net) word (declared_count net) (signal_names-length net)

  name_has : (word : List ℕ) → IfSome (name_of net word) (IsNameOf net)
  name_has word =
      either_name_has (number_named (signal_names net) word) (number_named (instance_names net) word) (pin_named net word) (signal_within word) (instance_within word)
      (of_instance_has _ _ (instance_within _))

  -- an input that is found by its name is one
  pub input_within : (word : List ℕ) → IfSome (input_in net (number_named (signal_names net) word)) (λ i. i < input_count net)
  input_within word = chosen (number_named (signal_names net) word)
    where
      one : (signal : ℕ) (within : Bool) → (within ≡ true → signal < input_count net) → IfSome (if within then Some signal else None) (λ i. i < input_count net)
      one signal true less = less refl
      one signal false less = tt

      chosen : (found : Option ℕ) → IfSome (input_in net found) (λ i. i < input_count net)
      chosen None = tt
      chosen (Some signal) = one signal (nat_lt signal (input_count net)) (λ is. ltb-true signal (input_count net) is)

  -- ---- Conditions.

  -- what is named is of the application
  abbrev IsTerm : Name × Bool → Type 0
  IsTerm term = IsNameOf net term.0

  when_has : (before : Bool) (name : Option Name) → IfSome name (IsNameOf net) → IfSome (named_when before name) IsTerm
  when_has before None has = tt
  when_has before (Some name) has = has

  term_has : (word : List ℕ) → IfSome (term_of net word) IsTerm
  term_has word =
      chosen (list_any is_at word) (bytes_eq (after_first is_at word) (codes "before")) (name_of net (before_first is_at word)) (name_of net word)
      (name_has (before_first is_at word)) (name_has word)
    where
      chosen : (b c : Bool) (first whole : Option Name) → IfSome first (IsNameOf net) → IfSome whole (IsNameOf net) →
          IfSome (if b then (if c then named_when true first else None) else named_when false whole) IsTerm
      chosen true true first whole has also = when_has true first has
      chosen true false first whole has also = tt
      chosen false c first whole has also = when_has false whole also

  condition_of_has : (name : Name) (before denied : Bool) (values : Option (List ℕ)) → IsNameOf net name → IfOk (condition_of name before denied values) (IsOfName net)
  condition_of_has name before denied None is = tt
  condition_of_has name before denied (Some values) is = is

  denied_has : (term : Option (Name × Bool)) (value : List ℕ) → IfSome term IsTerm → IfOk (denied_said net term value) (IsOfName net)
  denied_has None value is = tt
  denied_has (Some (name, before)) value is = condition_of_has name before true _ is

  among_has : (term : Option (Name × Bool)) (value : List ℕ) → IfSome term IsTerm → IfOk (among_said net term value) (IsOfName net)
  among_has None value is = tt
  among_has (Some (name, before)) value is = condition_of_has name before false _ is

  compare_has : (name value : List ℕ) → IfOk (compare_said net name value) (IsOfName net)
  compare_has name value =
      let bare = take (length name - 1) name in
      either_has (IsOfName net) (is_denied name) (denied_said net (term_of net bare) value) (among_said net (term_of net name) value)
      (denied_has (term_of net bare) value (term_has bare)) (among_has (term_of net name) value (term_has name))

  condition_has : (word : List ℕ) → IfOk (condition_said net word) (IsOfName net)
  condition_has word = either_has (IsOfName net) (has_equals word) (compare_said net (name_part word) (value_part word)) _ (compare_has (name_part word) (value_part word)) tt

  pub conditions_have : (words : List (List ℕ)) → IfOk (conditions_said net words) (All (IsOfName net))
  conditions_have words = found_have (IsOfName net) (condition_said net) condition_has words (Ok []) (All-nil (IsOfName net))
