-- What stands for the names of an application in the header of a log.
use Rattle.std.proofs.Common.{◌≡◌, ◌≢◌, ◌∙◌, ◌++◌, ◌+◌, ◌-◌, ◌≤◌, ◌<◌, ◌==◌, ◌&&◌, ◌||◌, ℕ, zero, suc, Bool, true, false, List, [], ◌∷◌, Option, Some, None, codes, flat_map, get_or, length, map, slice_get, unwrap_or, if◌then◌else◌, ◌⊎◌, inl, inr, refl, sym, ap, subst, append_assoc, arith}
use Rattle.std.specs.List.{AllByRecursion, list_all, range_with_len}
use Rattle.std.specs.Option.{option_map_or}
use Rattle.std.proofs.lemmas.Bool.{cases_lt, lt-ltb}
use Rattle.std.proofs.lemmas.Slice.Eq.{bytes_eq-Decides}
use Rattle.std.proofs.lemmas.List.{get_or-append_right, get_or-map, get_or_append_left, length-append, length-map}
use Rattle.std.proofs.lemmas.List.Folds.{list_all-append, list_any-append}
use Rattle.ps_base.specs.LetterCase.{SameName, folded, is_same_name}
use Rattle.ps_bench_cases.proofs.ReadBack.{both_hold}
use Rattle.ps_model.specs.Blocks.{block}
use Rattle.ps_model.specs.Network.{Network, declared_count, input_count, instance_count, instance_name, kind_at, names, no_signal, signal_name}
use Rattle.ps_model.specs.Pins.{pin_names, pin_rows}
use Rattle.ps_model.specs.Sound.{IsSound}
use Rattle.ps_model.specs.declared.kind.Kind.{Kind}
use Rattle.ps_model.specs.declared.kind.Kind.TheVariants.{Equivalent, Antivalent, EmergencyStop, Espe, ModeSelector, TwoHandTwo, TwoHandThree, GuardMonitoring, GuardLocking, EnableSwitch, SafetyRequest, OutControl, Edm}
use Rattle.ps_model.specs.declared.named.Signal.{Signal as SignalRow}
use Rattle.ps_model.specs.declared.pins.PinRow.{PinRow}
use Rattle.ps_bench_watch.specs.Logged.{HasLogNames, IsSpelt, has_dot, is_name_byte}
use Rattle.ps_bench_watch.proofs.Bytes.{bare_names, differs, dot_apart, is_bare}
use Rattle.ps_trace.specs.Header.{input_names}
use Rattle.ps_bench_watch.proofs.Lists.{all_both, all_ranged}
use Rattle.ps_bench_waves.specs.Names.{all_names, names_of_instance, pin_of}
use Rattle.ps_bench_waves.specs.Shown.{label}
use Rattle.ps_bench_names.proofs.Naming.{instance_name_at, instance_names-length, signal_name_at, signal_names-length}
use Rattle.ps_bench_names.specs.Names.{instance_names, is_time, signal_names}
use Rattle.ps_bench_names.specs.declared.name.Name.{Name}
use Rattle.ps_bench_names.specs.declared.name.Name.TheVariants.{Signal, Code, Pin}

-- ---- The pins of the kinds.

-- each is spelt with the bytes of names
pins_spelt : (kind : Kind) → list_all (λ name. list_all is_name_byte name) (pin_names kind) ≡ true
unfolding block
pins_spelt Equivalent = refl
pins_spelt Antivalent = refl
pins_spelt EmergencyStop = refl
pins_spelt Espe = refl
pins_spelt ModeSelector = refl
pins_spelt TwoHandTwo = refl
pins_spelt TwoHandThree = refl
pins_spelt GuardMonitoring = refl
pins_spelt GuardLocking = refl
pins_spelt EnableSwitch = refl
pins_spelt SafetyRequest = refl
pins_spelt OutControl = refl
pins_spelt Edm = refl

picked : (names : List (List ℕ)) (j : ℕ) → list_all (λ name. list_all is_name_byte name) names ≡ true →
    list_all is_name_byte (unwrap_or (slice_get names j) []) ≡ true
picked [] j all = refl
picked (name ∷ names) zero all = (both_hold (list_all is_name_byte name) (list_all (λ n. list_all is_name_byte n) names) all).0
picked (name ∷ names) (suc j) all = picked names j (both_hold (list_all is_name_byte name) (list_all (λ n. list_all is_name_byte n) names) all).1

-- ---- The names of an instance: its code, and its pins.

abbrev pub IsOfInstance : Network → Name → Type 0
IsOfInstance net (Signal s) = ⊥
IsOfInstance net (Code i) = i < instance_count net
IsOfInstance net (Pin i j) = i < instance_count net

abbrev pub IsNameIn : Network → Name → Type 0
IsNameIn net (Signal s) = s < declared_count net
IsNameIn net (Code i) = i < instance_count net
IsNameIn net (Pin i j) = i < instance_count net

pin_within : (net : Network) (i : ℕ) (kind : Kind) (pin : ℕ) → i < instance_count net → AllByRecursion (IsOfInstance net) (pin_of i kind pin)
pin_within net i kind pin within = row_within (slice_get (pin_rows kind) pin)
  where
    shown : (t : Bool) → AllByRecursion (IsOfInstance net) (if t then [] else Pin i pin ∷ [])
    shown true = tt
    shown false = (within, tt)

    row_within : (row : Option PinRow) → AllByRecursion (IsOfInstance net) (option_map_or (λ (r : PinRow). if is_time r.ty then [] else Pin i pin ∷ []) row [])
    row_within None = tt
    row_within (Some row) = shown (is_time row.ty)

pub instances_within : (net : Network) → AllByRecursion (IsOfInstance net) (flat_map (names_of_instance net) (range_with_len 0 (instance_count net)))
instances_within net =
    all_ranged (IsOfInstance net) (names_of_instance net) (instance_count net) 0
    (λ i low high. let within : i < instance_count net = omega (arith, high) in
    (within, all_ranged (IsOfInstance net) (pin_of i (kind_at net i)) (length (pin_rows (kind_at net i))) 0 (λ pin below above. pin_within net i (kind_at net i) pin within)))

-- ---- What stands for a name.

module _ (net : Network) (sound : IsSound net) (named : HasLogNames net) where
  names-length : length (names net) ≡ declared_count net + instance_count net
  names-length =
      omega (arith, length-append (signal_names net) (instance_names net), signal_names-length net, instance_names-length net)

  signal_at : (s : ℕ) → s < declared_count net → get_or (names net) s [] ≡ signal_name net s
  signal_at s within =
      get_or_append_left (signal_names net) (instance_names net) [] s (omega (arith, within, signal_names-length net)) ∙ signal_name_at net s within

  instance_at : (i : ℕ) → i < instance_count net → get_or (names net) (declared_count net + i) [] ≡ instance_name net i
  instance_at i within =
      let here : declared_count net + i - declared_count net ≡ i = omega arith in
      get_or-append_right (signal_names net) (instance_names net) (declared_count net) (declared_count net + i) [] (signal_names-length net) (omega arith)
      ∙ ap (λ (k : ℕ). get_or (instance_names net) k []) here ∙ instance_name_at net i within

  pub signal_spelt : (s : ℕ) → s < declared_count net → list_all is_name_byte (signal_name net s) ≡ true
  signal_spelt s within =
      subst (λ (name : List ℕ). list_all is_name_byte name ≡ true) (signal_at s within) (named.spelt s [] (omega (arith, within, names-length))).bytes

  pub instance_spelt : (i : ℕ) → i < instance_count net → list_all is_name_byte (instance_name net i) ≡ true
  instance_spelt i within =
      subst (λ (name : List ℕ). list_all is_name_byte name ≡ true) (instance_at i within) (named.spelt (declared_count net + i) [] (omega (arith, within, names-length))).bytes

  pub signal_labelled : (s : ℕ) → s < declared_count net → label net (Signal s) ≡ signal_name net s
  signal_labelled s within = ap (λ (t : Bool). if t then signal_name net s else []) (lt-ltb s (declared_count net) within)

  instance_labelled : (i : ℕ) → i < instance_count net → label net (Code i) ≡ instance_name net i
  instance_labelled i within = ap (λ (t : Bool). if t then instance_name net i else []) (lt-ltb i (instance_count net) within)

  pin_part : ℕ → ℕ → List ℕ
  pin_part i j = unwrap_or (slice_get (pin_names (kind_at net i)) j) []

  pin_labelled : (i j : ℕ) → i < instance_count net → label net (Pin i j) ≡ instance_name net i ++ (46 ∷ pin_part i j)
  unfolding pin_part
  pin_labelled i j within =
      ap (λ (t : Bool). ((if t then instance_name net i else []) ++ codes ".") ++ (if t then unwrap_or (slice_get (pin_names (kind_at net i)) j) [] else []))
      (lt-ltb i (instance_count net) within)
      ∙ append_assoc (instance_name net i) (codes ".") (unwrap_or (slice_get (pin_names (kind_at net i)) j) [])

  pin_spelt : (i j : ℕ) → i < instance_count net → list_all is_name_byte (label net (Pin i j)) ≡ true
  unfolding pin_part
  pin_spelt i j within =
      ap (list_all is_name_byte) (pin_labelled i j within)
      ∙ list_all-append is_name_byte (instance_name net i) (46 ∷ unwrap_or (slice_get (pin_names (kind_at net i)) j) [])
      ∙ (λ k. instance_spelt i within k && picked (pin_names (kind_at net i)) j (pins_spelt (kind_at net i)) k)

  pin_dotted : (i j : ℕ) → i < instance_count net → has_dot (label net (Pin i j)) ≡ true
  unfolding pin_part
  pin_dotted i j within =
      ap has_dot (pin_labelled i j within)
      ∙ list_any-append (λ b. b == 46) (instance_name net i) (46 ∷ unwrap_or (slice_get (pin_names (kind_at net i)) j) [])
      ∙ either (has_dot (instance_name net i))
    where
      either : (t : Bool) → (t || true) ≡ true
      either true = refl
      either false = refl

  pub input_at : (i : ℕ) (d : List ℕ) → i < input_count net → get_or (input_names net) i d ≡ signal_name net i
  input_at i d within =
      get_or-map (λ s. s.name) net.inputs i no_signal d within
      ∙ ap (λ (s : SignalRow). s.name) (sym (get_or_append_left net.inputs (net.outputs ++ net.locals) no_signal i within))

  pub input_spelt : (i : ℕ) → i < input_count net → IsSpelt (signal_name net i)
  input_spelt i within = subst IsSpelt (signal_at i (omega (arith, within))) (named.spelt i [] (omega (arith, within, names-length)))

  -- an input has no dot
  input_undotted : (i : ℕ) → i < input_count net → has_dot (signal_name net i) ≡ false
  input_undotted i within =
      subst (λ (name : List ℕ). has_dot name ≡ false) (input_at i [] within)
      (named.inputs i [] (omega (arith, within, length-map net.inputs (λ s. s.name))))

  -- names at two places differ
  distinct : (j k : ℕ) → j < length (names net) → k < length (names net) → j ≢ k →
      is_same_name (get_or (names net) j []) (get_or (names net) k []) ≡ false
  distinct j k within also other = elim (cases_lt j k) [
    | inl before ↦ unlike (get_or (names net) j []) (get_or (names net) k []) (sound.names_differ j k [] before also)
    | inr behind ↦ unlike (get_or (names net) j []) (get_or (names net) k [])
        (λ same. sound.names_differ k j [] (omega (arith, behind, other)) within (sym same))
  ]
    where
      unlike : (a b : List ℕ) → ¬ (SameName a b) → is_same_name a b ≡ false
      unlike a b other = differs (is_same_name a b) (λ is. other ((bytes_eq-Decides (folded a) (folded b)).0 is))

  pub signals_apart : (s i : ℕ) → s < declared_count net → i < declared_count net → s ≢ i → is_same_name (signal_name net s) (signal_name net i) ≡ false
  signals_apart s i within also other =
      let named_so : is_same_name (get_or (names net) s []) (get_or (names net) i []) ≡ is_same_name (signal_name net s) (signal_name net i) =
      λ k. is_same_name (signal_at s within k) (signal_at i also k) in
      sym named_so ∙ distinct s i (omega (arith, within, names-length)) (omega (arith, also, names-length)) other

  instance_apart : (j i : ℕ) → j < instance_count net → i < declared_count net → is_same_name (instance_name net j) (signal_name net i) ≡ false
  instance_apart j i within also =
      let named_so : is_same_name (get_or (names net) (declared_count net + j) []) (get_or (names net) i []) ≡ is_same_name (instance_name net j) (signal_name net i) =
      λ k. is_same_name (instance_at j within k) (signal_at i also k) in
      sym named_so ∙ distinct (declared_count net + j) i (omega (arith, within, names-length)) (omega (arith, also, names-length)) (λ same. omega (arith, same, also))

  -- ---- So what stands for a name of an instance is spelt as names are, and is not the name of an input.

  pub record IsOther (text : List ℕ) : Type 0 where
    pub spelt : list_all is_name_byte text ≡ true
    pub not_input : (i : ℕ) → i < input_count net → is_same_name text (signal_name net i) ≡ false

  pub of_instance : (name : Name) → IsOfInstance net name → IsOther (label net name)
  of_instance (Signal s) none = absurd none
  of_instance (Code j) within =
      let same = sym (instance_labelled j within) in
      subst IsOther same (record {
        spelt = instance_spelt j within;
        not_input = λ i input. instance_apart j i within (omega (arith, input));
      })
  of_instance (Pin i j) within = record {
    spelt = pin_spelt i j within;
    not_input = λ k input. dot_apart true (label net (Pin i j)) (signal_name net k) (pin_dotted i j within) (input_undotted k input);
  }

  pub of_signal : (s : ℕ) → s < declared_count net → IsOther (signal_name net s) ⊎ (s < input_count net)
  of_signal s within = elim (cases_lt s (input_count net)) [
    | inl input ↦ inr input
    | inr past ↦ inl (record {
      spelt = signal_spelt s within;
      not_input = λ i input. signals_apart s i within (omega (arith, input)) (λ same. omega (arith, same, input, past));
    })
  ]

  -- ---- All that stands in a header is written as it is.

  name_bare : (name : Name) → IsNameIn net name → is_bare (label net name) ≡ true
  name_bare (Signal s) within = bare_names (label net (Signal s)) (ap (list_all is_name_byte) (signal_labelled s within) ∙ signal_spelt s within)
  name_bare (Code i) within = bare_names (label net (Code i)) (ap (list_all is_name_byte) (instance_labelled i within) ∙ instance_spelt i within)
  name_bare (Pin i j) within = bare_names (label net (Pin i j)) (pin_spelt i j within)

  all_bare : (some : List Name) → AllByRecursion (IsNameIn net) some → list_all is_bare (map (label net) some) ≡ true
  all_bare [] all = refl
  all_bare (name ∷ some) all = λ k. name_bare name all.0 k && all_bare some all.1 k

  pub names_bare : list_all is_bare (map (label net) (all_names net)) ≡ true
  names_bare =
      all_bare (all_names net)
      (all_both (IsNameIn net) (map Signal (range_with_len 0 (declared_count net))) (flat_map (names_of_instance net) (range_with_len 0 (instance_count net)))
      (signals_in (declared_count net) 0 (omega arith)) (others_in (flat_map (names_of_instance net) (range_with_len 0 (instance_count net))) (instances_within net)))
    where
      signals_in : (count from : ℕ) → from + count ≤ declared_count net → AllByRecursion (IsNameIn net) (map Signal (range_with_len from count))
      signals_in zero from within = tt
      signals_in (suc count) from within = (omega (arith, within), signals_in count (from + 1) (omega (arith, within)))

      other_in : (name : Name) → IsOfInstance net name → IsNameIn net name
      other_in (Signal s) none = absurd none
      other_in (Code i) within = within
      other_in (Pin i j) within = within

      others_in : (some : List Name) → AllByRecursion (IsOfInstance net) some → AllByRecursion (IsNameIn net) some
      others_in [] all = tt
      others_in (name ∷ some) all = (other_in name all.0, others_in some all.1)
