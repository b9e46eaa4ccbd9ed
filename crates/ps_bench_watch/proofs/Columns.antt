-- Where the header of a run's log has its columns.
use Rattle.std.proofs.Common.{◌≡◌, ◌≢◌, ◌∙◌, ◌+◌, ◌-◌, ◌≤◌, ◌<◌, ◌&&◌, not, ◌⊎◌, inl, inr, ℕ, zero, suc, Bool, true, false, List, [], ◌∷◌, Some, Ok, codes, flat_map, get_or, length, map, unwrap_or, refl, sym, ap, subst, arith}
use Rattle.std.specs.List.{cons_option, filter_map, list_all, list_any, range_with_len}
use Rattle.std.proofs.lemmas.Bool.{cases_lt}
use Rattle.std.proofs.lemmas.List.{get_or-append_right, get_or_append_left, get_or-map, length-append, length-map}
use Rattle.std.proofs.lemmas.List.FromFn.{get_or-map-range_with_len, length-map-range_with_len}
use Rattle.ps_base.specs.LetterCase.{is_same_name}
use Rattle.ps_bench_logs.specs.Header.{Columns, columns_in, first_of, flaw_at, flaws_of, has_mark, is_named, names_column, names_said, places_of, unless_flawed}
use Rattle.ps_bench_logs.specs.declared.flaw.Column.{Column}
use Rattle.ps_bench_logs.specs.declared.flaw.Column.TheVariants.{Time, Restart, Input}
use Rattle.ps_bench_logs.specs.declared.flaw.Flaw.{Flaw}
use Rattle.ps_model.specs.Network.{Network, declared_count, input_count, instance_count, signal_name}
use Rattle.ps_model.specs.Sound.{IsSound}
use Rattle.ps_bench_watch.specs.Logged.{HasLogNames, is_name_byte}
use Rattle.ps_bench_watch.proofs.Bytes.{at_apart, is_at, no_at, no_mark, same_self}
use Rattle.ps_bench_watch.proofs.Labels.{IsOfInstance, IsOther, instances_within, of_instance, of_signal, signal_labelled, signal_spelt, signals_apart}
use Rattle.ps_bench_watch.proofs.Lists.{all_at, only_place}
use Rattle.ps_bench_waves.specs.Lines.{csv_names}
use Rattle.ps_bench_waves.specs.Names.{all_names, names_of_instance}
use Rattle.ps_bench_waves.specs.Shown.{label}
use Rattle.ps_bench_names.specs.declared.name.Name.{Name}
use Rattle.ps_bench_names.specs.declared.name.Name.TheVariants.{Signal}

-- a column that is not what a field is called
not_called : (t u : Bool) → u ≡ false → (not t && u) ≡ false
not_called true u is = refl
not_called false u is = is

is_called_so : (t u : Bool) → t ≡ false → u ≡ true → (not t && u) ≡ true
is_called_so true u plain is = λ i. not (plain i)
is_called_so false u plain is = is

-- a field that is an input's, and one that is not
not_input : (t u : Bool) → t ≡ false → (t && not u) ≡ false
not_input t u is = λ i. is i && not u

an_input : (t u : Bool) → t ≡ true → u ≡ false → (t && not u) ≡ true
an_input t u is other = λ i. is i && not (other i)

module _ (net : Network) (sound : IsSound net) (named : HasLogNames net) where
  -- the header of a run's log
  abbrev pub header : List (List ℕ)
  header = csv_names net (all_names net)

  abbrev shown : List (List ℕ)
  shown = map (label net) (all_names net)

  abbrev signals : List Name
  signals = map Signal (range_with_len 0 (declared_count net))

  abbrev others : List Name
  others = flat_map (names_of_instance net) (range_with_len 0 (instance_count net))

  signals-length : length signals ≡ declared_count net
  signals-length = length-map-range_with_len Signal 0 (declared_count net)

  pub names-length : length (all_names net) ≡ declared_count net + length others
  names-length = omega (arith, length-append signals others, signals-length)

  pub shown-length : length shown ≡ length (all_names net)
  shown-length = length-map (all_names net) (label net)

  pub name_at : (s : ℕ) → s < declared_count net → get_or (all_names net) s (Signal 0) ≡ Signal s
  name_at s within =
      get_or_append_left signals others (Signal 0) s (omega (arith, within, signals-length))
      ∙ get_or-map-range_with_len Signal 0 (declared_count net) s s (Signal 0) within (omega arith)

  -- the field of a signal is its name
  pub signal_shown : (s : ℕ) → s < declared_count net → get_or shown s [] ≡ signal_name net s
  signal_shown s within =
      get_or-map (label net) (all_names net) s (Signal 0) [] (omega (arith, within, names-length))
      ∙ ap (label net) (name_at s within) ∙ signal_labelled net sound named s within

  -- what a field is: the name of an input, or another name
  field_is : (j : ℕ) → j < length shown → IsOther net sound named (get_or shown j []) ⊎ (j < input_count net)
  field_is j within = elim (cases_lt j (declared_count net)) [
    | inl signal ↦ either (of_signal net sound named j signal) signal
    | inr past ↦ inl (instance_is past)
  ]
    where
      either : IsOther net sound named (signal_name net j) ⊎ (j < input_count net) → j < declared_count net →
          IsOther net sound named (get_or shown j []) ⊎ (j < input_count net)
      either (inl other) signal = inl (subst (IsOther net sound named) (sym (signal_shown j signal)) other)
      either (inr input) signal = inr input

      instance_is : declared_count net ≤ j → IsOther net sound named (get_or shown j [])
      instance_is past =
          let named_so : get_or (all_names net) j (Signal 0) ≡ get_or others (j - declared_count net) (Signal 0) =
          get_or-append_right signals others (declared_count net) j (Signal 0) signals-length past in
          let labelled : get_or shown j [] ≡ label net (get_or others (j - declared_count net) (Signal 0)) =
          get_or-map (label net) (all_names net) j (Signal 0) [] (omega (arith, within, shown-length)) ∙ ap (label net) named_so in
          subst (IsOther net sound named) (sym labelled)
          (of_instance net sound named (get_or others (j - declared_count net) (Signal 0))
          (all_at (IsOfInstance net) others (j - declared_count net) (Signal 0) (instances_within net) (omega (arith, within, past, shown-length, names-length))))

  -- ---- What each field is called.

  spelt_at : (j : ℕ) → j < length shown → list_all is_name_byte (get_or shown j []) ≡ true
  spelt_at j within = elim (field_is j within) [
    | inl other ↦ other.spelt
    | inr input ↦ subst (λ (name : List ℕ). list_all is_name_byte name ≡ true) (sym (signal_shown j (omega (arith, input)))) (signal_spelt net sound named j (omega (arith, input)))
  ]

  not_input_at : (j i : ℕ) → j < length shown → i < input_count net → j ≢ i → is_same_name (get_or shown j []) (signal_name net i) ≡ false
  not_input_at j i within is_input other = elim (field_is j within) [
    | inl apart ↦ apart.not_input i is_input
    | inr input ↦ subst (λ (name : List ℕ). is_same_name name (signal_name net i) ≡ false) (sym (signal_shown j (omega (arith, input))))
        (signals_apart net sound named j i (omega (arith, input)) (omega (arith, is_input)) other)
  ]

  -- ---- Where the columns stand.

  abbrev size : ℕ
  size = length header

  behind : (j : ℕ) → suc (suc (suc j)) < size → j < length shown
  behind j within = omega (arith, within)

  names_it : Column → ℕ → Bool
  names_it column k = names_column net (codes "@time") column (get_or header k [])

  other_than_time : (k : ℕ) → k < size → k ≢ 0 → names_it Time k ≡ false
  unfolding names_it
  other_than_time zero within other = absurd (other refl)
  other_than_time (suc zero) within other = refl
  other_than_time (suc (suc zero)) within other = refl
  other_than_time (suc (suc (suc j))) within other =
      let field = get_or shown j [] in
      not_called (has_mark field) (is_same_name field (codes "@time"))
      (at_apart false field (codes "@time") (no_at field (spelt_at j (behind j within))) refl)

  other_than_restart : (k : ℕ) → k < size → k ≢ 1 → names_it Restart k ≡ false
  unfolding names_it
  other_than_restart zero within other = refl
  other_than_restart (suc zero) within other = absurd (other refl)
  other_than_restart (suc (suc zero)) within other = refl
  other_than_restart (suc (suc (suc j))) within other =
      let field = get_or shown j [] in
      not_called (has_mark field) (is_same_name field (codes "@restart"))
      (at_apart false field (codes "@restart") (no_at field (spelt_at j (behind j within))) refl)

  -- what begins with `@` is no input's
  own : (i : ℕ) → i < input_count net → (mark : List ℕ) → list_any is_at mark ≡ true → names_column net (codes "@time") (Input i) mark ≡ false
  own i input mark at =
      let name = signal_name net i in
      not_input (is_named name mark) (is_named (codes "@time") mark)
      (not_called (has_mark mark) (is_same_name mark name) (at_apart true mark name at (no_at name (signal_spelt net sound named i (omega (arith, input))))))

  other_than_input : (i : ℕ) → i < input_count net → (k : ℕ) → k < size → k ≢ 3 + i → names_it (Input i) k ≡ false
  unfolding names_it
  other_than_input i input zero within other = own i input (codes "@time") refl
  other_than_input i input (suc zero) within other = own i input (codes "@restart") refl
  other_than_input i input (suc (suc zero)) within other = own i input (codes "@trip") refl
  other_than_input i input (suc (suc (suc j))) within other =
      let field = get_or shown j [] in
      not_input (is_named (signal_name net i) field) (is_named (codes "@time") field)
      (not_called (has_mark field) (is_same_name field (signal_name net i))
      (not_input_at j i (behind j within) input (λ same. other (omega (arith, same)))))

  is_input : (i : ℕ) → i < input_count net → names_it (Input i) (3 + i) ≡ true
  unfolding names_it
  is_input i input =
      let third : 3 + i ≡ suc (suc (suc i)) = omega arith in
      let name = signal_name net i in
      let spelt = signal_spelt net sound named i (omega (arith, input)) in
      ap (λ (k : ℕ). names_column net (codes "@time") (Input i) (get_or header k [])) third
      ∙ ap (names_column net (codes "@time") (Input i)) (signal_shown i (omega (arith, input)))
      ∙ an_input (is_named name name) (is_named (codes "@time") name)
      (is_called_so (has_mark name) (is_same_name name name) (no_mark name spelt) (same_self name))
      (not_called (has_mark name) (is_same_name name (codes "@time")) (at_apart false name (codes "@time") (no_at name spelt) refl))

  few_inputs : (i : ℕ) → i < input_count net → 3 + i < size
  few_inputs i input = omega (arith, input, shown-length, names-length)

  time_place : places_of net header Time ≡ 0 ∷ []
  unfolding names_it
  time_place = only_place (names_it Time) 0 size (omega arith) refl other_than_time

  restart_place : places_of net header Restart ≡ 1 ∷ []
  unfolding names_it
  restart_place = only_place (names_it Restart) 1 size (omega arith) refl other_than_restart

  input_place : (i : ℕ) → i < input_count net → places_of net header (Input i) ≡ (3 + i) ∷ []
  unfolding names_it
  input_place i input = only_place (names_it (Input i)) (3 + i) size (few_inputs i input) (is_input i input) (other_than_input i input)

  -- ---- What the header says.

  none_flawed : (count from : ℕ) → from + count ≤ input_count net →
      filter_map (λ column. flaw_at column (places_of net header column)) (map Input (range_with_len from count)) ≡ []
  none_flawed zero from within = refl
  none_flawed (suc count) from within =
      ap (λ (places : List ℕ). cons_option (flaw_at (Input from) places) (filter_map (λ column. flaw_at column (places_of net header column)) (map Input (range_with_len (from + 1) count)))) (input_place from (omega (arith, within)))
      ∙ none_flawed count (from + 1) (omega (arith, within))

  no_flaws : flaws_of net header ≡ []
  no_flaws =
      ap (λ (places : List ℕ). cons_option (flaw_at Time places) (cons_option (flaw_at Restart (places_of net header Restart)) (filter_map (λ column. flaw_at column (places_of net header column)) (map Input (range_with_len 0 (input_count net)))))) time_place
      ∙ ap (λ (places : List ℕ). cons_option (flaw_at Restart places) (filter_map (λ column. flaw_at column (places_of net header column)) (map Input (range_with_len 0 (input_count net))))) restart_place
      ∙ none_flawed (input_count net) 0 (omega arith)

  input_places : (count from : ℕ) → from + count ≤ input_count net →
      map (λ i. unwrap_or (first_of (places_of net header (Input i))) 0) (range_with_len from count) ≡ map (λ i. 3 + i) (range_with_len from count)
  input_places zero from within = refl
  input_places (suc count) from within =
      λ k. unwrap_or (first_of (input_place from (omega (arith, within)) k)) 0 ∷ input_places count (from + 1) (omega (arith, within)) k

  -- the columns that it has
  abbrev pub found : Columns
  found = record { width = size; time = 0; restart = Some 1; inputs = map (λ i. 3 + i) (range_with_len 0 (input_count net)) }

  pub header_names : names_said net (Some header) ≡ Ok found
  header_names =
      ap (λ (flaws : List Flaw). unless_flawed flaws (columns_in net header)) no_flaws
      ∙ (λ k. Ok (record {
        width = size;
        time = unwrap_or (first_of (time_place k)) 0;
        restart = first_of (restart_place k);
        inputs = input_places (input_count net) 0 (omega arith) k;
      }))
