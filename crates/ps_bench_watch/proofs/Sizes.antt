-- A row of a run's log is no longer than a line of a log may be.
use Rattle.std.proofs.Common.{◌≡◌, ◌++◌, ◌+◌, ◌*◌, ◌≤◌, ◌==◌, ℕ, zero, suc, Bool, true, false, List, [], ◌∷◌, Option, Some, None, codes, flat_map, length, map, nat_le, slice_get, if◌then◌else◌, refl, leb-true, arith}
use Rattle.std.specs.List.{AllByRecursion, range_with_len}
use Rattle.std.specs.Option.{option_map_or}
use Rattle.std.proofs.lemmas.List.{length-append, length-map}
use Rattle.std.proofs.lemmas.List.FromFn.{length-map-range_with_len}
use Rattle.ps_model.specs.Blocks.{block}
use Rattle.ps_model.specs.Network.{Network, declared_count, instance_count, kind_at, signal_count}
use Rattle.ps_model.specs.Pins.{pin_rows}
use Rattle.ps_model.specs.Sound.{IsSound}
use Rattle.ps_model.specs.declared.kind.Kind.{Kind}
use Rattle.ps_model.specs.declared.kind.Kind.TheVariants.{Equivalent, Antivalent, EmergencyStop, Espe, ModeSelector, TwoHandTwo, TwoHandThree, GuardMonitoring, GuardLocking, EnableSwitch, SafetyRequest, OutControl, Edm}
use Rattle.ps_model.specs.declared.pins.PinRow.{PinRow}
use Rattle.ps_bench_watch.proofs.Bytes.{code_length}
use Rattle.ps_bench_watch.proofs.Cutting.{tail_text}
use Rattle.ps_bench_waves.specs.Names.{all_names, names_of_instance, pin_of}
use Rattle.ps_bench_waves.specs.Shown.{digit, field_text}
use Rattle.ps_bench_names.specs.Names.{is_time}
use Rattle.ps_bench_names.specs.declared.name.Name.{Name}
use Rattle.ps_bench_names.specs.declared.name.Name.TheVariants.{Signal, Code, Pin}

-- ---- How many names there are.

few_pins : (kind : Kind) → nat_le (length (pin_rows kind)) 30 ≡ true
unfolding block
few_pins Equivalent = refl
few_pins Antivalent = refl
few_pins EmergencyStop = refl
few_pins Espe = refl
few_pins ModeSelector = refl
few_pins TwoHandTwo = refl
few_pins TwoHandThree = refl
few_pins GuardMonitoring = refl
few_pins GuardLocking = refl
few_pins EnableSwitch = refl
few_pins SafetyRequest = refl
few_pins OutControl = refl
few_pins Edm = refl

few_ranged : {X : Type 0} (most : ℕ) (f : ℕ → List X) → ((k : ℕ) → length (f k) ≤ most) → (n from : ℕ) →
    length (flat_map f (range_with_len from n)) ≤ most * n
few_ranged most f each zero from = omega arith
few_ranged most f each (suc n) from =
    omega (arith, each from, few_ranged most f each n (from + 1), length-append (f from) (flat_map f (range_with_len (from + 1) n)), times most n)
  where
    times : (most n : ℕ) → most * suc n ≡ most + most * n
    times most n = omega arith

one_pin : (i : ℕ) (kind : Kind) (pin : ℕ) → length (pin_of i kind pin) ≤ 1
one_pin i kind pin = row_few (slice_get (pin_rows kind) pin)
  where
    shown_few : (t : Bool) → length (if t then [] else Pin i pin ∷ []) ≤ 1
    shown_few true = omega arith
    shown_few false = omega arith

    row_few : (row : Option PinRow) → length (option_map_or (λ (r : PinRow). if is_time r.ty then [] else Pin i pin ∷ []) row []) ≤ 1
    row_few None = omega arith
    row_few (Some row) = shown_few (is_time row.ty)

few_of_instance : (net : Network) (i : ℕ) → length (names_of_instance net i) ≤ 31
few_of_instance net i =
    let kind = kind_at net i in
    omega (arith, leb-true (length (pin_rows kind)) 30 (few_pins kind), few_ranged 1 (pin_of i kind) (one_pin i kind) (length (pin_rows kind)) 0)

few_names : (net : Network) → IsSound net → length (all_names net) ≤ 16400
few_names net sound =
    let signals = map Signal (range_with_len 0 (declared_count net)) in
    let others = flat_map (names_of_instance net) (range_with_len 0 (instance_count net)) in
    let declared : declared_count net ≤ signal_count net = omega arith in
    omega (
      arith,
      sound.few_instances,
      sound.few_signals,
      declared,
      length-append signals others,
      length-map-range_with_len Signal 0 (declared_count net),
      few_ranged 31 (names_of_instance net) (few_of_instance net) (instance_count net) 0,
    )

-- ---- How long a row is.

short_truth : (v : ℕ) → length (digit v) ≤ 4
short_truth v = chosen (v == 0)
  where
    chosen : (is_none : Bool) → length (if is_none then codes "0" else codes "1") ≤ 4
    chosen true = omega arith
    chosen false = omega arith

pub short_field : (name : Name) (v : ℕ) → length (field_text name v) ≤ 4
short_field (Signal s) v = short_truth v
short_field (Code i) v = omega (arith, code_length v)
short_field (Pin i j) v = short_truth v

tail_length : (fields : List (List ℕ)) → AllByRecursion (λ field. length field ≤ 4) fields → length (tail_text fields) ≤ 5 * length fields
tail_length [] short = omega arith
tail_length (field ∷ fields) short = omega (arith, short.0, tail_length fields short.1, length-append field (tail_text fields))

short_fields : (value : Name → ℕ) (names : List Name) → AllByRecursion (λ (field : List ℕ). length field ≤ 4) (map (λ name. field_text name (value name)) names)
short_fields value [] = tt
short_fields value (name ∷ names) = (short_field name (value name), short_fields value names)

-- fields of a time, of two truth values and of all names
pub row_length : (net : Network) → IsSound net → (value : Name → ℕ) (time : List ℕ) (u v : ℕ) → length time ≤ 10 →
    length (time ++ tail_text (digit u ∷ digit v ∷ map (λ name. field_text name (value name)) (all_names net))) ≤ 1000000
row_length net sound value time u v short =
    let values = map (λ name. field_text name (value name)) (all_names net) in
    omega (
      arith,
      short,
      few_names net sound,
      length-map (all_names net) (λ name. field_text name (value name)),
      length-append time (tail_text (digit u ∷ digit v ∷ values)),
      tail_length (digit u ∷ digit v ∷ values) (short_truth u, (short_truth v, short_fields value (all_names net))),
    )
