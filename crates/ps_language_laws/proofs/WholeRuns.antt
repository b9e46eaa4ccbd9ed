-- Runs of scans of a text are runs of scans of the application of its flat source.
use Rattle.std.proofs.Common.{◌≡◌, ◌↔◌, ℕ, zero, suc, Bool, false, List, [], ◌∷◌, Option, None, Some, map, replicate, get_or, ◌+◌, refl, sym, ap, subst}
use Rattle.std.specs.List.{AllByRecursion}
use Rattle.ps_model.specs.Blocks.{idle}
use Rattle.ps_model.specs.Network.{Network, signal_count, instance_count}
use Rattle.ps_model.specs.Scanning.{State, Solves}
use Rattle.ps_model.specs.Meaning.{Item, scan, restart, After, Past, nothing, last, left_by, first_state, old_state, passed, Runs}
use Rattle.ps_names.specs.declared.entry.Entry.{Entry}
use Rattle.ps_names.specs.declared.entry.Sort.{Sort}
use Rattle.ps_names.specs.declared.entry.Sort.TheVariants.{InputSignal, OutputSignal, LocalSignal, Instance, Nothing}
use Rattle.ps_names.specs.Names.{entries, sort_at}
use Rattle.ps_names.specs.Stands.{number_at, outputs_before}
use Rattle.ps_derived.specs.declared.library.Library.{Library}
use Rattle.ps_derived.specs.Flat.{flat}
use Rattle.ps_language_laws.specs.Reading.{Values}
use Rattle.ps_language_laws.specs.ByName.{by_name, place_of, signal_value, output_value, block_value, value_from, output_numbered}
use Rattle.ps_language_laws.specs.Nested.{Nested}
use Rattle.ps_language_laws.specs.Runs.{blank, TextRuns}
use Rattle.ps_language_laws.specs.Laws.{HasSizes, NestedRunsAreFlat}
use Rattle.ps_language_laws.proofs.Whole.{nested_is_flat}

-- a list of one value has it everywhere
all_one : {X : Type 0} (n i : ℕ) (x : X) → get_or (replicate n x) i x ≡ x
all_one zero i x = refl
all_one (suc n) zero x = refl
all_one (suc n) (suc i) x = all_one n i x

-- ---- before the first scan

module _ (es : List Entry) (net : Network) where
  abbrev first : State
  first = first_state net

  no_signal : (o : Option Sort) (k : Option ℕ) → signal_value es first o k ≡ false
  no_signal None k = refl
  no_signal (Some (InputSignal t)) k = all_one (signal_count net) (number_at es k) false
  no_signal (Some (OutputSignal t)) k = all_one (signal_count net) (number_at es k) false
  no_signal (Some (LocalSignal t)) k = all_one (signal_count net) (number_at es k) false
  no_signal (Some (Instance kind)) k = refl
  no_signal (Some Nothing) k = refl

  no_value : (start : ℕ) (o : Option ℕ) → value_from first start o ≡ false
  no_value start None = refl
  no_value start (Some j) = all_one (signal_count net) (start + j) false

  no_output : (o : Option Sort) (k : Option ℕ) (pin : List ℕ) → output_value es first o k pin ≡ false
  no_output None k pin = refl
  no_output (Some (InputSignal t)) k pin = refl
  no_output (Some (OutputSignal t)) k pin = refl
  no_output (Some (LocalSignal t)) k pin = refl
  no_output (Some (Instance kind)) None pin = refl
  no_output (Some (Instance kind)) (Some k) pin = no_value (outputs_before es k) (output_numbered kind pin)
  no_output (Some Nothing) k pin = refl

  no_block : (o : Option Sort) (k : Option ℕ) → block_value es first o k ≡ idle
  no_block None k = refl
  no_block (Some (InputSignal t)) k = refl
  no_block (Some (OutputSignal t)) k = refl
  no_block (Some (LocalSignal t)) k = refl
  no_block (Some (Instance kind)) k = all_one (instance_count net) (number_at es k) idle
  no_block (Some Nothing) k = refl

  first_is_blank : by_name es first ≡ blank
  first_is_blank = (λ i. record {
    signal = λ p. no_signal (sort_at es (place_of es p)) (place_of es p) i;
    output = λ p pin. no_output (sort_at es (place_of es p)) (place_of es p) pin i;
    block = λ p. no_block (sort_at es (place_of es p)) (place_of es p) i;
  })

  -- ---- what a scan starts from

  -- the same by names
  abbrev earlier_of : Past → After Values
  earlier_of nothing = nothing
  earlier_of (last now w) = last now (by_name es w)

  old_same : (past : Past) → by_name es (old_state net past) ≡ left_by blank (earlier_of past)
  old_same nothing = first_is_blank
  old_same (last now w) = refl

  passed_same : (past : Past) (now : ℕ) → passed past now ≡ passed (earlier_of past) now
  passed_same nothing now = refl
  passed_same (last before w) now = refl

-- ---- runs

no_more : {X Y : Type 0} (f : X → Y) (xs : List X) → map f xs ≡ [] → xs ≡ []
no_more f [] h = refl
no_more f (x ∷ xs) h = cc

module _ (l : Library) (net : Network)
    (one : (old : State) (ins : List Bool) (dt : ℕ) (new : State) → Solves net old ins dt new ↔ (HasSizes net new × Nested l (by_name (entries (flat l)) old) ins dt (by_name (entries (flat l)) new))) where
  abbrev es : List Entry
  es = entries (flat l)

  -- one scan after what it starts from
  one_scan : (past : Past) (now : ℕ) (ins : List Bool) (w : State) →
      Solves net (old_state net past) ins (passed past now) w ↔ (HasSizes net w × Nested l (left_by blank (earlier_of es net past)) ins (passed (earlier_of es net past) now) (by_name es w))
  one_scan past now ins w =
      subst (λ x. Solves net (old_state net past) ins (passed past now) w ↔ (HasSizes net w × Nested l x ins (passed (earlier_of es net past) now) (by_name es w))) (old_same es net past)
      (subst (λ t. Solves net (old_state net past) ins (passed past now) w ↔ (HasSizes net w × Nested l (by_name es (old_state net past)) ins t (by_name es w))) (passed_same es net past now)
      (one (old_state net past) ins (passed past now) w))

  runs_same : (past : Past) (items : List Item) (ws : List State) →
      Runs net past items ws ↔ (AllByRecursion (HasSizes net) ws × TextRuns l (earlier_of es net past) items (map (by_name es) ws))
  runs_same past [] ws = (
    λ h. (subst (AllByRecursion (HasSizes net)) (sym h) tt, ap (map (by_name es)) h),
    λ h. no_more (by_name es) ws h.1,
  )
  runs_same past (restart ∷ items) ws = runs_same nothing items ws
  runs_same past (scan now ins ∷ items) [] = (λ h. absurd h, λ h. absurd h.1)
  runs_same past (scan now ins ∷ items) (w ∷ ws) =
      let here = one_scan past now ins w in
      let rest = runs_same (last now w) items ws in (
        λ h. let a = here.0 h.0 in let b = rest.0 h.1 in ((a.0, b.0), (a.1, b.1)),
        λ h. (here.1 (h.0.0, h.1.0), rest.1 (h.0.1, h.1.1)),
      )

pub nested_runs_are_flat : NestedRunsAreFlat
nested_runs_are_flat depth l net within unbroken stands items ws = runs_same l net (nested_is_flat depth l net within unbroken stands) nothing items ws
