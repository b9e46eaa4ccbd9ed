-- The state of a part after a scan of the whole, and that it is one after a scan of the part.
use Rattle.std.proofs.Common.{◌≡◌, ◌<◌, ℕ, zero, suc, ◌+◌, Bool, false, cond, List, [], ◌∷◌, length, map, replicate, Some, refl, sym, ap, subst, ◌∙◌, ⊎_elim, ◌&&◌, get_or, arith}
use Rattle.std.specs.Prelude.{nat_lt, slice_get, slice_index_or, take}
use Rattle.std.specs.List.{list_any}
use Rattle.std.specs.Option.{option_map_or}
use Rattle.std.proofs.lemmas.Bool.{cases_lt, cond-true, cond-false, lt-ltb, or_left, false≢true}
use Rattle.std.proofs.lemmas.List.{get_or_past, length-map}
use Rattle.std.proofs.lemmas.Option.{slice_get_within}
use Rattle.ps_machine.specs.Calls.{call_step, called_pin, input_pin}
use Rattle.ps_machine.specs.Reading.{read_between}
use Rattle.ps_machine.proofs.Steps.{call_drives, stands_at}
use Rattle.ps_model.specs.Action.{Action, Actual, assigns, calls}
use Rattle.ps_model.specs.Blocks.{block, idle, moved, outs, output_count}
use Rattle.ps_model.specs.Formula.{Formula, value}
use Rattle.ps_model.specs.Meaning.{first_state}
use Rattle.ps_model.specs.Network.{Network, drives, first_pin, input_count, instance_count, is_call_of, is_new, kind_at, signal_count}
use Rattle.ps_model.specs.Scanning.{Solves, State, block_in, limit_of, pin_at, pins_under, read_at, signal_in}
use Rattle.ps_model.specs.Sound.{IsSound}
use Rattle.ps_model.proofs.Once.{element_at}
use Rattle.ps_model.proofs.OneSolution.{is_call_itself}
use Rattle.ps_model.proofs.Positions.{position_alone}
use Rattle.ps_reach.specs.Asking.{pins_read}
use Rattle.ps_cut.specs.Parts.{IsPartOf, IsStepCopy, StandsFor}
use Rattle.ps_cut.specs.declared.part.Origin.{Origin}
use Rattle.ps_cut.specs.declared.part.Origin.TheVariants.{Now, Before}
use Rattle.ps_cut.proofs.Copied.{arg_copied, at_map, times_copied, value_copied}

-- a list whose elements are all made the same
made_same : {X Y : Type 0} (f : X → Y) (c : Y) (xs : List X) → ((x : X) → f x ≡ c) → map f xs ≡ replicate (length xs) c
made_same f c [] each = refl
made_same f c (x ∷ xs) each = let rest = made_same f c xs each in λ i. each x i ∷ rest i

-- what stands past such a list
pub of_replicate : {X : Type 0} (n k : ℕ) (c : X) → get_or (replicate n c) k c ≡ c
of_replicate zero k c = refl
of_replicate (suc n) zero c = refl
of_replicate (suc n) (suc k) c = of_replicate n k c

-- the value of a signal of the part, by where it has it from
abbrev pub value_by : (old new : State) → Origin → Bool
value_by old new (Now s) = signal_in new s
value_by old new (Before s) = signal_in old s

module _ (origins : List Origin) (instances : List ℕ) where
  -- the state of the part, where these are the states of the whole before the scan and after it
  abbrev pub state_by : (old new : State) → State
  state_by old new = record { signals = map (value_by old new) origins; blocks = map (block_in new) instances }

module _ (net part : Network) (origins : List Origin) (instances : List ℕ) (is : IsPartOf net part origins instances) where
  abbrev pub of : (old new : State) → State
  of = state_by origins instances

  -- at first the part is as its first state
  value_at_first : (o : Origin) → value_by (first_state net) (first_state net) o ≡ false
  value_at_first (Now s) = of_replicate (signal_count net) s false
  value_at_first (Before s) = of_replicate (signal_count net) s false

  pub at_first_is : first_state part ≡ of (first_state net) (first_state net)
  at_first_is =
      let signals = made_same (value_by (first_state net) (first_state net)) false origins value_at_first in
      let blocks = made_same (block_in (first_state net)) idle instances (λ i. of_replicate (instance_count net) i idle) in
      λ i. record {
        signals = sym (signals ∙ ap (λ n. replicate n false) is.origin_each) i;
        blocks = sym (blocks ∙ ap (λ n. replicate n idle) is.instance_each) i;
      }

  module _ (old new : State) where
    -- a signal, and an instance, of the part
    pub signal_of : (r : ℕ) (o : Origin) → slice_get origins r ≡ Some o → signal_in (of old new) r ≡ value_by old new o
    signal_of r o at = at_map (value_by old new) origins r o false at

    pub block_of : (i h : ℕ) → slice_get instances i ≡ Some h → block_in (of old new) i ≡ block_in new h
    block_of i h at = at_map (block_in new) instances i h idle at

  module _ (prior old new : State) where
    -- what a step of the part reads, and what its copy reads
    abbrev pub reads_of : ℕ → ℕ → Bool
    reads_of = read_at part (of prior old) (of old new)

    pub reads_same : (j k r s : ℕ) → StandsFor net part origins instances j k r s → reads_of j r ≡ read_at net old new k s
    reads_same j k r s h =
        ⊎_elim
        (λ now.
        let here = signal_of old new r (Now s) now.0 in
        let there = signal_of prior old r (Now s) now.0 in
        λ i. cond (now.1 i) (here i) (there i))
        (λ late.
        cond-true (is_new part j r) (signal_in (of old new) r) (signal_in (of prior old) r)
        (or_left (nat_lt r (input_count part)) (list_any (drives part r) (take j part.steps)) (lt-ltb r (input_count part) late.1))
        ∙ signal_of old new r (Before s) late.0
        ∙ sym (cond-false (is_new net k s) (signal_in new s) (signal_in old s) late.2))
        h

    module _ (ins : List Bool) (dt : ℕ) (solves : Solves net old ins dt new) where
      assigned_by : (j t : ℕ) (e : Formula) (place : ℕ) (step : Action) → slice_get net.steps place ≡ Some step →
          IsStepCopy net part origins instances j place (assigns t e) step → signal_in (of old new) t ≡ value (reads_of j) e
      assigned_by j t e place (assigns u f) at copy =
          signal_of old new t (Now u) copy.0 ∙ solves.assigned place u f at
          ∙ sym (value_copied (StandsFor net part origins instances j place) (reads_of j) (read_at net old new place) (reads_same j place) e f copy.1)
      assigned_by j t e place (calls h others) at copy = absurd copy

      called_by : (j i : ℕ) (args : List Actual) (place : ℕ) (step : Action) → slice_get net.steps place ≡ Some step →
          IsStepCopy net part origins instances j place (calls i args) step →
          block_in (of old new) i ≡ moved (kind_at part i) (limit_of (kind_at part i) args) (pins_under (reads_of j) (kind_at part i) args) dt (block_in (of prior old) i)
      called_by j i args place (assigns u f) at copy = absurd copy
      called_by j i args place (calls h others) at copy =
          let P = StandsFor net part origins instances j place in
          let v = read_at net old new place in
          let kind = kind_at part i in
          let same : kind_at net h ≡ kind = sym (is.kinds i h copy.0).1 in
          let times : limit_of kind others ≡ limit_of kind args =
          ap (λ t. (block kind).fixed_limit + t) (sym (times_copied P (block kind).inputs args others copy.1)) in
          let pins : pins_under v kind others ≡ pins_under (reads_of j) kind args =
          λ x n. sym (arg_copied P (reads_of j) v (reads_same j place) (pin_at kind n).free args others n copy.1) x in
          let was : block_in old h ≡ block_in (of prior old) i = sym (block_of prior old i h copy.0) in
          block_of old new i h copy.0 ∙ solves.called place h others at
          ∙ ap (λ k. moved k (limit_of k others) (pins_under v k others) dt (block_in old h)) same
          ∙ (λ x. moved kind (times x) (pins x) dt (was x))

      pub solves_of : Solves part (of prior old) (of old new).signals dt (of old new)
      solves_of = record {
        signal_each = length-map origins (value_by old new) ∙ is.origin_each;
        block_each = length-map instances (block_in new) ∙ is.instance_each;
        inputs = λ s within. refl;
        assigned = λ j t e at. let step = is.steps j (assigns t e) at in assigned_by j t e step.place step.step step.at step.copy;
        undriven = λ s from off. ⊎_elim
            (λ within. absurd (false≢true (sym off ∙ is.driven s from within)))
            (λ past. get_or_past (of old new).signals s false (omega (arith, past, length-map origins (value_by old new), is.origin_each)))
            (cases_lt s (signal_count part));
        called = λ j i args at. let step = is.steps j (calls i args) at in called_by j i args step.place step.step step.at step.copy;
        pin_outputs = λ i n within few.
            let found = element_at instances i (omega (arith, within, is.instance_each)) in
            let h = found.0 in
            let kind = is.kinds i h found.1 in
            let same : kind_at net h ≡ kind_at part i = sym kind.1 in
            let left : block_in new h ≡ block_in (of old new) i = sym (block_of old new i h found.1) in
            signal_of old new (first_pin part i + n) (Now (first_pin net h + n)) (is.pins i h n found.1 few)
            ∙ solves.pin_outputs h n kind.0 (subst (λ k. n < output_count k) kind.1 few)
            ∙ (λ x. slice_index_or (outs (same x) (left x).code (left x).mode) n false);
      }

    module _ (sound : IsSound net) (part_sound : IsSound part) where
      pin_by : (j i : ℕ) (args : List Actual) (place : ℕ) (step : Action) → slice_get net.steps place ≡ Some step →
          IsStepCopy net part origins instances j place (calls i args) step → (h n : ℕ) → slice_get instances i ≡ Some h →
          pins_under (reads_of j) (kind_at part i) args n ≡ input_pin net old.signals new.signals h n
      pin_by j i args place (assigns u f) at copy h n is_h = absurd copy
      pin_by j i args place (calls g others) at copy h n is_h =
          let P = StandsFor net part origins instances j place in
          let v = read_at net old new place in
          let kind = is.kinds i g copy.0 in
          let same : g ≡ h = cc in
          let once : call_step net g ≡ Some place =
          position_alone (is_call_of net g) net.steps place (calls g others) (omega (arith, sound.called_once g kind.0)) at
          (is_call_itself net sound g others) in
          arg_copied P (reads_of j) v (reads_same j place) (pin_at (kind_at part i) n).free args others n copy.1
          ∙ ap (λ k. pins_under v k others n) kind.1
          ∙ ap (λ a. called_pin net v a n) (sym at)
          ∙ ap (λ o. option_map_or (λ k. called_pin net (read_between net old.signals new.signals k) (slice_get net.steps k) n) o false) (sym once)
          ∙ ap (λ x. input_pin net old.signals new.signals x n) same

      -- instances of the part read what those read that they are
      pub pins_of : (i h n : ℕ) → slice_get instances i ≡ Some h →
          pins_read part (of prior old).signals (of old new).signals i n ≡ pins_read net old.signals new.signals h n
      pins_of i h n at =
          let within : i < instance_count part = omega (arith, slice_get_within instances i h at, is.instance_each) in
          let call = call_drives part part_sound i within in
          let j = call.0 in
          let stands = stands_at part part_sound i j call.1 in
          let step = is.steps j (calls i stands.0) stands.1 in
          let here : input_pin part (of prior old).signals (of old new).signals i n ≡ input_pin net old.signals new.signals h n =
          ap (λ o. option_map_or (λ k. called_pin part (read_between part (of prior old).signals (of old new).signals k) (slice_get part.steps k) n) o false) call.1
          ∙ ap (λ a. called_pin part (reads_of j) a n) stands.1
          ∙ pin_by j i stands.0 step.place step.step step.at step.copy h n at in
          let both : nat_lt i (instance_count part) ≡ nat_lt h (instance_count net) =
          lt-ltb i (instance_count part) within ∙ sym (lt-ltb h (instance_count net) (is.kinds i h at).0) in
          λ x. both x && here x
