-- A scan that did all its steps solves its equations.
use Rattle.std.proofs.Common.{◌≡◌, ℕ, ◌<◌, ◌≤◌, Bool, true, false, cond, List, length, map, get_or, Some, refl, sym, ap, ◌∙◌, subst, arith, ⊎_elim, replicate}
use Rattle.std.specs.Prelude.{nat_lt, slice_index_or}
use Rattle.std.specs.List.{list_any, range_with_len}
use Rattle.std.proofs.lemmas.List.{take_all, ext_get_or, get_or_past, get_or-replicate, length-replicate, length-map, get_or-map}
use Rattle.std.proofs.Math.ListN as ListN
use Rattle.std.proofs.lemmas.List.FromFn.{length-map-range_with_len, get_or-map-range_with_len}
use Rattle.std.proofs.lemmas.Bool.{false≢true, cases_Bool, cond-true, cond-false, or_parts, cases_lt, ltb-false}
use Rattle.ps_model.specs.Blocks.{Block_state, idle}
use Rattle.ps_model.specs.Kept.{Kept, StandsBy, Since, fresh}
use Rattle.ps_model.specs.Network.{Network, input_count, instance_count, signal_count, is_call_of, is_driven}
use Rattle.ps_model.specs.Sound.{IsSound}
use Rattle.ps_model.specs.Scanning.{State, Solves, signal_in, block_in}
use Rattle.ps_model.specs.Running.{Interim, begun, is_kept, exec}
use Rattle.ps_model.specs.Meaning.{Past, nothing, last, last_time, old_state, first_state, passed, diag_in}
use Rattle.ps_model.specs.Blank.{no_diag}
use Rattle.ps_model.specs.declared.report.Diag.{Diag}
use Rattle.ps_model.specs.declared.report.Report.{Report}
use Rattle.ps_model.proofs.Once.{place_of, any_of_one}
use Rattle.ps_model.proofs.OneSolution.{call_is, block_stays, signal_stays, solves_from}
use Rattle.ps_model.specs.declared.named.Instance.{Instance}
use Rattle.ps_model.specs.Network.{no_instance}
use Rattle.ps_scan.specs.Instances.{KeptInstance, kept_instance, no_kept_instance}
use Rattle.ps_scan.specs.Cells.{Cells, signal_at, kept_at, first_instances, IsFor}
use Rattle.ps_scan.specs.Midway.{is_called, Waits, Midway}
use Rattle.ps_scan.specs.Scan.{CellsStand, IsScan}

idle_first : (n i : ℕ) → (get_or (replicate n idle) i idle).code ≡ 0
idle_first n i =
    ⊎_elim (λ inside. ap (λ (b : Block_state). b.code) (get_or-replicate n i idle idle inside))
    (λ beyond. ap (λ (b : Block_state). b.code) (get_or_past (replicate n idle) i idle (let e = length-replicate n idle in omega arith)))
    (cases_lt i n)

idle_stands : (now i : ℕ) (w : Cells) (b : Block_state) → length w.instances ≤ i → b ≡ idle → StandsBy (Since now) (kept_at w i) b
idle_stands now i w b past is =
    subst (λ (z : Block_state). StandsBy (Since now) (kept_at w i) z) (sym is)
    (subst (λ (z : KeptInstance). StandsBy (Since now) z.kept idle) (sym (get_or_past w.instances i no_kept_instance past))
    (record { code = refl; last_reset = refl; last_auxiliary = refl; mode = refl; timer = λ on. absurd (on refl) }))

-- what an instance keeps waits for its call
pub waits_first : (net : Network) (past : Past) (now : ℕ) (k : Kept) (i : ℕ) → StandsBy (Since (last_time past)) k (block_in (old_state net past) i) →
    Waits (last_time past) (passed past now) now k (block_in (old_state net past) i)
waits_first net nothing now k i h = record { stands = h; passed = λ on. absurd (on (idle_first (instance_count net) i)) }
waits_first net (last before w) now k i h = record { stands = h; passed = λ on. refl }

module _ (net : Network) (sound : IsSound net) (past : Past) (now : ℕ) (ins : List Bool) (w w' : Cells) (ds : List Diag)
    (stands : CellsStand net past w) where
  abbrev pub old : State
  old = old_state net past

  abbrev pub dt : ℕ
  dt = passed past now

  abbrev pub start : Interim
  start = begun net old ins

  abbrev pub all : Interim
  all = exec net dt net.steps start

  -- the inputs are written
  pub begun_from : (begin : Cells) → (signals : (s : ℕ) → signal_at begin s ≡ cond (nat_lt s (input_count net)) (slice_index_or ins s false) (signal_at w s)) →
      begin.instances ≡ w.instances → Midway net (last_time past) dt now 0 begin ds start
  begun_from begin signals instances = record {
    signals = λ s. signals s ∙ ap (λ b. cond (nat_lt s (input_count net)) (slice_index_or ins s false) b) (ap (λ ss. slice_index_or ss s false) stands.signals);
    waiting = λ i h. subst (λ (z : Kept). Waits (last_time past) dt now z (block_in old i)) (sym (ap (λ is. kept_at (record { signals = begin.signals; instances = is }) i) instances))
        (waits_first net past now (kept_at w i) i (stands.instances i));
    called = λ i h. absurd (false≢true h);
    reported = λ i h. absurd (false≢true h);
  }

  -- past the instances nothing is called
  uncalled : (i : ℕ) → instance_count net ≤ i → list_any (is_call_of net i) net.steps ≡ false
  uncalled i beyond =
      ⊎_elim (λ y. let r = place_of (is_call_of net i) net.steps y in let c = call_is net sound i r.1 r.3 in
      let within = sound.instances r.0 i c.0 (r.2 ∙ ap Some c.1) in absurd (omega (arith, within))) (λ n. n) (cases_Bool (list_any (is_call_of net i) net.steps))

  all_called : (i : ℕ) → i < instance_count net → is_called net (length net.steps) i ≡ true
  all_called i inside =
      ap (list_any (is_call_of net i)) (take_all (length net.steps) net.steps (omega arith))
      ∙ any_of_one (is_call_of net i) net.steps (sound.called_once i inside)

  module _ (mid : Midway net (last_time past) dt now (length net.steps) w' ds all) (sizes : IsFor net w') (many : length ds ≡ instance_count net) where
    abbrev pub state : State
    state = record { signals = w'.signals; blocks = map all.blocks (range_with_len 0 (instance_count net)) }

    block_is : (i : ℕ) → block_in state i ≡ all.blocks i
    block_is i =
        ⊎_elim
        (λ inside. get_or-map-range_with_len all.blocks 0 (instance_count net) i i idle inside (omega arith))
        (λ beyond. get_or_past state.blocks i idle (let e = length-map-range_with_len all.blocks 0 (instance_count net) in omega arith)
        ∙ sym (get_or_past old.blocks i idle (let e = stands.instance_each in omega arith))
        ∙ sym (block_stays net dt net.steps start i (uncalled i beyond)))
        (cases_lt i (instance_count net))

    -- a signal that is neither an input nor driven stays FALSE
    off : (s : ℕ) → is_kept net s ≡ false → all.signals s ≡ false
    off s n =
        let parts = or_parts (nat_lt s (input_count net)) (is_driven net s) n in
        signal_stays net dt net.steps start s parts.1
        ∙ cond-false (nat_lt s (input_count net)) (slice_index_or ins s false) (signal_in old s) parts.0
        ∙ ap (λ ss. slice_index_or ss s false) (sym stands.signals)
        ∙ stands.undriven s (ltb-false s (input_count net) parts.0) parts.1

    kept_or_not : (s : ℕ) → signal_in state s ≡ cond (is_kept net s) (all.signals s) false
    kept_or_not s =
        ⊎_elim
        (λ y. mid.signals s ∙ sym (cond-true (is_kept net s) (all.signals s) false y))
        (λ n. mid.signals s ∙ off s n ∙ sym (cond-false (is_kept net s) (all.signals s) false n))
        (cases_Bool (is_kept net s))

    pub solves_old : Solves net old ins dt state
    solves_old = solves_from net sound old ins dt state sizes.signal_each (length-map-range_with_len all.blocks 0 (instance_count net)) kept_or_not block_is

    stands_each : (i : ℕ) → StandsBy (Since now) (kept_at w' i) (block_in state i)
    stands_each i =
        subst (λ (b : Block_state). StandsBy (Since now) (kept_at w' i) b) (sym (block_is i))
        (⊎_elim
        (λ inside. mid.called i (all_called i inside))
        (λ beyond. idle_stands now i w' (all.blocks i) (let e = sizes.instance_each in omega arith)
        (sym (block_is i) ∙ get_or_past state.blocks i idle (let e = length-map-range_with_len all.blocks 0 (instance_count net) in omega arith)))
        (cases_lt i (instance_count net)))

    pub stands_after : CellsStand net (last now state) w'
    stands_after = record {
      signals = refl;
      undriven = λ s past undriven. solves_old.undriven s past undriven;
      instance_each = length-map-range_with_len all.blocks 0 (instance_count net);
      instances = stands_each;
    }

    pub diagnoses_are : ds ≡ map (λ (b : Block_state). diag_in b.code) state.blocks
    diagnoses_are =
        let f : Block_state → Diag = λ b. diag_in b.code in
        let size : length (map f state.blocks) ≡ instance_count net = length-map state.blocks f ∙ length-map-range_with_len all.blocks 0 (instance_count net) in
        ext_get_or no_diag ds (map f state.blocks) (many ∙ sym size)
        (λ i inside.
        let within : i < instance_count net = omega (arith, many, inside) in
        mid.reported i (all_called i within) inside
        ∙ ap f (sym (block_is i))
        ∙ sym (get_or-map f state.blocks i idle no_diag (let e = length-map-range_with_len all.blocks 0 (instance_count net) in omega arith)))

    -- with these outputs the report is that of the state
    pub is_scan : (r : Report) → r.outs ≡ map (signal_at w') (range_with_len (input_count net) (length net.outputs)) → r.diags ≡ ds →
        IsScan net past now ins r w'
    is_scan r outs diags = record {
      state = state;
      solves = solves_old;
      stands = stands_after;
      reports = λ i. record { outs = outs i; diags = (diags ∙ diagnoses_are) i };
    }

-- ---- the first state

module _ (net : Network) (w : Cells) (signals : w.signals ≡ replicate (signal_count net) false) (instances : w.instances ≡ first_instances net.instances) where
  false_at : (n s : ℕ) → get_or (replicate n false) s false ≡ false
  false_at n s =
      ⊎_elim (λ inside. get_or-replicate n s false false inside)
      (λ beyond. get_or_past (replicate n false) s false (let e = length-replicate n false in omega arith)) (cases_lt s n)

  fresh_at : (i : ℕ) → kept_at w i ≡ fresh
  fresh_at i =
      ap (λ (is : List KeptInstance). (get_or is i no_kept_instance).kept) instances
      ∙ ap (λ (h : KeptInstance). h.kept) (ListN.get_or-map (λ (x : Instance). kept_instance x.kind fresh) net.instances i no_instance)

  idle_at : (n i : ℕ) → get_or (replicate n idle) i idle ≡ idle
  idle_at n i =
      ⊎_elim (λ inside. get_or-replicate n i idle idle inside)
      (λ beyond. get_or_past (replicate n idle) i idle (let e = length-replicate n idle in omega arith)) (cases_lt i n)

  pub stands_first : CellsStand net nothing w
  stands_first = record {
    signals = signals;
    undriven = λ s past undriven. ap (λ ss. get_or ss s false) signals ∙ false_at (signal_count net) s;
    instance_each = length-replicate (instance_count net) idle;
    instances = λ i.
        subst (λ (z : Kept). StandsBy (Since 0) z (block_in (first_state net) i)) (sym (fresh_at i))
        (subst (λ (z : Block_state). StandsBy (Since 0) fresh z) (sym (idle_at (instance_count net) i))
        (record { code = refl; last_reset = refl; last_auxiliary = refl; mode = refl; timer = λ on. absurd (on refl) }));
  }

-- cells that are made of these have the application's sizes and kinds
pub sized_first : (net : Network) (w : Cells) → length w.signals ≡ signal_count net → w.instances ≡ first_instances net.instances → IsFor net w
sized_first net w signals instances = record {
  signal_each = signals;
  instance_each = ap length instances ∙ length-map net.instances (λ (i : Instance). kept_instance i.kind fresh);
  kinds = λ i.
      ap (λ (is : List KeptInstance). (get_or is i no_kept_instance).kind) instances
      ∙ ap (λ (h : KeptInstance). h.kind) (ListN.get_or-map (λ (x : Instance). kept_instance x.kind fresh) net.instances i no_instance);
}
