-- What the code keeps of a run stands for its states.
use Rattle.std.proofs.Common.{◌≡◌, ◌≢◌, ℕ, zero, suc, ◌+◌, ◌-◌, ◌<◌, Bool, true, false, cond, List, length, map, replicate, slice_get, Option, Some, None, refl, sym, ap, subst, ◌∙◌, inl, inr, arith, ◌&&◌}
use Rattle.std.specs.Prelude.{◌==◌, nat_le, option_map, slice_index_or}
use Rattle.std.specs.List.{range_with_len}
use Rattle.std.proofs.lemmas.Bool.{cases_lt, eq-eqb, le-leb, lt-leb, ne_eqb}
use Rattle.std.proofs.lemmas.Option.{same_Some, slice_get-get_or, slice_get_within}
use Rattle.ps_model.specs.Action.{Action, Actual, assigns, calls}
use Rattle.ps_model.specs.Blocks.{Block_state, conditions, idle, moved, next}
use Rattle.ps_model.specs.Kept.{Kept, Remains, StandsBy, counted_down, fresh, seen}
use Rattle.ps_model.specs.Meaning.{Past, last, nothing, old_state, passed}
use Rattle.ps_model.specs.Network.{Network, instance_count, kind_at}
use Rattle.ps_model.specs.Scanning.{Solves, State, block_in, limit_of, pins_under, read_at}
use Rattle.ps_model.specs.declared.kind.Kind.{Kind}
use Rattle.ps_model.proofs.Keeping.{count_down}
use Rattle.ps_rows.specs.Counted.{kept_of}
use Rattle.ps_cover.specs.Applying.{ScanStep}
use Rattle.ps_cover.specs.Marks.{marked}
use Rattle.ps_ways.specs.Marks.{made, number_taken}
use Rattle.ps_ways.specs.Moving.{moved_by}
use Rattle.ps_cover.specs.Blocks.{called_in, moved_in}
use Rattle.ps_cover.specs.Covering.{AreCalls, AreScanned, makes_in, operands_in, point_of, shows_in}
use Rattle.ps_cover.specs.Covers.{StandsFor, idle_call, idle_step}
use Rattle.ps_cover.specs.Deciding.{is_value}
use Rattle.ps_cover.specs.Points.{decides, makes_at, shows}
use Rattle.ps_machine.specs.Reading.{read_in}
use Rattle.ps_machine.proofs.Between.{reads_are as read_as}
use Rattle.ps_cover.specs.declared.block.Called.{Called}
use Rattle.ps_ways.specs.declared.moving.Moved.{Moved}
use Rattle.ps_cover.specs.declared.point.Point.{Point}
use Rattle.ps_cover.specs.declared.point.Point.TheVariants.{Mark, Value, Decides}
use Rattle.ps_cover.proofs.Calling.{no_call}
use Rattle.ps_cover.proofs.Calling.{idle_at as idle_step_at}
use Rattle.ps_machine.specs.declared.signals.Signals.{Signals}

run_out : (limit age dt : ℕ) → (limit - age - dt == 0) ≡ nat_le limit (age + dt)
run_out limit age dt =
    elim (cases_lt (age + dt) limit) [
      | inl early ↦ ne_eqb (limit - age - dt) 0 (λ e. omega arith) ∙ sym (lt-leb limit (age + dt) early)
      | inr late ↦ eq-eqb (limit - age - dt) 0 (omega arith) ∙ sym (le-leb limit (age + dt) late)
    ]

module _ (kind : Kind) (limit : ℕ) (pins : ℕ → Bool) (since : ℕ) (k : Kept) (b : Block_state) (h : StandsBy (Remains limit) k b) where
  -- what the guards see, where the block is not Idle
  seen_is : b.code ≢ 0 → seen kind pins (k.timer - since == 0) k ≡ conditions kind limit pins since b
  seen_is on =
      let elapsed : (k.timer - since == 0) ≡ nat_le limit (b.age + since) = ap (λ t. t - since == 0) (h.timer on) ∙ run_out limit b.age since in
      λ i. seen kind pins (elapsed i) (record { code = h.code i; last_reset = h.last_reset i; last_auxiliary = h.last_auxiliary i; mode = h.mode i; timer = k.timer })

  none_taken : (c : Bool) (n : ℕ) → cond (c && false) n 0 ≡ 0
  none_taken true n = refl
  none_taken false n = refl

  -- the guard that is taken
  number_is : number_taken kind k.code (seen kind pins (k.timer - since == 0) k) ≡ number_taken kind b.code (conditions kind limit pins since b)
  number_is = by b.code refl
    where
      by : (q : ℕ) → b.code ≡ q → number_taken kind k.code (seen kind pins (k.timer - since == 0) k) ≡ number_taken kind b.code (conditions kind limit pins since b)
      by zero e =
          ap (λ q. number_taken kind q (seen kind pins (k.timer - since == 0) k)) (h.code ∙ e) ∙ none_taken (pins 0) _
          ∙ sym (ap (λ q. number_taken kind q (conditions kind limit pins since b)) e ∙ none_taken (pins 0) _)
      by (suc n) e =
          (λ i. number_taken kind (h.code i) (seen_is (λ z. omega (arith, e, z)) i))

  -- the state that is entered
  code_is : (counted_down kind limit pins since k).code ≡ next kind b.code (conditions kind limit pins since b)
  unfolding moved
  code_is = (count_down kind limit pins since since k b h (λ on. refl)).code

  pub marks_are : (mark : ℕ) →
      made kind k.code (number_taken kind k.code (seen kind pins (k.timer - since == 0) k)) (counted_down kind limit pins since k).code mark
      ≡ marked kind b.code (conditions kind limit pins since b) mark
  marks_are mark = λ i. made kind (h.code i) (number_is i) (code_is i) mark

module _ (net : Network) (x : Signals) (old new : State) (before : x.before.now ≡ old.signals) (behind : x.behind.now ≡ new.signals) where
  -- a step reads what it reads
  pub reads_are : (k : ℕ) → read_in net x k ≡ read_at net old new k
  reads_are k = read_as net x.before.now x.behind.now old new before behind k

  -- the step of a call
  moved_is : (since k i : ℕ) (args : List Actual) → slice_get net.steps k ≡ Some (calls i args) → (c : Called) → c.step ≡ k →
      (called_in net x since c).moved
      ≡ moved_by (kind_at net i) (limit_of (kind_at net i) args) (pins_under (read_at net old new k) (kind_at net i) args) since c.moved.block
  moved_is since k i args at c is =
      ap (moved_in net x since c) (ap (slice_get net.steps) is ∙ at)
      ∙ (λ j. moved_by (kind_at net i) (limit_of (kind_at net i) args) (pins_under (read_in net x (is j)) (kind_at net i) args) since c.moved.block)
      ∙ (λ j. moved_by (kind_at net i) (limit_of (kind_at net i) args) (pins_under (reads_are k j) (kind_at net i) args) since c.moved.block)

  -- the marks of a call after a scan
  made_so : (since k : ℕ) (a : Option Action) → slice_get net.steps k ≡ a → (c : Called) → c.step ≡ k →
      ((i : ℕ) (args : List Actual) → a ≡ Some (calls i args) → StandsBy (Remains (limit_of (kind_at net i) args)) (kept_of c.moved.block) (block_in old i)) →
      (mark : ℕ) → makes_in net a (Some (called_in net x since c)) mark ≡ makes_at net k a mark (record { old = old; since = since; new = new })
  made_so since k None at c is stands mark = refl
  made_so since k (Some (assigns t e)) at c is stands mark = refl
  made_so since k (Some (calls i args)) at c is stands mark =
      let kind = kind_at net i in
      ap (λ (m : Moved). made kind m.from m.number m.block.code mark) (moved_is since k i args at c is)
      ∙ marks_are kind (limit_of kind args) (pins_under (read_at net old new k) kind args) since (kept_of c.moved.block) (block_in old i) (stands i args refl) mark

  module _ (past : Past) (now : ℕ) (old_is : old ≡ old_state net past) (cs cs' : List Called) (are : AreCalls net cs)
      (scanned : AreScanned net x (passed past now) cs cs') (stands : StandsFor net past cs) where
    abbrev since : ℕ
    since = passed past now

    abbrev step : ScanStep
    step = record { old = old; since = since; new = new }

    stands_old : (k i : ℕ) (args : List Actual) (c : Called) → slice_get net.steps k ≡ Some (calls i args) → slice_get cs k ≡ Some c →
        StandsBy (Remains (limit_of (kind_at net i) args)) (kept_of c.moved.block) (block_in old i)
    stands_old k i args c at here =
        subst (λ (w : State). StandsBy (Remains (limit_of (kind_at net i) args)) (kept_of c.moved.block) (block_in w i)) (sym old_is) (stands k i args c at here)

    -- there is a call for each step
    each_call : (k : ℕ) (a : Action) → slice_get net.steps k ≡ Some a → slice_get cs k ≡ None → ⊥
    each_call k a at none =
        let within : k < length cs = omega (arith, slice_get_within net.steps k a at, are.each) in
        let some = slice_get-get_or cs k no_call within in
        let clash : Some (slice_index_or cs k no_call) ≡ None = sym some ∙ none in
        cc

    none_made : (k : ℕ) (a : Option Action) → slice_get net.steps k ≡ a → slice_get cs k ≡ None → (d : Option Called) (mark : ℕ) →
        makes_in net a d mark ≡ makes_at net k a mark step
    none_made k None at none d mark = refl
    none_made k (Some (assigns t e)) at none d mark = refl
    none_made k (Some (calls i args)) at none d mark = absurd (each_call k (calls i args) at none)

    -- a point is shown where the code says so
    pub shown_so : (b : Bool) (p : Point) → shows_in net x cs' b p ≡ shows net b (point_of p) step
    shown_so b (Mark k mark) = by (slice_get cs k) refl
      where
        by : (d : Option Called) → slice_get cs k ≡ d →
            makes_in net (slice_get net.steps k) (slice_get cs' k) mark ≡ makes_at net k (slice_get net.steps k) mark step
        by None at = none_made k (slice_get net.steps k) refl at (slice_get cs' k) mark
        by (Some c) at =
            ap (λ d. makes_in net (slice_get net.steps k) d mark) (scanned k ∙ ap (option_map (called_in net x since)) at)
            ∙ made_so since k (slice_get net.steps k) refl c (are.kept k c at).0 (λ i args call. stands_old k i args c call at) mark
    shown_so b (Value s) = ap (λ (bs : List Bool). is_value b (slice_index_or bs s false)) behind
    shown_so b (Decides d) = ap (λ v. decides v d.of_and (operands_in d) d.place b) (reads_are d.step)

    -- and the calls stand for the state after
    pub stands_next : (ins : List Bool) → Solves net old ins since new → StandsFor net (last now new) cs'
    stands_next ins solves k i args c' at here = by (slice_get cs k) refl
      where
        by : (d : Option Called) → slice_get cs k ≡ d → StandsBy (Remains (limit_of (kind_at net i) args)) (kept_of c'.moved.block) (block_in new i)
        by None none = absurd (each_call k (calls i args) at none)
        by (Some c) was =
            let kind = kind_at net i in
            let limit = limit_of kind args in
            let pins = pins_under (read_at net old new k) kind args in
            let same : called_in net x since c ≡ c' = same_Some _ c' (sym (scanned k ∙ ap (option_map (called_in net x since)) was) ∙ here) in
            let kept : counted_down kind limit pins since (kept_of c.moved.block) ≡ kept_of c'.moved.block =
            sym (ap (λ (m : Moved). kept_of m.block) (moved_is since k i args at c (are.kept k c was).0)) ∙ ap (λ (d : Called). kept_of d.moved.block) same in
            let steps = count_down kind limit pins since since (kept_of c.moved.block) (block_in old i) (stands_old k i args c at was) (λ on. refl) in
            subst (λ (q : Kept). StandsBy (Remains limit) q (block_in new i)) kept
            (subst (λ (b : Block_state). StandsBy (Remains limit) (counted_down kind limit pins since (kept_of c.moved.block)) b) (sym (solves.called k i args at)) steps)

idle_at : (n i : ℕ) → slice_index_or (replicate n idle) i idle ≡ idle
idle_at zero i = refl
idle_at (suc n) zero = refl
idle_at (suc n) (suc i) = idle_at n i

-- a call of which all is idle stands for the first state
idle_stands : (net : Network) (i limit : ℕ) (c : Called) → kept_of c.moved.block ≡ fresh → StandsBy (Remains limit) (kept_of c.moved.block) (block_in (old_state net nothing) i)
idle_stands net i limit c is =
    subst (λ (b : Block_state). StandsBy (Remains limit) (kept_of c.moved.block) b) (sym (idle_at (instance_count net) i))
    (subst (λ k. StandsBy (Remains limit) k idle) (sym is) (record { code = refl; last_reset = refl; last_auxiliary = refl; mode = refl; timer = λ on. absurd (on refl) }))

-- calls before the first scan stand for the first state
pub stands_first : (net : Network) (cs cs' : List Called) → ((k : ℕ) → slice_get cs' k ≡ option_map idle_call (slice_get cs k)) → StandsFor net nothing cs'
stands_first net cs cs' is k i args c' at here = by (slice_get cs k) refl
  where
    by : (d : Option Called) → slice_get cs k ≡ d → StandsBy (Remains (limit_of (kind_at net i) args)) (kept_of c'.moved.block) (block_in (old_state net nothing) i)
    by None none = absurd (let clash : None ≡ Some c' = sym (is k ∙ ap (option_map idle_call) none) ∙ here in cc)
    by (Some c) was =
        let same : idle_call c ≡ c' = same_Some _ c' (sym (is k ∙ ap (option_map idle_call) was) ∙ here) in
        idle_stands net i (limit_of (kind_at net i) args) c' (ap (λ (d : Called). kept_of d.moved.block) (sym same))

-- and so do the steps at the beginning
pub begin_stands : (net : Network) (n : ℕ) → StandsFor net nothing (map idle_step (range_with_len 0 n))
begin_stands net n k i args c at here =
    idle_stands net i (limit_of (kind_at net i) args) c (ap (λ (d : Called). kept_of d.moved.block) (idle_step_at n k c here))
