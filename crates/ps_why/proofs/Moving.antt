-- On what guards, states and modes rest.
use Rattle.std.proofs.Common.{◌≡◌, ◌≢◌, ◌⊎◌, ℕ, ◌+◌, ◌<◌, Bool, cond, List, refl, subst, sym, ap, ◌∙◌, inl, inr, arith}
use Rattle.std.specs.Prelude.{Contains, Some, ◌==◌, slice_get, if◌then◌else◌}
use Rattle.std.specs.List.{list_any, range_with_len}
use Rattle.std.proofs.lemmas.Bool.{cond-false, ne_eqb}
use Rattle.ps_model.specs.Action.{Actual, calls}
use Rattle.ps_model.specs.Blocks.{latched, lowest_on, mode_states}
use Rattle.ps_model.specs.Kept.{Kept, seen}
use Rattle.ps_model.specs.Network.{Network, instance_count, kind_at}
use Rattle.ps_model.specs.Scanning.{State}
use Rattle.ps_model.specs.Table.{Conditions}
use Rattle.ps_model.specs.declared.kind.Kind.{Kind}
use Rattle.ps_model.specs.declared.kind.Kind.TheVariants.{Equivalent, Antivalent, EmergencyStop, Espe, ModeSelector}
use Rattle.ps_model.specs.declared.kind.Kind.TheVariants.{TwoHandTwo, TwoHandThree, GuardMonitoring, GuardLocking}
use Rattle.ps_model.specs.declared.kind.Kind.TheVariants.{EnableSwitch, SafetyRequest, OutControl, Edm}
use Rattle.ps_ways.specs.Ways.{asks}
use Rattle.ps_ways.specs.declared.way.Ask.{Ask}
use Rattle.ps_why.specs.Facts.{IsSo}
use Rattle.ps_why.specs.Grounds.{MayBe}
use Rattle.ps_why.specs.Laws.{IsOfApplication}
use Rattle.ps_why.specs.Rests.{IsDecided, IsEntered, IsInactive, IsLatched, IsMoved}
use Rattle.ps_why.specs.Telling.{IsAskOf, IsPinOf}
use Rattle.ps_why.specs.declared.fact.Fact.{Fact}
use Rattle.ps_why.specs.declared.fact.Fact.TheVariants.{AskIs, ModeIs, ModeWas, PinIs, StateIs, StateWas}
use Rattle.ps_why.proofs.Resting.{latched_is_so, moved_is_so}
use Rattle.ps_why.specs.Asking.{IsOfStep, IsSettledBy}
use Rattle.ps_why.specs.Telling.{TellsModes}
use Rattle.ps_why.specs.Resting.{RestsThere}
use Rattle.ps_why.specs.Scenes.{IsCallFor, IsSceneOf, conditions_in, pins_in}
use Rattle.ps_why.specs.declared.asks.Call.{Call}
use Rattle.ps_why.specs.declared.call.CallScene.{CallScene}
use Rattle.ps_why.specs.declared.scene.Scene.{Scene}
use Rattle.ps_why.proofs.Seeing.{ask_is, ask_so, is_limit, seen_is}
use Rattle.ps_why.proofs.So.{one_call, pin_so}

-- ---- What a guard asks.

-- a call of an application
abbrev pub call_at : Network → (k i : ℕ) → CallScene → Call
call_at net k i c = record { step = k; instance = i; kind = kind_at net i; last = c.last }

module _ (net : Network) (x : Scene) (k i : ℕ) (args : List Actual) (c : CallScene) (inside : i < instance_count net) (at : slice_get x.calls.now i ≡ Some c)
    (stands : slice_get net.steps k ≡ Some (calls i args)) where
  -- what is told of a call is so
  step_so : (old : State) (since : ℕ) (new : State) → IsSceneOf net old since new x → (f : Fact) →
      IsOfStep (call_at net k i c) (pins_in net x k i args) f → IsSo net old since new f
  step_so old since new scene f (inl pin) = subst (IsSo net old since new) (sym pin.1) (pin_so net x old since new scene k i args stands pin.0)
  step_so old since new scene f (inr (inl is)) = subst (IsSo net old since new) (sym is) (scene.calls i c at).reset
  step_so old since new scene f (inr (inr (inl is))) = subst (IsSo net old since new) (sym is) (scene.calls i c at).auxiliary
  step_so old since new scene f (inr (inr (inr is))) = subst (IsSo net old since new) (sym is) (scene.calls i c at).mode_before

  step_fit : (f : Fact) → IsOfStep (call_at net k i c) (pins_in net x k i args) f → IsOfApplication net f
  step_fit f (inl pin) = subst (IsOfApplication net) (sym pin.1) tt
  step_fit f (inr (inl is)) = subst (IsOfApplication net) (sym is) tt
  step_fit f (inr (inr (inl is))) = subst (IsOfApplication net) (sym is) tt
  step_fit f (inr (inr (inr is))) = subst (IsOfApplication net) (sym is) tt

  pub ask_rests : (a : Ask) (b : Bool) (cs : Conditions) (facts : List Fact) → cs ≡ conditions_in net x k i args c →
      IsSettledBy (call_at net k i c) a cs (Contains facts) → ((f : Fact) → Contains facts f → IsOfStep (call_at net k i c) cs.pin f) →
      RestsThere net x (AskIs k a b) facts
  ask_rests a b cs facts is settled only old ins since new solves scene fit so = record {
    grounds = elim (is_limit a) [
      | inl limit ↦ inl (inr limit)
      | inr other ↦ inr (λ i' args' there.
          subst (λ n. (pins : ℕ → Bool) (elapsed : Bool) (kept : Kept) → MayBe net (Contains facts) k n pins kept → asks a (seen (kind_at net n) pins elapsed kept) ≡ b)
          (sym (one_call net (λ i args. i) 0 k i i' args args' stands there))
          (λ pins elapsed kept may.
          settled other net pins elapsed kept may
          ∙ ap (asks a) is
          ∙ ask_is net x old since new scene i c at k args stands a other
          ∙ so i args stands))
    ];
    so = λ f h. step_so old since new scene f (subst (λ p. IsOfStep (call_at net k i c) p f) (ap (λ (y : Conditions). y.pin) is) (only f h));
    fit = λ f h. step_fit f (subst (λ p. IsOfStep (call_at net k i c) p f) (ap (λ (y : Conditions). y.pin) is) (only f h));
  }

-- ---- A state.

-- what is told of a state: pins, what guards ask, and the state before
abbrev pub IsOfMove : (i : ℕ) → CallScene → Conditions → Fact → Type 0
IsOfMove i c cs f = IsPinOf c.step cs.pin f ⊎ ((f ≡ StateWas i c.from) ⊎ ((c.from ≢ 0) × IsAskOf c.step cs f))

module _ (net : Network) (x : Scene) (i : ℕ) (c : CallScene) (inside : i < instance_count net) (at : slice_get x.calls.now i ≡ Some c) (call : IsCallFor net i c) where
  move_so : (old : State) (since : ℕ) (new : State) → IsSceneOf net old since new x → (f : Fact) →
      IsOfMove i c (conditions_in net x c.step i call.args c) f → IsSo net old since new f
  move_so old since new scene f (inl pin) = subst (IsSo net old since new) (sym pin.1) (pin_so net x old since new scene c.step i call.args call.stands pin.0)
  move_so old since new scene f (inr (inl is)) = subst (IsSo net old since new) (sym is) (scene.calls i c at).from
  move_so old since new scene f (inr (inr h)) =
      subst (IsSo net old since new) (sym h.1.1)
      (ask_so net x old since new scene i c at c.step call.args call.stands h.1.0 (asks h.1.0 (conditions_in net x c.step i call.args c))
      (sym (ap (asks h.1.0) (seen_is net x old since new scene i c at c.step call.args call.stands ((scene.calls i c at).elapsed h.0 call.args call.stands)))))

  move_fit : (cs : Conditions) (f : Fact) → IsOfMove i c cs f → IsOfApplication net f
  move_fit cs f (inl pin) = subst (IsOfApplication net) (sym pin.1) tt
  move_fit cs f (inr (inl is)) = subst (IsOfApplication net) (sym is) tt
  move_fit cs f (inr (inr h)) = subst (IsOfApplication net) (sym h.1.1) tt

  -- by which it is moved
  abbrev pub Moves : List Fact → (q : ℕ) → Type 0
  Moves facts q =
      IsInactive net (Contains facts) c.step q ⊎ (IsEntered net (Contains facts) c.step i q ⊎ IsDecided net (Contains facts) c.step i q)

  pub state_rests : (q q' : ℕ) (cs : Conditions) (facts : List Fact) → cs ≡ conditions_in net x c.step i call.args c →
      ((f : Fact) → Contains facts f → IsOfMove i c cs f) → Moves facts q' → RestsThere net x (StateIs i q) facts
  state_rests q q' cs facts is only moves old ins since new solves scene fit so =
      let all_so = λ (f : Fact) (h : Contains facts f). move_so old since new scene f (subst (λ y. IsOfMove i c y f) is (only f h)) in
      let moved : IsMoved net (Contains facts) i q' = record { step = c.step; args = call.args; stands = call.stands; moves = moves } in
      let same : q' ≡ q =
      sym (moved_is_so net old since new (Contains facts) (λ f before h. all_so f h) ins solves i q' moved (λ j b h. all_so (PinIs c.step j b) h) (λ a b h. all_so (AskIs c.step a b) h)) ∙ so in
      record {
        grounds = inr (subst (IsMoved net (Contains facts) i) same moved);
        so = all_so;
        fit = λ f h. move_fit cs f (only f h);
      }

-- ---- A mode.

-- the lowest of the modes that are TRUE
lowest_same : (pins pins' : ℕ → Bool) → ((m : ℕ) → m < 8 → pins' (m + 1) ≡ pins (m + 1)) → lowest_on (range_with_len 0 8) pins' ≡ lowest_on (range_with_len 0 8) pins
lowest_same pins pins' same = λ t.
    cond (same 0 (omega arith) t) 0 (cond (same 1 (omega arith) t) 1 (cond (same 2 (omega arith) t) 2 (cond (same 3 (omega arith) t) 3
    (cond (same 4 (omega arith) t) 4 (cond (same 5 (omega arith) t) 5 (cond (same 6 (omega arith) t) 6 (cond (same 7 (omega arith) t) 7 0)))))))

-- the mode that is latched, by the pins of the modes
latched_new : (kind : Kind) (pins pins' : ℕ → Bool) (q' m m' : ℕ) → ((m : ℕ) → m < 8 → pins' (m + 1) ≡ pins (m + 1)) →
    latched kind pins' 0x8005 q' m' ≡ latched kind pins 0x8005 q' m
unfolding latched
latched_new ModeSelector pins pins' q' m m' same = ap (λ n. if list_any (λ x. x == q') mode_states then n else 0) (lowest_same pins pins' same)
latched_new Equivalent pins pins' q' m m' same = refl
latched_new Antivalent pins pins' q' m m' same = refl
latched_new EmergencyStop pins pins' q' m m' same = refl
latched_new Espe pins pins' q' m m' same = refl
latched_new TwoHandTwo pins pins' q' m m' same = refl
latched_new TwoHandThree pins pins' q' m m' same = refl
latched_new GuardMonitoring pins pins' q' m m' same = refl
latched_new GuardLocking pins pins' q' m m' same = refl
latched_new EnableSwitch pins pins' q' m m' same = refl
latched_new SafetyRequest pins pins' q' m m' same = refl
latched_new OutControl pins pins' q' m m' same = refl
latched_new Edm pins pins' q' m m' same = refl

-- and by the mode before
latched_kept : (kind : Kind) (pins pins' : ℕ → Bool) (q q' m : ℕ) → q ≢ 0x8005 → latched kind pins' q q' m ≡ latched kind pins q q' m
unfolding latched
latched_kept ModeSelector pins pins' q q' m other =
    ap (λ n. if list_any (λ x. x == q') mode_states then n else 0)
    (cond-false (q == 0x8005) (lowest_on (range_with_len 0 8) pins') m (ne_eqb q 0x8005 other) ∙ sym (cond-false (q == 0x8005) (lowest_on (range_with_len 0 8) pins) m (ne_eqb q 0x8005 other)))
latched_kept Equivalent pins pins' q q' m other = refl
latched_kept Antivalent pins pins' q q' m other = refl
latched_kept EmergencyStop pins pins' q q' m other = refl
latched_kept Espe pins pins' q q' m other = refl
latched_kept TwoHandTwo pins pins' q q' m other = refl
latched_kept TwoHandThree pins pins' q q' m other = refl
latched_kept GuardMonitoring pins pins' q q' m other = refl
latched_kept GuardLocking pins pins' q q' m other = refl
latched_kept EnableSwitch pins pins' q q' m other = refl
latched_kept SafetyRequest pins pins' q q' m other = refl
latched_kept OutControl pins pins' q q' m other = refl
latched_kept Edm pins pins' q q' m other = refl

-- what is told of a mode
abbrev pub IsOfMode : (i : ℕ) → CallScene → (ℕ → Bool) → Fact → Type 0
IsOfMode i c pins f = IsPinOf c.step pins f ⊎ ((f ≡ StateWas i c.from) ⊎ ((f ≡ StateIs i c.code) ⊎ (f ≡ ModeWas i c.last.mode)))

-- what decides it
abbrev pub TellsMode : (i : ℕ) → CallScene → (ℕ → Bool) → List Fact → Type 0
TellsMode i c pins facts =
    Contains facts (StateWas i c.from) × Contains facts (StateIs i c.code)
    × (((c.from ≡ 0x8005) × TellsModes c.step pins facts) ⊎ ((c.from ≢ 0x8005) × Contains facts (ModeWas i c.last.mode)))

module _ (net : Network) (x : Scene) (i : ℕ) (c : CallScene) (inside : i < instance_count net) (at : slice_get x.calls.now i ≡ Some c) (call : IsCallFor net i c) where
  mode_so : (old : State) (since : ℕ) (new : State) → IsSceneOf net old since new x → (f : Fact) →
      IsOfMode i c (pins_in net x c.step i call.args) f → IsSo net old since new f
  mode_so old since new scene f (inl pin) = subst (IsSo net old since new) (sym pin.1) (pin_so net x old since new scene c.step i call.args call.stands pin.0)
  mode_so old since new scene f (inr (inl is)) = subst (IsSo net old since new) (sym is) (scene.calls i c at).from
  mode_so old since new scene f (inr (inr (inl is))) = subst (IsSo net old since new) (sym is) (scene.calls i c at).code
  mode_so old since new scene f (inr (inr (inr is))) = subst (IsSo net old since new) (sym is) (scene.calls i c at).mode_before

  mode_fit : (pins : ℕ → Bool) (f : Fact) → IsOfMode i c pins f → IsOfApplication net f
  mode_fit pins f (inl pin) = subst (IsOfApplication net) (sym pin.1) tt
  mode_fit pins f (inr (inl is)) = subst (IsOfApplication net) (sym is) tt
  mode_fit pins f (inr (inr (inl is))) = subst (IsOfApplication net) (sym is) inside
  mode_fit pins f (inr (inr (inr is))) = subst (IsOfApplication net) (sym is) tt

  -- whatever pins and mode there may be, the same is latched
  latches : (pins : ℕ → Bool) (facts : List Fact) → TellsMode i c pins facts → (pins' : ℕ → Bool) (kept : Kept) → MayBe net (Contains facts) c.step i pins' kept →
      latched (kind_at net i) pins' c.from c.code kept.mode ≡ latched (kind_at net i) pins c.from c.code c.last.mode
  latches pins facts (was, is, inl h) pins' kept may =
      ap (λ q. latched (kind_at net i) pins' q c.code kept.mode) h.0
      ∙ latched_new (kind_at net i) pins pins' c.code c.last.mode kept.mode (λ m small. may.pins_agree (m + 1) (pins (m + 1)) (h.1 m small))
      ∙ ap (λ q. latched (kind_at net i) pins q c.code c.last.mode) (sym h.0)
  latches pins facts (was, is, inr h) pins' kept may =
      ap (λ m. latched (kind_at net i) pins' c.from c.code m) (may.mode_agrees c.last.mode h.1)
      ∙ latched_kept (kind_at net i) pins pins' c.from c.code c.last.mode h.0

  pub mode_rests : (m : ℕ) (pins : ℕ → Bool) (facts : List Fact) → pins ≡ pins_in net x c.step i call.args →
      ((f : Fact) → Contains facts f → IsOfMode i c pins f) → TellsMode i c pins facts → RestsThere net x (ModeIs i m) facts
  mode_rests m pins facts is only tells old ins since new solves scene fit so =
      let all_so = λ (f : Fact) (h : Contains facts f). mode_so old since new scene f (subst (λ p. IsOfMode i c p f) is (only f h)) in
      let m' = latched (kind_at net i) pins c.from c.code c.last.mode in
      let latches_it : IsLatched net (Contains facts) i m' = record {
        step = c.step;
        args = call.args;
        stands = call.stands;
        before = c.from;
        behind = c.code;
        was = tells.0;
        is = tells.1;
        same = latches pins facts tells;
      } in
      let same : m' ≡ m =
      sym (latched_is_so net old since new (Contains facts) (λ f before h. all_so f h) ins solves i m' latches_it (λ j b h. all_so (PinIs c.step j b) h) (λ q h. all_so (StateIs i q) h)) ∙ so in
      record {
        grounds = inr (subst (IsLatched net (Contains facts) i) same latches_it);
        so = all_so;
        fit = λ f h. mode_fit pins f (only f h);
      }
