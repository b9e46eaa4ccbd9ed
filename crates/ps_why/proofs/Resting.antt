-- Each rule: what rests by it on facts that are so is so.
use Rattle.std.proofs.Common.{◌≡◌, ◌⊎◌, ℕ, ◌+◌, Bool, true, false, not, List, sym, ap, ◌∙◌, inl, inr, Some, arith}
use Rattle.std.specs.Prelude.{◌==◌, Contains, nat_le, slice_get, slice_index_or, nat_lt}
use Rattle.std.proofs.lemmas.Bool.{MatchBool-at_true, MatchBool-at_false, cases_Bool, cond-true, cond-false, false≢true, false_from_ne_true, ne_eqb, and_from, le-leb, lt-ltb}
use Rattle.std.proofs.lemmas.List.Folds.{list_all_at}
use Rattle.ps_model.specs.Action.{Actual, calls, free, literal, time, wired}
use Rattle.ps_model.specs.Blocks.{Block_state, block, latched, moved, next, outs, safe_output, output_count}
use Rattle.ps_model.specs.BlockLaws.{EachDemands}
use Rattle.ps_model.specs.Demand.{are_met, demand, is_met}
use Rattle.ps_model.specs.Kept.{Kept}
use Rattle.ps_model.specs.Network.{Network, is_new, kind_at, drives, first_pin}
use Rattle.ps_model.specs.Scanning.{Solves, State, block_in, limit_of, pin_at, pin_value, read_at, signal_in}
use Rattle.ps_model.specs.Table.{Conditions, decided, row_at}
use Rattle.ps_model.specs.declared.demands.Need.{Need}
use Rattle.ps_model.specs.declared.demands.Need.TheVariants.{On, Off}
use Rattle.ps_model.specs.declared.kind.Kind.{Kind}
use Rattle.ps_demand.proofs.SafeOutputs.{safe_shown}
use Rattle.ps_ways.specs.Tables.{ways_of}
use Rattle.ps_ways.specs.declared.way.Ask.{Ask}
use Rattle.ps_why.specs.Explained.{IsOfBefore}
use Rattle.ps_ways.specs.Calling.{pins_read, seen_by}
use Rattle.ps_why.specs.Facts.{IsSo}
use Rattle.ps_why.specs.Grounds.{MayBe, PinHasValue, ReadIsTold}
use Rattle.ps_why.specs.Rests.{IsAssigned, IsDecided, IsDenied, IsEntered, IsInactive, IsLatched, IsMoved, IsOutput, IsRead, IsSettled, IsShown, IsUndriven, unmet}
use Rattle.ps_why.specs.declared.fact.Fact.{Fact}
use Rattle.ps_why.specs.declared.fact.Fact.TheVariants.{SignalIs, SignalWas, PinIs, AskIs, StateIs, StateWas}
use Rattle.ps_why.specs.declared.fact.Fact.TheVariants.{ResetWas, AuxiliaryWas, ModeIs, ModeWas}
use Rattle.ps_why.proofs.Deciding.{is_kept, is_left}
use Rattle.ps_why.proofs.Taking.{decided_by_ways, next_by}
use Rattle.ps_why.proofs.Valued.{follows}

pub next_inactive : (kind : Kind) (q : ℕ) (c : Conditions) → c.pin 0 ≡ false → next kind q c ≡ 0
unfolding next
next_inactive kind q c off = cond-true (not (c.pin 0)) 0 _ (ap not off)

pub next_entered : (kind : Kind) (c : Conditions) → c.pin 0 ≡ true → next kind 0 c ≡ (block kind).first
unfolding next
next_entered kind c on = cond-false (not (c.pin 0)) 0 (block kind).first (ap not on)

pub next_decided : (kind : Kind) (q : ℕ) (c : Conditions) → c.pin 0 ≡ true → (q ≡ 0 → ⊥) → next kind q c ≡ decided q (row_at (block kind).rows q).rules c
unfolding next
next_decided kind q c on busy =
    cond-false (not (c.pin 0)) 0 _ (ap not on) ∙ cond-false (q == 0) (block kind).first (decided q (row_at (block kind).rows q).rules c) (ne_eqb q 0 busy)

-- a pin that is not as a demand asks keeps the demand from being met
unmet_demand : (pins : ℕ → Bool) (needs : List Need) (need : Need) → Contains needs need → is_met pins need ≡ false → are_met pins needs ≡ false
unmet_demand pins needs need h n = list_all_at (is_met pins) needs h.0 need h.1 (ap (is_met pins) h.2 ∙ n)

-- An output of an instance is driven by its call.
pub output_driven : (net : Network) (s i j : ℕ) (args : List Actual) → IsOutput net s i j → drives net s (calls i args) ≡ true
output_driven net s i j args h =
    let place = h.place in
    let below = h.output in
    and_from (nat_le (first_pin net i) s) (nat_lt s (first_pin net i + output_count (kind_at net i)))
    (le-leb (first_pin net i) s (omega arith)) (lt-ltb s (first_pin net i + output_count (kind_at net i)) (omega arith))

-- ---- What a scan makes of instances and their outputs.
module _ (net : Network) (old : State) (since : ℕ) (new : State) (ins : List Bool) (solves : Solves net old ins since new) where
  pub code_is : (k i : ℕ) (args : List Actual) → slice_get net.steps k ≡ Some (calls i args) →
      (block_in new i).code ≡ next (kind_at net i) (block_in old i).code (seen_by net old since new k i args)
  unfolding moved
  code_is k i args stands = ap (λ (b : Block_state). b.code) (solves.called k i args stands)

  pub mode_is : (k i : ℕ) (args : List Actual) → slice_get net.steps k ≡ Some (calls i args) →
      (block_in new i).mode ≡ latched (kind_at net i) (pins_read net old since new k i args) (block_in old i).code
      (next (kind_at net i) (block_in old i).code (seen_by net old since new k i args)) (block_in old i).mode
  unfolding moved
  mode_is k i args stands = ap (λ (b : Block_state). b.mode) (solves.called k i args stands)

  pub output_is : (s i j : ℕ) → IsOutput net s i j →
      signal_in new s ≡ slice_index_or (outs (kind_at net i) (block_in new i).code (block_in new i).mode) j false
  output_is s i j h = ap (signal_in new) h.place ∙ solves.pin_outputs i j h.instance h.output

-- ---- What follows from what is told.
module _ (net : Network) (old : State) (since : ℕ) (new : State) (told : Fact → Type 0)
    (before : (fact : Fact) → IsOfBefore fact → told fact → IsSo net old since new fact) where
  -- what is told of the signals that are new at a step is so
  abbrev pub SignalsAreSo : ℕ → Type 0
  SignalsAreSo k = (s : ℕ) (b : Bool) → is_new net k s ≡ true → told (SignalIs s b) → signal_in new s ≡ b

  -- what is told of the pins of a call
  abbrev pub PinsAreSo : ℕ → Type 0
  PinsAreSo k = (j : ℕ) (b : Bool) → told (PinIs k j b) → IsSo net old since new (PinIs k j b)

  -- what is told of what its guards ask
  abbrev pub AsksAreSo : ℕ → Type 0
  AsksAreSo k = (a : Ask) (b : Bool) → told (AskIs k a b) → IsSo net old since new (AskIs k a b)

  -- what is told of the state of an instance, and of its mode
  abbrev pub StatesAreSo : ℕ → Type 0
  StatesAreSo i = (q : ℕ) → told (StateIs i q) → (block_in new i).code ≡ q

  abbrev pub ModesAreSo : ℕ → Type 0
  ModesAreSo i = (m : ℕ) → told (ModeIs i m) → (block_in new i).mode ≡ m

  pub reads : (k : ℕ) → SignalsAreSo k → (s : ℕ) (b : Bool) → ReadIsTold net told k s b → read_at net old new k s ≡ b
  reads k signals s b h =
      elim (cases_Bool (is_new net k s)) [
        | inl y ↦
            cond-true (is_new net k s) (signal_in new s) (signal_in old s) y
            ∙ signals s b y (MatchBool-at_true (told (SignalIs s b)) (told (SignalWas s b)) y h)
        | inr n ↦
            cond-false (is_new net k s) (signal_in new s) (signal_in old s) n
            ∙ before (SignalWas s b) tt (MatchBool-at_false (told (SignalIs s b)) (told (SignalWas s b)) n h)
      ]

  pin_has_value : (k : ℕ) → SignalsAreSo k → (default : Bool) (a : Actual) (b : Bool) → PinHasValue net told k default a b →
      pin_value (read_at net old new k) default a ≡ b
  pin_has_value k signals default free b h = h
  pin_has_value k signals default (literal x) b h = h
  pin_has_value k signals default (time t) b h = h
  pin_has_value k signals default (wired e) b h = follows (ReadIsTold net told k) (read_at net old new k) (reads k signals) e b h

  pub read_is_so : (k j : ℕ) (b : Bool) → SignalsAreSo k → IsRead net told k j b → IsSo net old since new (PinIs k j b)
  read_is_so k j b signals h i args stands =
      pin_has_value k signals (pin_at (kind_at net i) j).free (slice_index_or args j free) b (h i args stands)

  -- what an instance kept of its last step
  kept_of : ℕ → Kept
  kept_of i =
      let s = block_in old i in
      record { code = s.code; last_reset = s.last_reset; last_auxiliary = s.last_auxiliary; mode = s.mode; timer = 0 }

  may_be : (k i : ℕ) (args : List Actual) → slice_get net.steps k ≡ Some (calls i args) → PinsAreSo k →
      MayBe net told k i (pins_read net old since new k i args) (kept_of i)
  unfolding kept_of
  may_be k i args stands pins = record {
    pins_agree = λ j b t. pins j b t i args stands;
    reset_agrees = λ b t. before (ResetWas i b) tt t;
    auxiliary_agrees = λ b t. before (AuxiliaryWas i b) tt t;
    mode_agrees = λ m t. before (ModeWas i m) tt t;
  }

  pub settled_is_so : (k : ℕ) (a : Ask) (b : Bool) → PinsAreSo k → IsSettled net told k a b → IsSo net old since new (AskIs k a b)
  unfolding kept_of
  settled_is_so k a b pins h i args stands =
      h i args stands (pins_read net old since new k i args) (nat_le (limit_of (kind_at net i) args) ((block_in old i).age + since)) (kept_of i)
      (may_be k i args stands pins)

  -- a pin that is told not to be as a demand asks is not
  not_met : (k i : ℕ) (args : List Actual) (need : Need) → slice_get net.steps k ≡ Some (calls i args) → PinsAreSo k → told (unmet k need) →
      is_met (pins_read net old since new k i args) need ≡ false
  not_met k i args (On j) stands pins t = pins j false t i args stands
  not_met k i args (Off j) stands pins t = ap not (pins j true t i args stands)

  module _ (ins : List Bool) (solves : Solves net old ins since new) where
    -- the ways of the state before decide
    by_guards : (k i q : ℕ) (args : List Actual) → slice_get net.steps k ≡ Some (calls i args) → PinsAreSo k → AsksAreSo k →
        IsDecided net told k i q → next (kind_at net i) (block_in old i).code (seen_by net old since new k i args) ≡ q
    by_guards k i q args stands pins asking h =
        let kind = kind_at net i in
        let c = seen_by net old since new k i args in
        let so = λ (a : Ask) (b : Bool) (t : told (AskIs k a b)). asking a b t i args stands in
        ap (λ x. next kind x c) (before (StateWas i h.before) tt h.was)
        ∙ next_decided kind h.before c (pins 0 true h.active i args stands) h.not_idle
        ∙ decided_by_ways h.before c kind
        ∙ elim h.decides as (λ x. next_by h.before (ways_of kind) c ≡ q) [
          | inl left ↦ is_left told k c so (ways_of kind) h.before q left
          | inr kept ↦ is_kept told k c so (ways_of kind) h.before q kept
        ]

    next_is : (k i q : ℕ) (args : List Actual) → slice_get net.steps k ≡ Some (calls i args) → PinsAreSo k → AsksAreSo k →
        IsInactive net told k q ⊎ (IsEntered net told k i q ⊎ IsDecided net told k i q) →
        next (kind_at net i) (block_in old i).code (seen_by net old since new k i args) ≡ q
    next_is k i q args stands pins asking (inl h) =
        next_inactive (kind_at net i) (block_in old i).code (seen_by net old since new k i args) (pins 0 false h.0 i args stands) ∙ sym h.1
    next_is k i q args stands pins asking (inr (inl h)) =
        ap (λ x. next (kind_at net i) x (seen_by net old since new k i args)) (before (StateWas i 0) tt h.1)
        ∙ next_entered (kind_at net i) (seen_by net old since new k i args) (pins 0 true h.0 i args stands)
        ∙ sym h.2
    next_is k i q args stands pins asking (inr (inr h)) = by_guards k i q args stands pins asking h

    pub moved_is_so : (i q : ℕ) (h : IsMoved net told i q) → PinsAreSo h.step → AsksAreSo h.step → (block_in new i).code ≡ q
    moved_is_so i q h pins asking = code_is net old since new ins solves h.step i h.args h.stands ∙ next_is h.step i q h.args h.stands pins asking h.moves

    pub latched_is_so : (i m : ℕ) (h : IsLatched net told i m) → PinsAreSo h.step → StatesAreSo i → (block_in new i).mode ≡ m
    unfolding kept_of
    latched_is_so i m h pins states =
        let read = pins_read net old since new h.step i h.args in
        mode_is net old since new ins solves h.step i h.args h.stands
        ∙ ap (λ x. latched (kind_at net i) read (block_in old i).code x (block_in old i).mode)
        (sym (code_is net old since new ins solves h.step i h.args h.stands) ∙ states h.behind h.is)
        ∙ ap (λ x. latched (kind_at net i) read x h.behind (block_in old i).mode) (before (StateWas i h.before) tt h.was)
        ∙ h.same read (kept_of i) (may_be h.step i h.args h.stands pins)

    -- a safe output that is TRUE has its demand met
    pub denied_is_so : EachDemands → (s : ℕ) (b : Bool) (h : IsDenied net told s b) → PinsAreSo h.step → signal_in new s ≡ b
    denied_is_so demands s b h pins =
        let kind = kind_at net h.instance in
        let c = seen_by net old since new h.step h.instance h.args in
        let q = (block_in old h.instance).code in
        let m = (block_in new h.instance).mode in
        let shown : signal_in new s ≡ safe_output kind (next kind q c) m h.output =
        output_is net old since new ins solves s h.instance h.output h.is_output
        ∙ safe_shown kind (block_in new h.instance).code m h.output h.is_safe
        ∙ ap (λ x. safe_output kind x m h.output) (code_is net old since new ins solves h.step h.instance h.args h.stands) in
        let off : are_met c.pin (demand kind h.output) ≡ false =
        unmet_demand c.pin (demand kind h.output) h.need h.demanded (not_met h.step h.instance h.args h.need h.stands pins h.not_met) in
        shown
        ∙ false_from_ne_true (safe_output kind (next kind q c) m h.output)
        (λ on. false≢true (sym off ∙ demands kind q m h.output c on))
        ∙ sym h.off

    pub shown_is_so : (s : ℕ) (b : Bool) (h : IsShown net told s b) → StatesAreSo h.instance → ModesAreSo h.instance → signal_in new s ≡ b
    shown_is_so s b h states modes =
        output_is net old since new ins solves s h.instance h.output h.is_output
        ∙ ap (λ x. slice_index_or (outs (kind_at net h.instance) x (block_in new h.instance).mode) h.output false) (states h.state h.in_state)
        ∙ h.shows (block_in new h.instance).mode modes

    pub assigned_is_so : (s : ℕ) (b : Bool) (h : IsAssigned net told s b) → SignalsAreSo h.step → signal_in new s ≡ b
    assigned_is_so s b h signals =
        solves.assigned h.step s h.formula h.stands
        ∙ follows (ReadIsTold net told h.step) (read_at net old new h.step) (reads h.step signals) h.formula b h.has_value

    pub undriven_is_so : (s : ℕ) (b : Bool) → IsUndriven net told s b → signal_in new s ≡ b
    undriven_is_so s b h = solves.undriven s h.no_input h.no_driver ∙ sym h.off
