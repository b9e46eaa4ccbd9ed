-- On what the value of a signal and that at a pin rest.
use Rattle.std.proofs.Common.{◌≡◌, ◌≢◌, ◌⊎◌, ℕ, ◌+◌, ◌<◌, ◌≤◌, Bool, true, false, List, [], length, refl, subst, sym, ap, ◌∙◌, inl, inr, arith}
use Rattle.std.specs.Prelude.{Contains, Some, Option, None, slice_get, slice_index_or, MatchOption, option_map}
use Rattle.std.specs.Option.{option_and_then}
use Rattle.std.specs.Prelude.{nat_le, nat_lt, position}
use Rattle.ps_model.proofs.Once.{any_at, place_of}
use Rattle.ps_model.proofs.OneSolution.{driven_below}
use Rattle.ps_model.proofs.Positions.{found_at, none_found, none_found_from}
use Rattle.ps_model.specs.Drivers.{driver, driver_by}
use Rattle.ps_model.specs.Sound.{IsSound}
use Rattle.ps_model.specs.declared.driver.Driver.{Driver}
use Rattle.ps_why.specs.Drivers.{IsDrivenBy}
use Rattle.std.proofs.lemmas.Bool.{and_parts, cases_Bool, eqb-true, false≢true, false_from_ne_true, leb-true, ltb-true}
use Rattle.ps_model.specs.Action.{Action, Actual, assigns, calls, free, literal, time, wired}
use Rattle.ps_model.specs.Blocks.{block, output_count, outs}
use Rattle.ps_model.specs.Demand.{demand}
use Rattle.ps_model.specs.Formula.{Formula, value}
use Rattle.ps_model.specs.Network.{Network, drives, first_pin, input_count, is_driven, kind_at, signal_count}
use Rattle.ps_model.specs.Scanning.{State, block_in, pin_at, pin_value, read_at, signal_in}
use Rattle.ps_model.specs.declared.demands.Need.{Need}
use Rattle.ps_model.specs.declared.kind.Kind.{Kind}
use Rattle.ps_model.specs.declared.kind.Kind.TheVariants.{Equivalent, Antivalent, EmergencyStop, Espe, ModeSelector}
use Rattle.ps_model.specs.declared.kind.Kind.TheVariants.{TwoHandTwo, TwoHandThree, GuardMonitoring, GuardLocking}
use Rattle.ps_model.specs.declared.kind.Kind.TheVariants.{EnableSwitch, SafetyRequest, OutControl, Edm}
use Rattle.ps_why.specs.Facts.{IsSo}
use Rattle.ps_why.specs.Explained.{IsLeaf}
use Rattle.ps_why.specs.Operands.{HasValue}
use Rattle.ps_why.specs.Grounds.{PinHasValue, ReadIsTold}
use Rattle.ps_why.specs.Laws.{IsOfApplication}
use Rattle.ps_why.specs.Rests.{IsOutput, IsRead, Rests, unmet}
use Rattle.ps_why.specs.Telling.{IsPinOf}
use Rattle.ps_why.specs.declared.fact.Fact.{Fact}
use Rattle.ps_why.specs.declared.fact.Fact.TheVariants.{SignalIs, PinIs, StateIs, ModeIs}
use Rattle.ps_why.specs.FactsRead.{GivesValue, IsOfState}
use Rattle.ps_why.specs.Resting.{IsGiven, RestsThere}
use Rattle.ps_why.specs.Scenes.{IsCallFor, IsSceneOf, pins_in, read_in}
use Rattle.ps_why.specs.declared.call.CallScene.{CallScene}
use Rattle.ps_why.specs.declared.scene.Scene.{Scene}
use Rattle.ps_why.proofs.So.{pin_so, read_fits, read_so, reads_are}

-- ---- What drives a signal.

-- the driver at the place where one was found
abbrev found_driver : Network → ℕ → Option ℕ → Option Driver
found_driver net s o = option_and_then (λ k. option_map (driver_by net s k) (slice_get net.steps k)) o

driven_so : (net : Network) (sound : IsSound net) (s k : ℕ) (a : Action) → slice_get net.steps k ≡ Some a → drives net s a ≡ true → IsDrivenBy net s (driver_by net s k a)
driven_so net sound s k (assigns t e) at is = (e, at ∙ ap (λ n. Some (assigns n e)) (eqb-true t s is))
driven_so net sound s k (calls i args) at is =
    let both = and_parts (nat_le (first_pin net i) s) (nat_lt s (first_pin net i + output_count (kind_at net i))) is in
    let low = leb-true (first_pin net i) s both.0 in
    let high = ltb-true s (first_pin net i + output_count (kind_at net i)) both.1 in
    (args, at, record { instance = sound.instances k i args at; output = omega arith; place = omega arith })

-- a signal is driven as its driver says
pub driver_says : (net : Network) → IsSound net → (s : ℕ) (d : Option Driver) → d ≡ driver net s → MatchOption d (is_driven net s ≡ false) (IsDrivenBy net s)
driver_says net sound s d is = go (position (drives net s) net.steps) refl
  where
    go : (o : Option ℕ) → position (drives net s) net.steps ≡ o → MatchOption d (is_driven net s ≡ false) (IsDrivenBy net s)
    go None none =
        subst (λ x. MatchOption x (is_driven net s ≡ false) (IsDrivenBy net s)) (sym (is ∙ ap (found_driver net s) none))
        (elim (cases_Bool (is_driven net s)) [
          | inl on ↦ absurd (let r = place_of (drives net s) net.steps on in false≢true (sym (none_found (drives net s) net.steps none r.0 r.1 r.2) ∙ r.3))
          | inr off ↦ off
        ])
    go (Some k) some =
        let r = found_at (drives net s) net.steps k some in
        subst (λ x. MatchOption x (is_driven net s ≡ false) (IsDrivenBy net s))
        (sym (is ∙ ap (found_driver net s) some ∙ ap (option_map (driver_by net s k)) r.1))
        (driven_so net sound s k r.0 r.1 r.2)

-- nothing drives what is past the signals
pub past_undriven : (net : Network) → IsSound net → (s : ℕ) → signal_count net ≤ s → is_driven net s ≡ false
past_undriven net sound s past = elim (cases_Bool (is_driven net s)) [
  | inl on ↦ absurd (omega (arith, past, driven_below net sound s on))
  | inr off ↦ off
]

-- and so has no driver
pub past_driver : (net : Network) → IsSound net → (s : ℕ) → signal_count net ≤ s → None ≡ driver net s
past_driver net sound s past =
    sym (ap (found_driver net s) (none_found_from (drives net s) net.steps
    (λ k a at. false_from_ne_true (drives net s a) (λ on. omega (arith, past, driven_below net sound s (any_at (drives net s) net.steps k a at on))))))

-- ---- A signal.

none_in : {X : Type 0} {P : Type 0} (x : X) → Contains [] x → P
none_in x h = absurd (omega (arith, h.1))

-- nothing is told of a leaf, and of what needs nothing
pub given_nothing : (net : Network) (old : State) (since : ℕ) (new : State) (fact : Fact) →
    IsLeaf net fact ⊎ Rests net (Contains []) fact → IsGiven net old since new fact []
given_nothing net old since new fact h = record { grounds = h; so = λ f c. none_in f c; fit = λ f c. none_in f c }

-- an input is a leaf
pub input_rests : (net : Network) (x : Scene) (s : ℕ) (b : Bool) → s < input_count net → RestsThere net x (SignalIs s b) []
input_rests net x s b below old ins since new solves scene fit so = given_nothing net old since new (SignalIs s b) (inl (inl below))

-- a signal that nothing drives rests on nothing
pub undriven_rests : (net : Network) (x : Scene) (s : ℕ) (b : Bool) → input_count net ≤ s → is_driven net s ≡ false → RestsThere net x (SignalIs s b) []
undriven_rests net x s b above off old ins since new solves scene fit so =
    given_nothing net old since new (SignalIs s b)
    (inr (inr (inl (record { no_input = above; no_driver = off; off = sym so ∙ solves.undriven s above off }))))

-- one that a step assigns on what it reads
pub assigned_rests : (net : Network) (x : Scene) (s k : ℕ) (b : Bool) (e : Formula) (facts : List Fact) → slice_get net.steps k ≡ Some (assigns s e) →
    GivesValue net x k e facts → RestsThere net x (SignalIs s b) facts
assigned_rests net x s k b e facts stands g old ins since new solves scene fit so = record {
  grounds = inr (inl (record {
    step = k;
    formula = e;
    stands = stands;
    has_value = subst (HasValue (ReadIsTold net (Contains facts) k) e)
        (ap (λ v. value v e) (reads_are net x old since new scene k) ∙ sym (solves.assigned k s e stands) ∙ so) g.has;
  }));
  so = λ f c. let w = g.only f c in subst (IsSo net old since new) (sym w.1) (read_so net x old since new scene k w.0);
  fit = λ f c. let w = g.only f c in subst (IsOfApplication net) (sym w.1) (read_fits net k w.0 (read_in net x k w.0));
}

-- ---- A pin.

pub no_call_rests : (net : Network) (x : Scene) (k j : ℕ) (b : Bool) → ((i : ℕ) (args : List Actual) → slice_get net.steps k ≡ Some (calls i args) → ⊥) →
    RestsThere net x (PinIs k j b) []
no_call_rests net x k j b none old ins since new solves scene fit so =
    given_nothing net old since new (PinIs k j b) (inr (λ i args stands. absurd (none i args stands)))

-- what stands at a pin
abbrev pub stands_at : List Actual → ℕ → Actual
stands_at args j = slice_index_or args j free

abbrev pub IsPlain : Actual → Type 0
IsPlain free = Unit {0}
IsPlain (literal b) = Unit {0}
IsPlain (time t) = Unit {0}
IsPlain (wired e) = ⊥

plain_value : (net : Network) (told : Fact → Type 0) (k : ℕ) (v : ℕ → Bool) (default b : Bool) (a : Actual) → IsPlain a → pin_value v default a ≡ b →
    PinHasValue net told k default a b
plain_value net told k v default b free p h = h
plain_value net told k v default b (literal c) p h = h
plain_value net told k v default b (time t) p h = h
plain_value net told k v default b (wired e) p h = absurd p

module _ (net : Network) (x : Scene) (k i : ℕ) (args : List Actual) (stands : slice_get net.steps k ≡ Some (calls i args)) (j : ℕ) (b : Bool) where
  -- what is read at the one call that stands there
  read_there : (told : Fact → Type 0) → Option Action → Type 0
  read_there told None = Unit {0}
  read_there told (Some (assigns t e)) = Unit {0}
  read_there told (Some (calls i args)) = PinHasValue net told k (pin_at (kind_at net i) j).free (stands_at args j) b

  at_call : (told : Fact → Type 0) → PinHasValue net told k (pin_at (kind_at net i) j).free (stands_at args j) b → IsRead net told k j b
  unfolding read_there
  at_call told h i' args' there = subst (read_there told) (sym stands ∙ there) h

  pub plain_rests : IsPlain (stands_at args j) → RestsThere net x (PinIs k j b) []
  plain_rests p old ins since new solves scene fit so =
      given_nothing net old since new (PinIs k j b)
      (inr (at_call (Contains []) (plain_value net (Contains []) k (read_at net old new k) (pin_at (kind_at net i) j).free b (stands_at args j) p (so i args stands))))

  pub wired_rests : (e : Formula) (facts : List Fact) → stands_at args j ≡ wired e → GivesValue net x k e facts → RestsThere net x (PinIs k j b) facts
  wired_rests e facts is g old ins since new solves scene fit so = record {
    grounds = inr (at_call (Contains facts)
        (subst (λ a. PinHasValue net (Contains facts) k (pin_at (kind_at net i) j).free a b) (sym is)
        (subst (HasValue (ReadIsTold net (Contains facts) k) e)
        (ap (λ v. value v e) (reads_are net x old since new scene k)
        ∙ sym (ap (pin_value (read_at net old new k) (pin_at (kind_at net i) j).free) is) ∙ so i args stands) g.has)));
    so = λ f c. let w = g.only f c in subst (IsSo net old since new) (sym w.1) (read_so net x old since new scene k w.0);
    fit = λ f c. let w = g.only f c in subst (IsOfApplication net) (sym w.1) (read_fits net k w.0 (read_in net x k w.0));
  }

-- ---- An output.

-- only outputs of SF_ModeSelector show a mode
shows_no_mode : (kind : Kind) → kind ≢ ModeSelector → (q m m' : ℕ) → outs kind q m ≡ outs kind q m'
unfolding outs
shows_no_mode ModeSelector other q m m' = absurd (other refl)
shows_no_mode Equivalent other q m m' = refl
shows_no_mode Antivalent other q m m' = refl
shows_no_mode EmergencyStop other q m m' = refl
shows_no_mode Espe other q m m' = refl
shows_no_mode TwoHandTwo other q m m' = refl
shows_no_mode TwoHandThree other q m m' = refl
shows_no_mode GuardMonitoring other q m m' = refl
shows_no_mode GuardLocking other q m m' = refl
shows_no_mode EnableSwitch other q m m' = refl
shows_no_mode SafetyRequest other q m m' = refl
shows_no_mode OutControl other q m m' = refl
shows_no_mode Edm other q m m' = refl

is_selector : (kind : Kind) → (kind ≡ ModeSelector) ⊎ (kind ≢ ModeSelector)
is_selector ModeSelector = inl refl
is_selector Equivalent = inr (λ e. cc)
is_selector Antivalent = inr (λ e. cc)
is_selector EmergencyStop = inr (λ e. cc)
is_selector Espe = inr (λ e. cc)
is_selector TwoHandTwo = inr (λ e. cc)
is_selector TwoHandThree = inr (λ e. cc)
is_selector GuardMonitoring = inr (λ e. cc)
is_selector GuardLocking = inr (λ e. cc)
is_selector EnableSwitch = inr (λ e. cc)
is_selector SafetyRequest = inr (λ e. cc)
is_selector OutControl = inr (λ e. cc)
is_selector Edm = inr (λ e. cc)

-- pins and states of a call are told
abbrev pub IsOfOutput : (i : ℕ) → CallScene → (ℕ → Bool) → Fact → Type 0
IsOfOutput i c pins fact = IsPinOf c.step pins fact ⊎ IsOfState i c fact

module _ (net : Network) (x : Scene) (i j : ℕ) (c : CallScene) (facts : List Fact) (call : IsCallFor net i c)
    (at : slice_get x.calls.now i ≡ Some c)
    (only : (fact : Fact) → Contains facts fact → IsOfOutput i c (pins_in net x c.step i call.args) fact) where
  module _ (s : ℕ) (b : Bool) (output : IsOutput net s i j) where
    all_so : (old : State) (since : ℕ) (new : State) → IsSceneOf net old since new x → (f : Fact) → IsOfOutput i c (pins_in net x c.step i call.args) f → IsSo net old since new f
    all_so old since new scene f (inl pin) = subst (IsSo net old since new) (sym pin.1) (pin_so net x old since new scene c.step i call.args call.stands pin.0)
    all_so old since new scene f (inr (inl is)) = subst (IsSo net old since new) (sym is) (scene.calls i c at).code
    all_so old since new scene f (inr (inr is)) = subst (IsSo net old since new) (sym is) (scene.calls i c at).mode

    all_fit : (f : Fact) → IsOfOutput i c (pins_in net x c.step i call.args) f → IsOfApplication net f
    all_fit f (inl pin) = subst (IsOfApplication net) (sym pin.1) tt
    all_fit f (inr (inl is)) = subst (IsOfApplication net) (sym is) output.instance
    all_fit f (inr (inr is)) = subst (IsOfApplication net) (sym is) output.instance

    pub denied_rests : b ≡ false → j < length (block (kind_at net i)).outputs → (need : Need) → Contains (demand (kind_at net i) j) need →
        Contains facts (unmet c.step need) → RestsThere net x (SignalIs s b) facts
    denied_rests off safe need demanded told old ins since new solves scene fit so = record {
      grounds = inr (inr (inr (inl (record {
        step = c.step;
        instance = i;
        args = call.args;
        stands = call.stands;
        output = j;
        is_output = output;
        is_safe = safe;
        need = need;
        demanded = demanded;
        not_met = told;
        off = off;
      }))));
      so = λ f h. all_so old since new scene f (only f h);
      fit = λ f h. all_fit f (only f h);
    }

    pub shown_rests : Contains facts (StateIs i c.code) → (kind_at net i ≡ ModeSelector → Contains facts (ModeIs i c.mode)) → RestsThere net x (SignalIs s b) facts
    shown_rests state mode old ins since new solves scene fit so =
        let kind = kind_at net i in
        let here = scene.calls i c at in
        let shown : slice_index_or (outs kind c.code c.mode) j false ≡ b =
        ap (λ q. slice_index_or (outs kind q c.mode) j false) (sym here.code)
        ∙ ap (λ m. slice_index_or (outs kind (block_in new i).code m) j false) (sym here.mode)
        ∙ sym (solves.pin_outputs i j output.instance output.output)
        ∙ ap (signal_in new) (sym output.place)
        ∙ so in
        record {
          grounds = inr (inr (inr (inr (record {
            instance = i;
            output = j;
            is_output = output;
            state = c.code;
            in_state = state;
            shows = λ m agrees. elim (is_selector kind) [
              | inl selector ↦ ap (λ m. slice_index_or (outs kind c.code m) j false) (agrees c.mode (mode selector)) ∙ shown
              | inr other ↦ ap (λ o. slice_index_or o j false) (shows_no_mode kind other c.code m c.mode) ∙ shown
            ];
          }))));
          so = λ f h. all_so old since new scene f (only f h);
          fit = λ f h. all_fit f (only f h);
        }
