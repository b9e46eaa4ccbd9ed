-- All of an explanation is so where its leaves are.
use Rattle.std.proofs.Common.{◌≡◌, ℕ, zero, suc, ◌<◌, Bool, true, List, refl, sym, ap, ◌∙◌, inl, inr, Some, arith}
use Rattle.std.specs.Prelude.{Contains, nat_lt, slice_get, take}
use Rattle.std.specs.List.{list_any}
use Rattle.std.proofs.lemmas.Bool.{cases_lt, false≢true, eq-eqb, ltb-true, or_cases}
use Rattle.ps_model.specs.Action.{Action, Actual, assigns, calls}
use Rattle.ps_model.specs.BlockLaws.{EachDemands}
use Rattle.ps_model.specs.Network.{Network, drives, input_count, is_new}
use Rattle.ps_model.specs.Scanning.{Solves, State, signal_in}
use Rattle.ps_model.specs.Sound.{IsSound}
use Rattle.ps_model.proofs.OneSolution.{driven_range}
use Rattle.ps_model.proofs.Once.{none_of_rest}
use Rattle.ps_model.proofs.Positions.{fails_later}
use Rattle.ps_ways.specs.Ways.{asks}
use Rattle.ps_ways.specs.declared.way.Ask.{Ask}
use Rattle.ps_ways.specs.declared.way.Ask.TheVariants.{Elapsed}
use Rattle.ps_why.specs.Explained.{EachIsSo, EachOfIsSo, IsExplained, IsLeaf, IsOfBefore}
use Rattle.ps_ways.specs.Calling.{seen_by}
use Rattle.ps_why.specs.Facts.{IsSo}
use Rattle.ps_why.specs.Laws.{FormulasFollow, GroundsAreEnough, WhateverTheInputs, WhyIsEnough}
use Rattle.ps_why.specs.Rests.{IsOutput, Rests}
use Rattle.ps_why.specs.declared.fact.Fact.{Fact}
use Rattle.ps_why.specs.declared.fact.Fact.TheVariants.{SignalIs, SignalWas, PinIs, AskIs, StateIs, StateWas}
use Rattle.ps_why.specs.declared.fact.Fact.TheVariants.{ResetWas, AuxiliaryWas, ModeIs, ModeWas}
use Rattle.ps_why.proofs.Resting.{AsksAreSo, ModesAreSo, PinsAreSo, SignalsAreSo, StatesAreSo, assigned_is_so, denied_is_so, latched_is_so, moved_is_so, output_driven, read_is_so, reads, settled_is_so, shown_is_so, undriven_is_so}
use Rattle.ps_why.proofs.Valued.{follows}

pub formulas_follow : FormulasFollow
formulas_follow net facts k e b h old since new so =
    follows _ _ (reads net old since new (Contains facts) (λ fact is t. so fact t) k (λ s b y t. so (SignalIs s b) t)) e b h

-- ---- One rule, where all that is told is so.
module _ (demands : EachDemands) (net : Network) (old : State) (ins : List Bool) (since : ℕ) (new : State) (solves : Solves net old ins since new)
    (told : Fact → Type 0) (so : (fact : Fact) → told fact → IsSo net old since new fact) where
  before_so : (fact : Fact) → IsOfBefore fact → told fact → IsSo net old since new fact
  before_so fact is t = so fact t

  signal_rests : (s : ℕ) (b : Bool) → Rests net told (SignalIs s b) → signal_in new s ≡ b
  signal_rests s b (inl h) = assigned_is_so net old since new told before_so ins solves s b h (λ s b y t. so (SignalIs s b) t)
  signal_rests s b (inr (inl h)) = undriven_is_so net old since new told before_so ins solves s b h
  signal_rests s b (inr (inr (inl h))) = denied_is_so net old since new told before_so ins solves demands s b h (λ j b t. so (PinIs h.step j b) t)
  signal_rests s b (inr (inr (inr h))) =
      shown_is_so net old since new told before_so ins solves s b h (λ q t. so (StateIs h.instance q) t) (λ m t. so (ModeIs h.instance m) t)

  rests_so : (fact : Fact) → Rests net told fact → IsSo net old since new fact
  rests_so (SignalIs s b) h = signal_rests s b h
  rests_so (PinIs k j b) h = read_is_so net old since new told before_so k j b (λ s b y t. so (SignalIs s b) t) h
  rests_so (AskIs k a b) h = settled_is_so net old since new told before_so k a b (λ j b t. so (PinIs k j b) t) h
  rests_so (StateIs i q) h =
      moved_is_so net old since new told before_so ins solves i q h (λ j b t. so (PinIs h.step j b) t) (λ a b t. so (AskIs h.step a b) t)
  rests_so (ModeIs i m) h =
      latched_is_so net old since new told before_so ins solves i m h (λ j b t. so (PinIs h.step j b) t) (λ q t. so (StateIs i q) t)
  rests_so (SignalWas s b) h = absurd h
  rests_so (StateWas i q) h = absurd h
  rests_so (ResetWas i b) h = absurd h
  rests_so (AuxiliaryWas i b) h = absurd h
  rests_so (ModeWas i m) h = absurd h

pub grounds_are_enough : EachDemands → GroundsAreEnough
grounds_are_enough demands net facts fact h old ins since new solves so = rests_so demands net old ins since new solves (Contains facts) so fact h

-- ---- All of an explanation.

-- the step that drives a signal stands before each at which it is new
driven_before : (net : Network) → IsSound net → (k j s : ℕ) (a : Action) → is_new net k s ≡ true → slice_get net.steps j ≡ Some a → drives net s a ≡ true → j < k
driven_before net sound k j s a is at drives_it =
    elim (cases_lt j k) [
      | inl below ↦ below
      | inr above ↦
          elim (or_cases (nat_lt s (input_count net)) (list_any (drives net s) (take k net.steps)) is) [
            | inl input ↦
                let low = ltb-true s (input_count net) input in
                let range = driven_range net sound j a s at drives_it in absurd (omega arith)
            | inr earlier ↦
                absurd (false≢true (sym (fails_later (drives net s) net.steps k j a
                (none_of_rest (drives net s) net.steps k (sound.one_driver s) earlier) above at) ∙ drives_it))
          ]
    ]

module _ (demands : EachDemands) (net : Network) (sound : IsSound net) (old : State) (ins : List Bool) (since : ℕ) (new : State)
    (solves : Solves net old ins since new) (facts : List Fact) (explained : IsExplained net facts)
    (leaves : EachOfIsSo net old since new (IsLeaf net) facts) where
  abbrev told : Fact → Type 0
  told = Contains facts

  before : (fact : Fact) → IsOfBefore fact → told fact → IsSo net old since new fact
  before fact is t = leaves fact t (inr is)

  abbrev Signals : ℕ → Type 0
  Signals = SignalsAreSo net old since new told before

  pin_so : (k : ℕ) → Signals k → PinsAreSo net old since new told before k
  pin_so k signals j b t =
      elim (explained (PinIs k j b) t) [
        | inl leaf ↦ leaves (PinIs k j b) t leaf
        | inr h ↦ read_is_so net old since new told before k j b signals h
      ]

  ask_so : (k : ℕ) → Signals k → AsksAreSo net old since new told before k
  ask_so k signals a b t =
      elim (explained (AskIs k a b) t) [
        | inl leaf ↦ leaves (AskIs k a b) t leaf
        | inr h ↦ settled_is_so net old since new told before k a b (pin_so k signals) h
      ]

  -- at the call of an instance the signals are so
  abbrev AtCall : ℕ → Type 0
  AtCall i = (k : ℕ) (args : List Actual) → slice_get net.steps k ≡ Some (calls i args) → Signals k

  state_so : (i : ℕ) → AtCall i → StatesAreSo net old since new told before i
  state_so i at q t =
      elim (explained (StateIs i q) t) [
        | inl leaf ↦ leaves (StateIs i q) t leaf
        | inr h ↦
            let signals = at h.step h.args h.stands in
            moved_is_so net old since new told before ins solves i q h (pin_so h.step signals) (ask_so h.step signals)
      ]

  mode_so : (i : ℕ) → AtCall i → ModesAreSo net old since new told before i
  mode_so i at m t =
      elim (explained (ModeIs i m) t) [
        | inl leaf ↦ leaves (ModeIs i m) t leaf
        | inr h ↦ latched_is_so net old since new told before ins solves i m h (pin_so h.step (at h.step h.args h.stands)) (state_so i at)
      ]

  -- at each step that drives a signal the signals are so
  abbrev AtDriver : ℕ → Type 0
  AtDriver s = (k : ℕ) (a : Action) → slice_get net.steps k ≡ Some a → drives net s a ≡ true → Signals k

  at_call : (s i j : ℕ) → IsOutput net s i j → AtDriver s → AtCall i
  at_call s i j output at k args stands = at k (calls i args) stands (output_driven net s i j args output)

  signal_rest : (s : ℕ) (b : Bool) → AtDriver s → Rests net told (SignalIs s b) → signal_in new s ≡ b
  signal_rest s b at (inl h) =
      assigned_is_so net old since new told before ins solves s b h (at h.step (assigns s h.formula) h.stands (eq-eqb s s refl))
  signal_rest s b at (inr (inl h)) = undriven_is_so net old since new told before ins solves s b h
  signal_rest s b at (inr (inr (inl h))) =
      denied_is_so net old since new told before ins solves demands s b h
      (pin_so h.step (at_call s h.instance h.output h.is_output at h.step h.args h.stands))
  signal_rest s b at (inr (inr (inr h))) =
      let called = at_call s h.instance h.output h.is_output at in
      shown_is_so net old since new told before ins solves s b h (state_so h.instance called) (mode_so h.instance called)

  signal_so : (s : ℕ) (b : Bool) → AtDriver s → told (SignalIs s b) → signal_in new s ≡ b
  signal_so s b at t =
      elim (explained (SignalIs s b) t) [
        | inl leaf ↦ leaves (SignalIs s b) t leaf
        | inr h ↦ signal_rest s b at h
      ]

  -- by the steps before
  up_to : (n k : ℕ) → k < n → Signals k
  up_to zero k below s b is t = absurd (omega (arith, below))
  up_to (suc n) k below s b is t =
      signal_so s b (λ j a at drives_it. up_to n j (omega (arith, driven_before net sound k j s a is at drives_it, below))) t

  each_step : (k : ℕ) → Signals k
  each_step k = up_to (suc k) k (omega arith)

  pub all_is_so : EachIsSo net old since new facts
  all_is_so (SignalIs s b) t = signal_so s b (λ k a at drives_it. each_step k) t
  all_is_so (PinIs k j b) t = pin_so k (each_step k) j b t
  all_is_so (AskIs k a b) t = ask_so k (each_step k) a b t
  all_is_so (StateIs i q) t = state_so i (λ k args stands. each_step k) q t
  all_is_so (ModeIs i m) t = mode_so i (λ k args stands. each_step k) m t
  all_is_so (SignalWas s b) t = before (SignalWas s b) tt t
  all_is_so (StateWas i q) t = before (StateWas i q) tt t
  all_is_so (ResetWas i b) t = before (ResetWas i b) tt t
  all_is_so (AuxiliaryWas i b) t = before (AuxiliaryWas i b) tt t
  all_is_so (ModeWas i m) t = before (ModeWas i m) tt t

pub why_is_enough : EachDemands → (net : Network) → IsSound net → WhyIsEnough net
why_is_enough demands net sound facts h old ins since new solves leaves = all_is_so demands net sound old ins since new solves facts h leaves

-- ---- Another scan from the same state.

-- whether a limit has elapsed, the inputs have no say in
elapsed_alike : (net : Network) (old : State) (since : ℕ) (new other : State) (k : ℕ) (a : Ask) (b : Bool) → a ≡ Elapsed →
    IsSo net old since new (AskIs k a b) → IsSo net old since other (AskIs k a b)
elapsed_alike net old since new other k a b is h i args stands =
    ap (λ x. asks x (seen_by net old since other k i args)) is
    ∙ sym (ap (λ x. asks x (seen_by net old since new k i args)) is)
    ∙ h i args stands

before_alike : (net : Network) (old : State) (since : ℕ) (new other : State) (fact : Fact) → IsOfBefore fact →
    IsSo net old since new fact → IsSo net old since other fact
before_alike net old since new other (AskIs k a b) is h = elapsed_alike net old since new other k a b is h
before_alike net old since new other (SignalWas s b) is h = h
before_alike net old since new other (StateWas i q) is h = h
before_alike net old since new other (ResetWas i b) is h = h
before_alike net old since new other (AuxiliaryWas i b) is h = h
before_alike net old since new other (ModeWas i m) is h = h
before_alike net old since new other (SignalIs s b) is h = absurd is
before_alike net old since new other (PinIs k j b) is h = absurd is
before_alike net old since new other (StateIs i q) is h = absurd is
before_alike net old since new other (ModeIs i m) is h = absurd is

pub whatever_the_inputs : EachDemands → (net : Network) → IsSound net → WhateverTheInputs net
whatever_the_inputs demands net sound facts h old since new leaves others other solves inputs =
    all_is_so demands net sound old others since other solves facts h
    (λ fact at leaf. elim leaf [
      | inl input ↦ inputs fact at input
      | inr was ↦ before_alike net old since new other fact was (leaves fact at (inr was))
    ])
