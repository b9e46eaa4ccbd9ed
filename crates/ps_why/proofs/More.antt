-- What rests on facts rests on more.
use Rattle.std.proofs.Common.{◌⊎◌, ℕ, Bool, true, false, List, [], ◌∷◌, inl, inr}
use Rattle.std.specs.Bool.{MatchBool}
use Rattle.std.specs.List.{AllByRecursion}
use Rattle.ps_model.specs.Action.{Actual, free, literal, time, wired}
use Rattle.ps_model.specs.Kept.{Kept}
use Rattle.ps_model.specs.Network.{Network, is_new}
use Rattle.ps_ways.specs.declared.way.Way.{Way}
use Rattle.ps_why.specs.Explained.{IsLeaf}
use Rattle.ps_why.specs.Grounds.{MayBe, PinHasValue, ReadIsTold}
use Rattle.ps_why.specs.Guards.{Decides, IsPassed, asked}
use Rattle.ps_why.specs.Rests.{IsDecided, IsEntered, IsInactive, Rests, unmet}
use Rattle.ps_why.specs.declared.fact.Fact.{Fact}
use Rattle.ps_why.specs.declared.fact.Fact.TheVariants.{SignalIs, SignalWas, PinIs, AskIs, StateIs, StateWas}
use Rattle.ps_why.specs.declared.fact.Fact.TheVariants.{ResetWas, AuxiliaryWas, ModeIs, ModeWas}
use Rattle.ps_why.proofs.Guarding.{literal_by_more, open_by_more}
use Rattle.ps_why.proofs.Telling.{by_more}

match_more : (b : Bool) (P P' Q Q' : Type 0) → (P → P') → (Q → Q') → MatchBool b P Q → MatchBool b P' Q'
match_more true P P' Q Q' f g h = f h
match_more false P P' Q Q' f g h = g h

module _ (old new : Fact → Type 0) (more : (fact : Fact) → old fact → new fact) where
  passed_more : (k q : ℕ) (w : Way) → IsPassed old k q w → IsPassed new k q w
  passed_more k q w (inl h) = inl h
  passed_more k q w (inr h) = inr (h.0, h.1, literal_by_more k old new more h.0 false h.2)

  all_passed_more : (k q : ℕ) (ways : List Way) → AllByRecursion (IsPassed old k q) ways → AllByRecursion (IsPassed new k q) ways
  all_passed_more k q [] h = tt
  all_passed_more k q (w ∷ ways) h = (passed_more k q w h.0, all_passed_more k q ways h.1)

  pub decides_more : (k : ℕ) (ways : List Way) (q q' : ℕ) → Decides old k ways q q' → Decides new k ways q q'
  decides_more k ways q q' (inl left) = inl (record {
    before = left.before;
    way = left.way;
    behind = left.behind;
    order = left.order;
    passed = all_passed_more k q left.before left.passed;
    of_state = left.of_state;
    open_way = open_by_more k old new more (asked left.way) left.open_way;
    leads = left.leads;
  })
  decides_more k ways q q' (inr kept) = inr (all_passed_more k q ways kept.0, kept.1)

module _ (net : Network) (old new : Fact → Type 0) (more : (fact : Fact) → old fact → new fact) where
  read_more : (k s : ℕ) (b : Bool) → ReadIsTold net old k s b → ReadIsTold net new k s b
  read_more k s b h = match_more (is_new net k s) _ _ _ _ (more (SignalIs s b)) (more (SignalWas s b)) h

  pin_more : (k : ℕ) (default : Bool) (a : Actual) (b : Bool) → PinHasValue net old k default a b → PinHasValue net new k default a b
  pin_more k default free b h = h
  pin_more k default (literal c) b h = h
  pin_more k default (time t) b h = h
  pin_more k default (wired e) b h = by_more (ReadIsTold net old k) (ReadIsTold net new k) (read_more k) e b h

  may_less : (k i : ℕ) (pins : ℕ → Bool) (kept : Kept) → MayBe net new k i pins kept → MayBe net old k i pins kept
  may_less k i pins kept m = record {
    pins_agree = λ j b t. m.pins_agree j b (more (PinIs k j b) t);
    reset_agrees = λ b t. m.reset_agrees b (more (ResetWas i b) t);
    auxiliary_agrees = λ b t. m.auxiliary_agrees b (more (AuxiliaryWas i b) t);
    mode_agrees = λ n t. m.mode_agrees n (more (ModeWas i n) t);
  }

  moves_more : (k i q : ℕ) → IsInactive net old k q ⊎ (IsEntered net old k i q ⊎ IsDecided net old k i q) →
      IsInactive net new k q ⊎ (IsEntered net new k i q ⊎ IsDecided net new k i q)
  moves_more k i q (inl h) = inl (more (PinIs k 0 false) h.0, h.1)
  moves_more k i q (inr (inl h)) = inr (inl (more (PinIs k 0 true) h.0, more (StateWas i 0) h.1, h.2))
  moves_more k i q (inr (inr h)) = inr (inr (record {
    active = more (PinIs k 0 true) h.active;
    before = h.before;
    was = more (StateWas i h.before) h.was;
    not_idle = h.not_idle;
    decides = decides_more old new more k _ h.before q h.decides;
  }))

  rests_more : (fact : Fact) → Rests net old fact → Rests net new fact
  rests_more (SignalIs s b) (inl h) = inl (record {
    step = h.step;
    formula = h.formula;
    stands = h.stands;
    has_value = by_more (ReadIsTold net old h.step) (ReadIsTold net new h.step) (read_more h.step) h.formula b h.has_value;
  })
  rests_more (SignalIs s b) (inr (inl h)) = inr (inl (record { no_input = h.no_input; no_driver = h.no_driver; off = h.off }))
  rests_more (SignalIs s b) (inr (inr (inl h))) = inr (inr (inl (record {
    step = h.step;
    instance = h.instance;
    args = h.args;
    stands = h.stands;
    output = h.output;
    is_output = h.is_output;
    is_safe = h.is_safe;
    need = h.need;
    demanded = h.demanded;
    not_met = more (unmet h.step h.need) h.not_met;
    off = h.off;
  })))
  rests_more (SignalIs s b) (inr (inr (inr h))) = inr (inr (inr (record {
    instance = h.instance;
    output = h.output;
    is_output = h.is_output;
    state = h.state;
    in_state = more (StateIs h.instance h.state) h.in_state;
    shows = λ mode agrees. h.shows mode (λ m t. agrees m (more (ModeIs h.instance m) t));
  })))
  rests_more (PinIs k j b) h = λ i args stands. pin_more k _ _ b (h i args stands)
  rests_more (AskIs k a b) h = λ i args stands pins elapsed kept may. h i args stands pins elapsed kept (may_less k i pins kept may)
  rests_more (StateIs i q) h = record { step = h.step; args = h.args; stands = h.stands; moves = moves_more h.step i q h.moves }
  rests_more (ModeIs i m) h = record {
    step = h.step;
    args = h.args;
    stands = h.stands;
    before = h.before;
    behind = h.behind;
    was = more (StateWas i h.before) h.was;
    is = more (StateIs i h.behind) h.is;
    same = λ pins kept may. h.same pins kept (may_less h.step i pins kept may);
  }
  rests_more (SignalWas s b) h = h
  rests_more (StateWas i q) h = h
  rests_more (ResetWas i b) h = h
  rests_more (AuxiliaryWas i b) h = h
  rests_more (ModeWas i m) h = h

  pub grounds_more : (fact : Fact) → IsLeaf net fact ⊎ Rests net old fact → IsLeaf net fact ⊎ Rests net new fact
  grounds_more fact (inl h) = inl h
  grounds_more fact (inr h) = inr (rests_more fact h)
