-- What is so of a scan rests on what else is so of it.
use Rattle.std.proofs.Common.{◌≡◌, ◌⊎◌, ℕ, suc, ◌+◌, ◌-◌, ◌<◌, Bool, true, false, not, cond, ◌&&◌, List, [], ◌∷◌, Option, None, Some, refl, subst, sym, ap, ◌∙◌, inl, inr, arith}
use Rattle.std.specs.Prelude.{◌==◌, Contains, nat_le, nat_lt, slice_get, slice_index_or}
use Rattle.std.specs.Bool.{MatchBool}
use Rattle.std.specs.List.{AllByRecursion, list_all}
use Rattle.std.proofs.lemmas.Bool.{and_cases, and_parts, cases_Bool, cases_eq, cases_lt, cond-true, cond-false, eqb-false, eqb-true, false≢true, leb-true, ltb-true, or_cases, or_parts}
use mathlib.Core.Path.{fun_ext}
use Rattle.ps_model.specs.Action.{Action, Actual, assigns, calls, free, literal, time, wired}
use Rattle.ps_model.specs.Blocks.{latched, next, output_count, outs}
use Rattle.ps_model.specs.Formula.{Formula, Formulas, signal, all_of, any_of, no_operand, operand, value, all_true, any_true}
use Rattle.ps_model.specs.Kept.{Kept, seen}
use Rattle.ps_model.specs.Network.{Network, drives, first_pin, input_count, instance_count, is_call_of, is_driven, is_new, kind_at}
use Rattle.ps_model.specs.Scanning.{Solves, State, block_in, limit_of, pin_at, pin_value, read_at, signal_in}
use Rattle.ps_model.specs.Sound.{IsSound}
use Rattle.ps_model.specs.Table.{Conditions}
use Rattle.ps_model.specs.declared.kind.Kind.{Kind}
use Rattle.ps_model.proofs.OneSolution.{call_is}
use Rattle.ps_model.proofs.Once.{any_of_one, place_of}
use Rattle.ps_ways.specs.Tables.{ways_of}
use Rattle.ps_ways.specs.Ways.{asks, holds, meets}
use Rattle.ps_ways.specs.declared.way.Ask.{Ask}
use Rattle.ps_ways.specs.declared.way.Ask.TheVariants.{Pin, Edge, Held, Rise, Elapsed, NoMode, OneMode}
use Rattle.ps_ways.specs.declared.way.Ask.TheVariants.{ManyModes, LatchedMode}
use Rattle.ps_ways.specs.declared.way.Literal.{Literal}
use Rattle.ps_ways.specs.declared.way.Literal.TheVariants.{Any, Is, Not}
use Rattle.ps_ways.specs.declared.way.Way.{Way}
use Rattle.ps_why.specs.Explained.{IsLeaf}
use Rattle.ps_ways.specs.Calling.{pins_read, seen_by}
use Rattle.ps_why.specs.Facts.{IsSo}
use Rattle.ps_why.specs.Operands.{EachHasValue, HasValue, SomeHasValue}
use Rattle.ps_why.specs.Grounds.{MayBe, PinHasValue, ReadIsTold}
use Rattle.ps_why.specs.Guards.{IsKept, IsLeft, IsPassed, LiteralIs, asked}
use Rattle.ps_why.specs.Laws.{EachFactHasGrounds, IsOfApplication}
use Rattle.ps_why.specs.Rests.{IsDecided, IsEntered, IsInactive, IsLatched, IsMoved, IsRead, Rests}
use Rattle.ps_why.specs.declared.fact.Fact.{Fact}
use Rattle.ps_why.specs.declared.fact.Fact.TheVariants.{SignalIs, SignalWas, PinIs, AskIs, StateIs, StateWas}
use Rattle.ps_why.specs.declared.fact.Fact.TheVariants.{ResetWas, AuxiliaryWas, ModeIs, ModeWas}
use Rattle.ps_why.proofs.Deciding.{all_asked, not_not}
use Rattle.ps_why.proofs.Resting.{code_is, mode_is, next_decided, next_entered, next_inactive}
use Rattle.ps_why.proofs.Taking.{decided_by_ways, next_by}

-- where it is told what is read of each signal, a formula has its value
module _ (Reads : ℕ → Bool → Type 0) (v : ℕ → Bool) (told : (s : ℕ) → Reads s (v s)) where
  mutual
    has : (e : Formula) (b : Bool) → value v e ≡ b → HasValue Reads e b
    has (signal s) b h = subst (Reads s) h (told s)
    has (all_of es) true h = each_on es h
    has (all_of es) false h = some_off es h
    has (any_of es) true h = some_on es h
    has (any_of es) false h = each_off es h

    each_on : (es : Formulas) → all_true v es ≡ true → EachHasValue Reads es true
    each_on no_operand h = tt
    each_on (operand e es) h = let both = and_parts (value v e) (all_true v es) h in (has e true both.0, each_on es both.1)

    some_off : (es : Formulas) → all_true v es ≡ false → SomeHasValue Reads es false
    some_off no_operand h = false≢true (sym h)
    some_off (operand e es) h =
        elim (and_cases (value v e) (all_true v es) h) [ inl x ↦ inl (has e false x) | inr y ↦ inr (some_off es y) ]

    some_on : (es : Formulas) → any_true v es ≡ true → SomeHasValue Reads es true
    some_on no_operand h = false≢true h
    some_on (operand e es) h =
        elim (or_cases (value v e) (any_true v es) h) [ inl x ↦ inl (has e true x) | inr y ↦ inr (some_on es y) ]

    each_off : (es : Formulas) → any_true v es ≡ false → EachHasValue Reads es false
    each_off no_operand h = tt
    each_off (operand e es) h = let both = or_parts (value v e) (any_true v es) h in (has e false both.0, each_off es both.1)

either : (b x y : Bool) → MatchBool b (x ≡ cond b x y) (y ≡ cond b x y)
either true x y = refl
either false x y = refl

-- only one thing that a guard can ask is of the limit
any_limit : (a : Ask) → (a ≡ Elapsed) ⊎ ((kind : Kind) (pins : ℕ → Bool) (e e' : Bool) (k : Kept) → asks a (seen kind pins e k) ≡ asks a (seen kind pins e' k))
any_limit (Pin j) = inr (λ kind pins e e' k. refl)
any_limit Edge = inr (λ kind pins e e' k. refl)
any_limit Held = inr (λ kind pins e e' k. refl)
any_limit Rise = inr (λ kind pins e e' k. refl)
any_limit Elapsed = inl refl
any_limit NoMode = inr (λ kind pins e e' k. refl)
any_limit OneMode = inr (λ kind pins e e' k. refl)
any_limit ManyModes = inr (λ kind pins e e' k. refl)
any_limit LatchedMode = inr (λ kind pins e e' k. refl)

-- what is read off the call at a step
of_call : {X : Type 0} → (ℕ → List Actual → X) → X → Option Action → X
of_call f d None = d
of_call f d (Some (assigns t e)) = d
of_call f d (Some (calls i args)) = f i args

module _ (net : Network) (old : State) (since : ℕ) (new : State) where
  abbrev told : Fact → Type 0
  told = IsSo net old since new

  -- at a step stands one call
  one_call : {X : Type 0} (f : ℕ → List Actual → X) (d : X) (k i i' : ℕ) (args args' : List Actual) → slice_get net.steps k ≡ Some (calls i args) →
      slice_get net.steps k ≡ Some (calls i' args') → f i' args' ≡ f i args
  unfolding of_call
  one_call f d k i i' args args' here there = ap (of_call f d) (sym there ∙ here)

  read_told : (k s : ℕ) → ReadIsTold net told k s (read_at net old new k s)
  read_told k s = either (is_new net k s) (signal_in new s) (signal_in old s)

  pin_told : (k : ℕ) (default : Bool) (a : Actual) (b : Bool) → pin_value (read_at net old new k) default a ≡ b → PinHasValue net told k default a b
  pin_told k default free b h = h
  pin_told k default (literal x) b h = h
  pin_told k default (time t) b h = h
  pin_told k default (wired e) b h = has (ReadIsTold net told k) (read_at net old new k) (read_told k) e b h

  -- ---- A call.
  module _ (k i : ℕ) (args : List Actual) (stands : slice_get net.steps k ≡ Some (calls i args)) where
    pin_so : (j : ℕ) → told (PinIs k j (pins_read net old since new k i args j))
    pin_so j i' args' there = one_call (λ i args. pins_read net old since new k i args j) false k i i' args args' stands there

    ask_so : (a : Ask) → told (AskIs k a (asks a (seen_by net old since new k i args)))
    ask_so a i' args' there = one_call (λ i args. asks a (seen_by net old since new k i args)) false k i i' args args' stands there

    -- the pins that agree with what is told are those that are read
    same_pins : (pins : ℕ → Bool) (kept : Kept) → MayBe net told k i pins kept → pins ≡ pins_read net old since new k i args
    same_pins pins kept m = fun_ext (λ j. m.pins_agree j (pins_read net old since new k i args j) (pin_so j))

    settled : (a : Ask) (b : Bool) → ((kind : Kind) (pins : ℕ → Bool) (e e' : Bool) (k : Kept) → asks a (seen kind pins e k) ≡ asks a (seen kind pins e' k)) →
        asks a (seen_by net old since new k i args) ≡ b → (pins : ℕ → Bool) (elapsed : Bool) (kept : Kept) → MayBe net told k i pins kept →
        asks a (seen (kind_at net i) pins elapsed kept) ≡ b
    settled a b same h pins elapsed kept m =
        let kind = kind_at net i in
        let s = block_in old i in
        let of = λ (pins : ℕ → Bool) (r x : Bool) (mode : ℕ). asks a (seen kind pins elapsed (record { code = 0; last_reset = r; last_auxiliary = x; mode = mode; timer = 0 })) in
        let read = pins_read net old since new k i args in
        ap (λ p. of p kept.last_reset kept.last_auxiliary kept.mode) (same_pins pins kept m)
        ∙ ap (λ r. of read r kept.last_auxiliary kept.mode) (m.reset_agrees s.last_reset refl)
        ∙ ap (λ x. of read s.last_reset x kept.mode) (m.auxiliary_agrees s.last_auxiliary refl)
        ∙ ap (λ y. of read s.last_reset s.last_auxiliary y) (m.mode_agrees s.mode refl)
        ∙ same kind read elapsed (nat_le (limit_of kind args) (s.age + since)) (record { code = 0; last_reset = s.last_reset; last_auxiliary = s.last_auxiliary; mode = s.mode; timer = 0 })
        ∙ h

    abbrev conditions_here : Conditions
    conditions_here = seen_by net old since new k i args

    literal_told : (l : Literal) (b : Bool) → meets l conditions_here ≡ b → LiteralIs told k l b
    literal_told Any b h = sym h
    literal_told (Is a) b h = λ i' args' there. ask_so a i' args' there ∙ h
    literal_told (Not a) b h = λ i' args' there. ask_so a i' args' there ∙ (sym (not_not (asks a conditions_here)) ∙ ap not h)

    open_told : (ls : List Literal) → list_all (λ l. meets l conditions_here) ls ≡ true → AllByRecursion (λ l. LiteralIs told k l true) ls
    open_told [] h = tt
    open_told (l ∷ ls) h =
        let both = and_parts (meets l conditions_here) (list_all (λ l. meets l conditions_here) ls) h in
        (literal_told l true both.0, open_told ls both.1)

    closed_told : (ls : List Literal) → list_all (λ l. meets l conditions_here) ls ≡ false → (l : Literal) × Contains ls l × LiteralIs told k l false
    closed_told [] h = absurd (false≢true (sym h))
    closed_told (l ∷ ls) h =
        elim (and_cases (meets l conditions_here) (list_all (λ l. meets l conditions_here) ls) h) [
          | inl x ↦ (l, (0, omega arith, refl), literal_told l false x)
          | inr y ↦ let r = closed_told ls y in (r.0, (suc r.1.0, omega (arith, r.1.1), r.1.2), r.2)
        ]

    passed_told : (q : ℕ) (w : Way) → (w.state == q && holds w conditions_here) ≡ false → IsPassed told k q w
    passed_told q w h =
        elim (and_cases (w.state == q) (holds w conditions_here) h) [
          | inl x ↦ inl (eqb-false w.state q x)
          | inr y ↦ inr (closed_told (asked w) (sym (all_asked conditions_here w.first w.second w.third) ∙ y))
        ]

    ways_told : (q : ℕ) (ways : List Way) → IsLeft told k ways q (next_by q ways conditions_here) ⊎ IsKept told k ways q (next_by q ways conditions_here)
    ways_told q [] = inr (tt, refl)
    ways_told q (w ∷ ways) =
        let is = w.state == q && holds w conditions_here in
        elim (cases_Bool (w.state == q && holds w conditions_here)) [
          | inl on ↦
              let both = and_parts (w.state == q) (holds w conditions_here) on in
              inl (record {
                before = [];
                way = w;
                behind = ways;
                order = refl;
                passed = tt;
                of_state = eqb-true w.state q both.0;
                open_way = open_told (asked w) (sym (all_asked conditions_here w.first w.second w.third) ∙ both.1);
                leads = sym (cond-true is w.next (next_by q ways conditions_here) on);
              })
          | inr off ↦
              elim (ways_told q ways) [
                | inl left ↦
                    inl (record {
                      before = w ∷ left.before;
                      way = left.way;
                      behind = left.behind;
                      order = ap (λ ws. w ∷ ws) left.order;
                      passed = (passed_told q w off, left.passed);
                      of_state = left.of_state;
                      open_way = left.open_way;
                      leads = left.leads ∙ sym (cond-false is w.next (next_by q ways conditions_here) off);
                    })
                | inr kept ↦ inr ((passed_told q w off, kept.0), cond-false is w.next (next_by q ways conditions_here) off ∙ kept.1)
              ]
        ]

    pin_has : (j : ℕ) (b : Bool) → conditions_here.pin j ≡ b → told (PinIs k j b)
    pin_has j b h i' args' there = pin_so j i' args' there ∙ h

    moves_told : (q : ℕ) → next (kind_at net i) (block_in old i).code conditions_here ≡ q →
        IsInactive net told k q ⊎ (IsEntered net told k i q ⊎ IsDecided net told k i q)
    moves_told q h =
        let kind = kind_at net i in
        let before = (block_in old i).code in
        elim (cases_Bool (conditions_here.pin 0)) [
          | inr off ↦ inl (pin_has 0 false off, sym h ∙ next_inactive kind before conditions_here off)
          | inl on ↦
              elim (cases_eq before 0) [
                | inl idle ↦
                    inr (inl (pin_has 0 true on, idle, sym h ∙ (ap (λ x. next kind x conditions_here) idle ∙ next_entered kind conditions_here on)))
                | inr busy ↦
                    let e : next_by before (ways_of kind) conditions_here ≡ q =
                    sym (decided_by_ways before conditions_here kind) ∙ (sym (next_decided kind before conditions_here on busy) ∙ h) in
                    inr (inr (record {
                      active = pin_has 0 true on;
                      before = before;
                      was = refl;
                      not_idle = busy;
                      decides = subst (λ q. IsLeft told k (ways_of kind) before q ⊎ IsKept told k (ways_of kind) before q) e (ways_told before (ways_of kind));
                    }))
              ]
        ]

  -- ---- A scan.
  module _ (sound : IsSound net) (ins : List Bool) (solves : Solves net old ins since new) where
    -- where an instance is called
    call_of : (i : ℕ) → i < instance_count net → (k : ℕ) × (args : List Actual) × (slice_get net.steps k ≡ Some (calls i args))
    call_of i inside =
        let r = place_of (is_call_of net i) net.steps (any_of_one (is_call_of net i) net.steps (sound.called_once i inside)) in
        let c = call_is net sound i r.1 r.3 in
        (r.0, c.0, r.2 ∙ ap Some c.1)

    state_rests : (i q : ℕ) → i < instance_count net → (block_in new i).code ≡ q → IsMoved net told i q
    state_rests i q inside h =
        let c = call_of i inside in
        record {
          step = c.0;
          args = c.1;
          stands = c.2;
          moves = moves_told c.0 i c.1 c.2 q (sym (code_is net old since new ins solves c.0 i c.1 c.2) ∙ h);
        }

    mode_rests : (i m : ℕ) → i < instance_count net → (block_in new i).mode ≡ m → IsLatched net told i m
    mode_rests i m inside h =
        let c = call_of i inside in
        let kind = kind_at net i in
        let read = pins_read net old since new c.0 i c.1 in
        let q = (block_in old i).code in
        record {
          step = c.0;
          args = c.1;
          stands = c.2;
          before = q;
          behind = (block_in new i).code;
          was = refl;
          is = refl;
          same = λ pins kept may.
              ap (λ p. latched kind p q (block_in new i).code kept.mode) (same_pins c.0 i c.1 c.2 pins kept may)
              ∙ ap (λ x. latched kind read q (block_in new i).code x) (may.mode_agrees (block_in old i).mode refl)
              ∙ ap (λ x. latched kind read q x (block_in old i).mode) (code_is net old since new ins solves c.0 i c.1 c.2)
              ∙ sym (mode_is net old since new ins solves c.0 i c.1 c.2)
              ∙ h;
        }

    driven_rests : (s : ℕ) (b : Bool) (k : ℕ) (a : Action) → slice_get net.steps k ≡ Some a → drives net s a ≡ true → signal_in new s ≡ b → Rests net told (SignalIs s b)
    driven_rests s b k (assigns t e) at is h =
        let same = eqb-true t s is in
        inl (record {
          step = k;
          formula = e;
          stands = at ∙ ap (λ x. Some (assigns x e)) same;
          has_value = has (ReadIsTold net told k) (read_at net old new k) (read_told k) e b (sym (solves.assigned k t e at) ∙ (ap (signal_in new) same ∙ h));
        })
    driven_rests s b k (calls i args) at is h =
        let both = and_parts (nat_le (first_pin net i) s) (nat_lt s (first_pin net i + output_count (kind_at net i))) is in
        let low = leb-true (first_pin net i) s both.0 in
        let high = ltb-true s (first_pin net i + output_count (kind_at net i)) both.1 in
        let place : s ≡ first_pin net i + (s - first_pin net i) = omega arith in
        let inside = sound.instances k i args at in
        let below : s - first_pin net i < output_count (kind_at net i) = omega arith in
        inr (inr (inr (record {
          instance = i;
          output = s - first_pin net i;
          is_output = record { instance = inside; output = below; place = place };
          state = (block_in new i).code;
          in_state = refl;
          shows = λ mode left.
              ap (λ m. slice_index_or (outs (kind_at net i) (block_in new i).code m) (s - first_pin net i) false) (left (block_in new i).mode refl)
              ∙ sym (solves.pin_outputs i (s - first_pin net i) inside below)
              ∙ ap (signal_in new) (sym place)
              ∙ h;
        })))

    signal_rests : (s : ℕ) (b : Bool) → signal_in new s ≡ b → IsLeaf net (SignalIs s b) ⊎ Rests net told (SignalIs s b)
    signal_rests s b h =
        elim (cases_lt s (input_count net)) [
          | inl input ↦ inl (inl input)
          | inr above ↦
              elim (cases_Bool (is_driven net s)) [
                | inl on ↦ let r = place_of (drives net s) net.steps on in inr (driven_rests s b r.0 r.1 r.2 r.3 h)
                | inr off ↦ inr (inr (inl (record { no_input = above; no_driver = off; off = sym h ∙ solves.undriven s above off })))
              ]
        ]

    ask_rests : (k : ℕ) (a : Ask) (b : Bool) → told (AskIs k a b) → IsLeaf net (AskIs k a b) ⊎ Rests net told (AskIs k a b)
    ask_rests k a b h =
        elim (any_limit a) [
          | inl limit ↦ inl (inr limit)
          | inr same ↦ inr (λ i args stands. settled k i args stands a b same (h i args stands))
        ]

    pin_rests : (k j : ℕ) (b : Bool) → told (PinIs k j b) → IsRead net told k j b
    pin_rests k j b h i args stands = pin_told k (pin_at (kind_at net i) j).free (slice_index_or args j free) b (h i args stands)

    pub grounded : (fact : Fact) → IsOfApplication net fact → told fact → IsLeaf net fact ⊎ Rests net told fact
    grounded (SignalIs s b) of h = signal_rests s b h
    grounded (PinIs k j b) of h = inr (pin_rests k j b h)
    grounded (AskIs k a b) of h = ask_rests k a b h
    grounded (StateIs i q) of h = inr (state_rests i q of h)
    grounded (ModeIs i m) of h = inr (mode_rests i m of h)
    grounded (SignalWas s b) of h = inl (inr tt)
    grounded (StateWas i q) of h = inl (inr tt)
    grounded (ResetWas i b) of h = inl (inr tt)
    grounded (AuxiliaryWas i b) of h = inl (inr tt)
    grounded (ModeWas i m) of h = inl (inr tt)

pub each_fact_has_grounds : (net : Network) → IsSound net → EachFactHasGrounds net
each_fact_has_grounds net sound old ins since new solves fact of h = grounded net old since new sound ins solves fact of h
