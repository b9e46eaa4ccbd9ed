-- A fact rests on its reasons.
use Rattle.std.proofs.Common.{◌≡◌, ◌≢◌, ◌⊎◌, ℕ, ◌+◌, ◌<◌, ◌≤◌, ◌++◌, Bool, true, false, List, [], ◌∷◌, length, map, refl, subst, sym, ap, ◌∙◌, inl, inr, arith}
use Rattle.std.specs.Prelude.{Contains, Option, Some, None, ◌==◌, if◌then◌else◌, nat_lt, option_to_list, slice_get, slice_index_or}
use Rattle.std.specs.List.{range_with_len}
use Rattle.std.specs.Option.{option_map_or, unwrap_or}
use Rattle.ps_why.specs.Explained.{IsOfBefore}
use Rattle.std.proofs.lemmas.Bool.{cases_Bool, cases_lt, cond-true, cond-false, eqb-false, eqb-true, lt-ltb, le-ltb, ltb-true, not-false}
use Rattle.std.proofs.lemmas.List.Elements.{Contains-append_cases, Contains-append_left, Contains-append_right}
use Rattle.std.proofs.lemmas.Option.{get_or_from_slice_get, slice_get-get_or, unwrap_or-slice_get}
use Rattle.std.proofs.lemmas.List.FromFn.{get_or-range_with_len}
use Rattle.ps_model.specs.Action.{Action, Actual, assigns, calls, free, literal, time, wired}
use Rattle.ps_model.specs.Blocks.{block}
use Rattle.ps_model.specs.Demand.{demand, is_met}
use Rattle.ps_model.specs.Drivers.{driver}
use Rattle.ps_model.specs.Formula.{Formula}
use Rattle.ps_model.specs.Network.{Network, input_count, instance_count, is_new, kind_at}
use Rattle.ps_model.specs.Sound.{IsSound}
use Rattle.ps_model.specs.Table.{Conditions}
use Rattle.ps_model.specs.declared.demands.Need.{Need}
use Rattle.ps_model.specs.declared.demands.Need.TheVariants.{On, Off}
use Rattle.ps_model.specs.declared.driver.Driver.{Driver}
use Rattle.ps_model.specs.declared.driver.Driver.TheVariants.{Assigned, Output}
use Rattle.ps_model.specs.declared.kind.Kind.{Kind}
use Rattle.ps_model.specs.declared.kind.Kind.TheVariants.{ModeSelector}
use Rattle.ps_ways.specs.Tables.{ways_of}
use Rattle.ps_ways.specs.declared.way.Ask.{Ask}
use Rattle.ps_ways.specs.declared.way.Ask.TheVariants.{Pin, Edge, Held, Rise, Elapsed, NoMode, OneMode}
use Rattle.ps_ways.specs.declared.way.Ask.TheVariants.{ManyModes, LatchedMode}
use Rattle.ps_why.specs.FactsRead.{GivesValue, IsOfState, fact_of_read}
use Rattle.ps_why.specs.Grounds.{ReadIsTold}
use Rattle.ps_why.specs.Asking.{IsOfStep, IsSeenIn, IsSettledBy, TellsLast}
use Rattle.ps_why.specs.Reasons.{arguments, ask_reasons, asked_by, assigned_by, call_at, deciding, denied, driven_by, guards_are, lacked, mode_of, mode_pins, mode_reasons, or_else, output_by, reads, reasons_of, seen_in, shown, state_of, state_reasons, tried, wired_by, with_last}
use Rattle.ps_why.specs.Resting.{RestsThere}
use Rattle.ps_why.specs.Rests.{IsOutput, unmet}
use Rattle.ps_why.specs.Scenes.{IsCallFor, IsSceneFor, conditions_in, pins_in, read_in}
use Rattle.ps_why.specs.Telling.{IsPinOf}
use Rattle.ps_why.specs.declared.asks.Call.{Call}
use Rattle.ps_why.specs.declared.call.CallScene.{CallScene}
use Rattle.ps_why.specs.declared.fact.Fact.{Fact}
use Rattle.ps_why.specs.declared.fact.Fact.TheVariants.{SignalIs, SignalWas, PinIs, AskIs, StateIs, StateWas}
use Rattle.ps_why.specs.declared.fact.Fact.TheVariants.{ResetWas, AuxiliaryWas, ModeIs, ModeWas}
use Rattle.ps_why.specs.declared.scene.Scene.{Scene}
use Rattle.ps_why.proofs.Guarded.{decided, guards_only}
use Rattle.ps_why.proofs.Listing.{find_cases, first_in, behind_in, in_cases, none_in}
use Rattle.ps_why.proofs.Moving.{IsOfMode, ask_rests, mode_rests, state_rests}
use Rattle.ps_why.proofs.More.{decides_more}
use Rattle.ps_why.proofs.Operated as operated
use Rattle.ps_why.proofs.Outputs.{IsPlain, assigned_rests, denied_rests, driver_says, given_nothing, input_rests, no_call_rests, plain_rests, shown_rests, undriven_rests, wired_rests}
use Rattle.ps_why.proofs.Readings.{contains_map, map_contains, match_of}
use Rattle.ps_why.proofs.Seeing.{no_call, seen_in_call}
use Rattle.ps_why.proofs.Settling.{edge_settles, held_settles, latched_settles, limit_settles, many_modes_settles, no_mode_settles, one_mode_settles, pin_settles, rise_settles}
use Rattle.ps_why.proofs.Taking.{next_by}

-- ---- What a step reads.

pub gives_value : (net : Network) (x : Scene) (k : ℕ) (e : Formula) → GivesValue net x k e (reads net x k e)
gives_value net x k e = record {
  has = operated.decided (read_in net x k) (ReadIsTold net (Contains (reads net x k e)) k) e
      (λ s h. match_of (is_new net k s) (Contains (reads net x k e)) (SignalIs s (read_in net x k s)) (SignalWas s (read_in net x k s))
      (contains_map (λ s. fact_of_read net k s (read_in net x k s)) (deciding (read_in net x k) e) s h));
  only = λ fact at. let w = map_contains (λ s. fact_of_read net k s (read_in net x k s)) (deciding (read_in net x k) e) fact at in (w.0, w.2);
}

-- ---- The modes.

modes_told : (k : ℕ) (pins : ℕ → Bool) (m : ℕ) → m < 8 → Contains (mode_pins k pins) (PinIs k (m + 1) (pins (m + 1)))
modes_told k pins m small =
    let is : 1 + m ≡ m + 1 = omega arith in
    contains_map (λ j. PinIs k j (pins j)) (range_with_len 1 8) (m + 1) (m, small, get_or-range_with_len 1 8 m (m + 1) small ∙ is)

modes_only : (k : ℕ) (pins : ℕ → Bool) (f : Fact) → Contains (mode_pins k pins) f → IsPinOf k pins f
modes_only k pins f h = let w = map_contains (λ j. PinIs k j (pins j)) (range_with_len 1 8) f h in (w.0, w.2)

-- ---- What a guard asks.

module _ (k : ℕ) (pins : ℕ → Bool) where
  last_told : (pin : Option ℕ) (was : Fact) → TellsLast (Contains (with_last k pins pin was)) k pins pin was
  last_told None was = tt
  last_told (Some j) was = (
    first_in (PinIs k j (pins j)) (if pins j then was ∷ [] else []),
    λ on. behind_in (PinIs k j (pins j)) was (if pins j then was ∷ [] else []) (subst (λ l. Contains l was) (sym (cond-true (pins j) (was ∷ []) [] on)) (first_in was [])),
  )

  last_only : (pin : Option ℕ) (was f : Fact) → Contains (with_last k pins pin was) f → IsPinOf k pins f ⊎ (f ≡ was)
  last_only None was f h = none_in f h
  last_only (Some j) was f h = elim (in_cases (PinIs k j (pins j)) f (if pins j then was ∷ [] else []) h) [
    | inl is ↦ inl (j, sym is)
    | inr rest ↦ elim (cases_Bool (pins j)) [
      | inl on ↦ elim (in_cases was f [] (subst (λ l. Contains l f) (cond-true (pins j) (was ∷ []) [] on) rest)) [ inl is ↦ inr (sym is) | inr none ↦ none_in f none ]
      | inr off ↦ none_in f (subst (λ l. Contains l f) (cond-false (pins j) (was ∷ []) [] off) rest)
    ]
  ]

module _ (call : Call) (c : Conditions) (is : IsSeenIn call c) (few : call.last.mode ≤ 7) where
  settles : (a : Ask) → IsSettledBy call a c (Contains (ask_reasons call c.pin a))
  settles (Pin j) = pin_settles call c is (Contains (ask_reasons call c.pin (Pin j))) j (first_in (PinIs call.step j (c.pin j)) [])
  settles Edge = edge_settles call c is (Contains (ask_reasons call c.pin Edge)) (last_told call.step c.pin (block call.kind).reset (ResetWas call.instance call.last.reset))
  settles Held = held_settles call c is (Contains (ask_reasons call c.pin Held)) (last_told call.step c.pin (block call.kind).reset (ResetWas call.instance call.last.reset))
  settles Rise = rise_settles call c is (Contains (ask_reasons call c.pin Rise)) (last_told call.step c.pin (block call.kind).auxiliary (AuxiliaryWas call.instance call.last.auxiliary))
  settles Elapsed = limit_settles call c is (Contains [])
  settles NoMode = no_mode_settles call c is (mode_pins call.step c.pin) (modes_told call.step c.pin)
  settles OneMode = one_mode_settles call c is (mode_pins call.step c.pin) (modes_told call.step c.pin)
  settles ManyModes = many_modes_settles call c is (mode_pins call.step c.pin) (modes_told call.step c.pin)
  settles LatchedMode =
      let was = ModeWas call.instance call.last.mode in
      latched_settles call c is (mode_pins call.step c.pin ++ was ∷ [])
      (λ m small. Contains-append_left (mode_pins call.step c.pin) (was ∷ []) (PinIs call.step (m + 1) (c.pin (m + 1))) (modes_told call.step c.pin m small))
      few (Contains-append_right (mode_pins call.step c.pin) (was ∷ []) was (first_in was []))

module _ (call : Call) (pins : ℕ → Bool) where
  asked_only : (a : Ask) (f : Fact) → Contains (ask_reasons call pins a) f → IsOfStep call pins f
  asked_only (Pin j) f h = elim (in_cases (PinIs call.step j (pins j)) f [] h) [ inl is ↦ inl (j, sym is) | inr none ↦ none_in f none ]
  asked_only Edge f h = elim (last_only call.step pins (block call.kind).reset (ResetWas call.instance call.last.reset) f h) [ inl pin ↦ inl pin | inr was ↦ inr (inl was) ]
  asked_only Held f h = elim (last_only call.step pins (block call.kind).reset (ResetWas call.instance call.last.reset) f h) [ inl pin ↦ inl pin | inr was ↦ inr (inl was) ]
  asked_only Rise f h =
      elim (last_only call.step pins (block call.kind).auxiliary (AuxiliaryWas call.instance call.last.auxiliary) f h) [ inl pin ↦ inl pin | inr was ↦ inr (inr (inl was)) ]
  asked_only Elapsed f h = none_in f h
  asked_only NoMode f h = inl (modes_only call.step pins f h)
  asked_only OneMode f h = inl (modes_only call.step pins f h)
  asked_only ManyModes f h = inl (modes_only call.step pins f h)
  asked_only LatchedMode f h = elim (Contains-append_cases (mode_pins call.step pins) (ModeWas call.instance call.last.mode ∷ []) f h) [
    | inl pin ↦ inl (modes_only call.step pins f pin)
    | inr last ↦ elim (in_cases (ModeWas call.instance call.last.mode) f [] last) [ inl is ↦ inr (inr (inr (sym is))) | inr none ↦ none_in f none ]
  ]

-- ---- An output.

unmet_pin : (k : ℕ) (pins : ℕ → Bool) (need : Need) → is_met pins need ≡ false → IsPinOf k pins (unmet k need)
unmet_pin k pins (On j) off = (j, ap (PinIs k j) (sym off))
unmet_pin k pins (Off j) off = (j, ap (PinIs k j) (sym (not-false (pins j) off)))

module _ (i : ℕ) (c : CallScene) where
  shown_only : (kind : Kind) (f : Fact) → Contains (shown kind i c) f → IsOfState i c f
  shown_only ModeSelector f h = elim (in_cases (StateIs i c.code) f (ModeIs i c.mode ∷ []) h) [
    | inl is ↦ inl (sym is)
    | inr rest ↦ elim (in_cases (ModeIs i c.mode) f [] rest) [ inl is ↦ inr (sym is) | inr none ↦ none_in f none ]
  ]
  shown_only _ f h = elim (in_cases (StateIs i c.code) f [] h) [ inl is ↦ inl (sym is) | inr none ↦ none_in f none ]

  shown_state : (kind : Kind) → Contains (shown kind i c) (StateIs i c.code)
  shown_state ModeSelector = first_in (StateIs i c.code) (ModeIs i c.mode ∷ [])
  shown_state _ = first_in (StateIs i c.code) []

  shown_mode : (kind : Kind) → kind ≡ ModeSelector → Contains (shown kind i c) (ModeIs i c.mode)
  shown_mode kind is =
      subst (λ k. Contains (shown k i c) (ModeIs i c.mode)) (sym is) (behind_in (StateIs i c.code) (ModeIs i c.mode) (ModeIs i c.mode ∷ []) (first_in (ModeIs i c.mode) []))

-- what the guards of an instance see in its call
pub seen_is : (net : Network) (x : Scene) (i : ℕ) (c : CallScene) (args : List Actual) → slice_get net.steps c.step ≡ Some (calls i args) →
    seen_in net x i c ≡ conditions_in net x c.step i args c
seen_is net x i c args stands = ap (λ a. conditions_in net x c.step i (arguments a) c) stands

module _ (net : Network) (x : Scene) (i : ℕ) (c : CallScene) (call : IsCallFor net i c) (at : slice_get x.calls.now i ≡ Some c) where
  module _ (s j : ℕ) (output : IsOutput net s i j) where
    by_state : (b : Bool) → RestsThere net x (SignalIs s b) (shown (kind_at net i) i c)
    by_state b =
        shown_rests net x i j c (shown (kind_at net i) i c) call at (λ f h. inr (shown_only i c (kind_at net i) f h)) s b output
        (shown_state i c (kind_at net i)) (shown_mode i c (kind_at net i))

    by_lack : (b : Bool) (lack : List Fact) → lack ≡ [] → RestsThere net x (SignalIs s b) (or_else lack (shown (kind_at net i) i c))
    by_lack b lack none = subst (λ l. RestsThere net x (SignalIs s b) (or_else l (shown (kind_at net i) i c))) (sym none) (by_state b)

    pub output_rests : (pins : ℕ → Bool) → pins ≡ pins_in net x c.step i call.args → (b : Bool) →
        RestsThere net x (SignalIs s b) (or_else (lacked c.step pins (kind_at net i) j b) (shown (kind_at net i) i c))
    output_rests pins is true = by_state true
    output_rests pins is false =
        let kind = kind_at net i in
        let needs = demand kind j in
        let all = shown kind i c in
        elim (cases_Bool (nat_lt j (length (block kind).outputs))) [
          | inl safe ↦
              let lacks : lacked c.step pins kind j false ≡ denied c.step pins needs = cond-true (nat_lt j (length (block kind).outputs)) (denied c.step pins needs) [] safe in
              elim (find_cases (is_met pins) needs) [
                | inl met ↦ by_lack false (lacked c.step pins kind j false) (lacks ∙ ap (λ o. map (unmet c.step) (option_to_list o)) met.0)
                | inr one ↦
                    let pin = unmet c.step one.0 in
                    let here : lacked c.step pins kind j false ≡ pin ∷ [] = lacks ∙ ap (λ o. map (unmet c.step) (option_to_list o)) one.1 in
                    subst (λ l. RestsThere net x (SignalIs s false) (or_else l all)) (sym here)
                    (denied_rests net x i j c (pin ∷ []) call at
                    (λ f h. elim (in_cases pin f [] h) [
                      | inl same ↦ inl (subst (IsPinOf c.step (pins_in net x c.step i call.args)) same
                          (subst (λ p. IsPinOf c.step p pin) is (unmet_pin c.step pins one.0 one.3)))
                      | inr none ↦ none_in f none
                    ]) s false output refl (ltb-true j (length (block kind).outputs) safe) one.0 one.2 (first_in pin []))
              ]
          | inr other ↦ by_lack false (lacked c.step pins kind j false) (cond-false (nat_lt j (length (block kind).outputs)) (denied c.step pins needs) [] other)
        ]

  -- ---- A state.

  module _ (inside : i < instance_count net) (q : ℕ) (cs : Conditions) (is : cs ≡ conditions_in net x c.step i call.args c) where
    abbrev guarding : List Fact
    guarding = guards_are c.step cs (tried cs c.from (ways_of (kind_at net i)))

    abbrev first_fact : Fact
    first_fact = PinIs c.step 0 (cs.pin 0)

    abbrev was_fact : Fact
    was_fact = StateWas i c.from

    idle_rests : cs.pin 0 ≡ false → RestsThere net x (StateIs i q) (first_fact ∷ [])
    idle_rests off =
        state_rests net x i c inside at call q 0 cs (first_fact ∷ []) is
        (λ f h. elim (in_cases first_fact f [] h) [ inl same ↦ inl (0, sym same) | inr none ↦ none_in f none ])
        (inl (subst (λ b. Contains (first_fact ∷ []) (PinIs c.step 0 b)) off (first_in first_fact []), refl))

    entered_rests : cs.pin 0 ≡ true → c.from ≡ 0 → RestsThere net x (StateIs i q) (first_fact ∷ was_fact ∷ [])
    entered_rests on idle =
        let facts = first_fact ∷ was_fact ∷ [] in
        state_rests net x i c inside at call q (block (kind_at net i)).first cs facts is
        (λ f h. elim (in_cases first_fact f (was_fact ∷ []) h) [
          | inl same ↦ inl (0, sym same)
          | inr rest ↦ elim (in_cases was_fact f [] rest) [ inl same ↦ inr (inl (sym same)) | inr none ↦ none_in f none ]
        ])
        (inr (inl (
          subst (λ b. Contains facts (PinIs c.step 0 b)) on (first_in first_fact (was_fact ∷ [])),
          subst (λ n. Contains facts (StateWas i n)) idle (behind_in first_fact was_fact (was_fact ∷ []) (first_in was_fact [])),
          refl,
        )))

    guarded_rests : cs.pin 0 ≡ true → c.from ≢ 0 → RestsThere net x (StateIs i q) (first_fact ∷ was_fact ∷ guarding)
    guarded_rests on busy =
        let facts = first_fact ∷ was_fact ∷ guarding in
        let later = λ (f : Fact) (h : Contains guarding f). behind_in first_fact f (was_fact ∷ guarding) (behind_in was_fact f guarding h) in
        state_rests net x i c inside at call q (next_by c.from (ways_of (kind_at net i)) cs) cs facts is
        (λ f h. elim (in_cases first_fact f (was_fact ∷ guarding) h) [
          | inl same ↦ inl (0, sym same)
          | inr rest ↦ elim (in_cases was_fact f guarding rest) [
            | inl same ↦ inr (inl (sym same))
            | inr guard ↦ inr (inr (busy, guards_only c.step cs (tried cs c.from (ways_of (kind_at net i))) f guard))
          ]
        ])
        (inr (inr (record {
          active = subst (λ b. Contains facts (PinIs c.step 0 b)) on (first_in first_fact (was_fact ∷ guarding));
          before = c.from;
          was = behind_in first_fact was_fact (was_fact ∷ guarding) (first_in was_fact guarding);
          not_idle = busy;
          decides = decides_more (Contains guarding) (Contains facts) later c.step (ways_of (kind_at net i)) c.from (next_by c.from (ways_of (kind_at net i)) cs)
              (decided c.step cs c.from (ways_of (kind_at net i)));
        })))

    pub moved_rests : RestsThere net x (StateIs i q) (state_reasons (kind_at net i) i c cs)
    moved_rests = elim (cases_Bool (cs.pin 0)) [
      | inr off ↦ subst (λ l. RestsThere net x (StateIs i q) (first_fact ∷ l)) (sym (cond-false (cs.pin 0) _ [] off)) (idle_rests off)
      | inl on ↦
          subst (λ l. RestsThere net x (StateIs i q) (first_fact ∷ l)) (sym (cond-true (cs.pin 0) (was_fact ∷ (if c.from == 0 then [] else guarding)) [] on))
          (elim (cases_Bool (c.from == 0)) [
            | inl idle ↦ subst (λ l. RestsThere net x (StateIs i q) (first_fact ∷ was_fact ∷ l)) (sym (cond-true (c.from == 0) [] guarding idle)) (entered_rests on (eqb-true c.from 0 idle))
            | inr busy ↦ subst (λ l. RestsThere net x (StateIs i q) (first_fact ∷ was_fact ∷ l)) (sym (cond-false (c.from == 0) [] guarding busy)) (guarded_rests on (eqb-false c.from 0 busy))
          ])
    ]

  -- ---- A mode.

  module _ (inside : i < instance_count net) (m : ℕ) (pins : ℕ → Bool) (is : pins ≡ pins_in net x c.step i call.args) where
    abbrev states_are : List Fact → List Fact
    states_are rest = StateWas i c.from ∷ StateIs i c.code ∷ rest

    with_states : (rest : List Fact) → ((f : Fact) → Contains rest f → IsOfMode i c pins f) → (f : Fact) → Contains (states_are rest) f → IsOfMode i c pins f
    with_states rest only f h = elim (in_cases (StateWas i c.from) f (StateIs i c.code ∷ rest) h) [
      | inl same ↦ inr (inl (sym same))
      | inr more ↦ elim (in_cases (StateIs i c.code) f rest more) [ inl same ↦ inr (inr (inl (sym same))) | inr last ↦ only f last ]
    ]

    later : (rest : List Fact) (f : Fact) → Contains rest f → Contains (states_are rest) f
    later rest f h = behind_in (StateWas i c.from) f (StateIs i c.code ∷ rest) (behind_in (StateIs i c.code) f rest h)

    told_states : (rest : List Fact) → Contains (states_are rest) (StateWas i c.from) × Contains (states_are rest) (StateIs i c.code)
    told_states rest = (
      first_in (StateWas i c.from) (StateIs i c.code ∷ rest),
      behind_in (StateWas i c.from) (StateIs i c.code) (StateIs i c.code ∷ rest) (first_in (StateIs i c.code) rest),
    )

    pub latched_rests : RestsThere net x (ModeIs i m) (mode_reasons i c pins)
    latched_rests = elim (cases_Bool (c.from == 0x8005)) [
      | inl anew ↦
          let rest = mode_pins c.step pins in
          subst (λ l. RestsThere net x (ModeIs i m) (states_are l)) (sym (cond-true (c.from == 0x8005) rest (ModeWas i c.last.mode ∷ []) anew))
          (mode_rests net x i c inside at call m pins (states_are rest) is (with_states rest (λ f h. inl (modes_only c.step pins f h)))
          ((told_states rest).0, (told_states rest).1, inl (eqb-true c.from 0x8005 anew, λ n small. later rest (PinIs c.step (n + 1) (pins (n + 1))) (modes_told c.step pins n small))))
      | inr old ↦
          let rest = ModeWas i c.last.mode ∷ [] in
          subst (λ l. RestsThere net x (ModeIs i m) (states_are l)) (sym (cond-false (c.from == 0x8005) (mode_pins c.step pins) rest old))
          (mode_rests net x i c inside at call m pins (states_are rest) is
          (with_states rest (λ f h. elim (in_cases (ModeWas i c.last.mode) f [] h) [ inl same ↦ inr (inr (inr (sym same))) | inr none ↦ none_in f none ]))
          ((told_states rest).0, (told_states rest).1, inr (eqb-false c.from 0x8005 old, later rest (ModeWas i c.last.mode) (first_in (ModeWas i c.last.mode) []))))
    ]

-- ---- A fact.

module _ (net : Network) (sound : IsSound net) (x : Scene) (fits : IsSceneFor net x) where
  abbrev here : ℕ → CallScene
  here i = slice_index_or x.calls.now i no_call

  here_at : (i : ℕ) → i < instance_count net → slice_get x.calls.now i ≡ Some (here i)
  here_at i inside = slice_get-get_or x.calls.now i no_call (omega (arith, inside, fits.each))

  -- of a signal
  by_driver : (s : ℕ) (b : Bool) → input_count net ≤ s → (d : Option Driver) → d ≡ driver net s → RestsThere net x (SignalIs s b) (driven_by net x b d)
  by_driver s b above None is = undriven_rests net x s b above (driver_says net sound s None is)
  by_driver s b above (Some (Assigned k)) is =
      let d = driver_says net sound s (Some (Assigned k)) is in
      subst (λ a. RestsThere net x (SignalIs s b) (assigned_by net x k a)) (sym d.1) (assigned_rests net x s k b d.0 (reads net x k d.0) d.1 (gives_value net x k d.0))
  by_driver s b above (Some (Output i j k)) is =
      let d = driver_says net sound s (Some (Output i j k)) is in
      let at = here_at i d.2.instance in
      let call = fits.calls i (here i) at in
      let seen = seen_is net x i (here i) call.args call.stands in
      subst (λ o. RestsThere net x (SignalIs s b) (option_map_or (output_by net x i j b) o [])) (sym at)
      (output_rests net x i (here i) call at s j d.2 (seen_in net x i (here i)).pin (ap (λ (y : Conditions). y.pin) seen) b)

  signal_rests : (s : ℕ) (b : Bool) → RestsThere net x (SignalIs s b) (reasons_of net x (SignalIs s b))
  signal_rests s b = elim (cases_lt s (input_count net)) [
    | inl below ↦
        subst (RestsThere net x (SignalIs s b)) (sym (cond-true (nat_lt s (input_count net)) [] (driven_by net x b (driver net s)) (lt-ltb s (input_count net) below)))
        (input_rests net x s b below)
    | inr above ↦
        subst (RestsThere net x (SignalIs s b)) (sym (cond-false (nat_lt s (input_count net)) [] (driven_by net x b (driver net s)) (le-ltb s (input_count net) above)))
        (by_driver s b above (driver net s) refl)
  ]

  -- of a pin
  by_actual : (k i : ℕ) (args : List Actual) → slice_get net.steps k ≡ Some (calls i args) → (j : ℕ) (b : Bool) (a : Option Actual) → slice_get args j ≡ a →
      RestsThere net x (PinIs k j b) (wired_by net x k a)
  by_actual k i args stands j b None is = plain_rests net x k i args stands j b (subst IsPlain (sym (sym (unwrap_or-slice_get args j free) ∙ ap (λ o. unwrap_or o free) is)) tt)
  by_actual k i args stands j b (Some free) is = plain_rests net x k i args stands j b (subst IsPlain (sym (get_or_from_slice_get args j free free is)) tt)
  by_actual k i args stands j b (Some (literal v)) is = plain_rests net x k i args stands j b (subst IsPlain (sym (get_or_from_slice_get args j (literal v) free is)) tt)
  by_actual k i args stands j b (Some (time t)) is = plain_rests net x k i args stands j b (subst IsPlain (sym (get_or_from_slice_get args j (time t) free is)) tt)
  by_actual k i args stands j b (Some (wired e)) is =
      wired_rests net x k i args stands j b e (reads net x k e) (get_or_from_slice_get args j (wired e) free is) (gives_value net x k e)

  by_step : (k j : ℕ) (b : Bool) (a : Option Action) → slice_get net.steps k ≡ a → RestsThere net x (PinIs k j b) (wired_by net x k (slice_get (arguments a) j))
  by_step k j b None is = no_call_rests net x k j b (λ i args stands. let clash = sym is ∙ stands in cc)
  by_step k j b (Some (assigns s e)) is = no_call_rests net x k j b (λ i args stands. let clash = sym is ∙ stands in cc)
  by_step k j b (Some (calls i args)) is = by_actual k i args is j b (slice_get args j) refl

  -- of what a guard asks
  none_asked : (k : ℕ) (a : Ask) (b : Bool) → ((i : ℕ) (args : List Actual) → slice_get net.steps k ≡ Some (calls i args) → ⊥) → RestsThere net x (AskIs k a b) []
  none_asked k a b none old ins since new solves scene fit so = given_nothing net old since new (AskIs k a b) (inr (λ i args stands. absurd (none i args stands)))

  by_call : (k : ℕ) (a : Ask) (b : Bool) (o : Option Action) → slice_get net.steps k ≡ o → RestsThere net x (AskIs k a b) (asked_by net x k a o)
  by_call k a b None is = none_asked k a b (λ i args stands. let clash = sym is ∙ stands in cc)
  by_call k a b (Some (assigns s e)) is = none_asked k a b (λ i args stands. let clash = sym is ∙ stands in cc)
  by_call k a b (Some (calls i args)) is =
      let inside = sound.instances k i args is in
      let at = here_at i inside in
      let cs = conditions_in net x k i args (here i) in
      let call = call_at net k i (here i) in
      subst (λ o. RestsThere net x (AskIs k a b) (option_map_or (λ c. ask_reasons (call_at net k i c) (pins_in net x k i args) a) o [])) (sym at)
      (ask_rests net x k i args (here i) inside at is a b cs (ask_reasons call cs.pin a) refl
      (settles call cs (seen_in_call (kind_at net i) (pins_in net x k i args) (here i) cs refl) (fits.calls i (here i) at).mode a)
      (asked_only call cs.pin a))

  -- of a state
  by_state_of : (i q : ℕ) → RestsThere net x (StateIs i q) (state_of net x i)
  by_state_of i q old ins since new solves scene inside so =
      let at = here_at i inside in
      let call = fits.calls i (here i) at in
      subst (λ o. RestsThere net x (StateIs i q) (option_map_or (λ c. state_reasons (kind_at net i) i c (seen_in net x i c)) o [])) (sym at)
      (moved_rests net x i (here i) call at inside q (seen_in net x i (here i)) (seen_is net x i (here i) call.args call.stands))
      old ins since new solves scene inside so

  -- of a mode
  by_mode_of : (i m : ℕ) → RestsThere net x (ModeIs i m) (mode_of net x i)
  by_mode_of i m old ins since new solves scene inside so =
      let at = here_at i inside in
      let call = fits.calls i (here i) at in
      subst (λ o. RestsThere net x (ModeIs i m) (option_map_or (λ c. mode_reasons i c (seen_in net x i c).pin) o [])) (sym at)
      (latched_rests net x i (here i) call at inside m (seen_in net x i (here i)).pin (ap (λ (y : Conditions). y.pin) (seen_is net x i (here i) call.args call.stands)))
      old ins since new solves scene inside so

  -- of what was before the scan
  of_before : (fact : Fact) → IsOfBefore fact → RestsThere net x fact []
  of_before fact before old ins since new solves scene fit so = given_nothing net old since new fact (inl (inr before))

  -- A fact rests on its reasons.
  pub reasons_rest : (fact : Fact) → RestsThere net x fact (reasons_of net x fact)
  reasons_rest (SignalIs s b) = signal_rests s b
  reasons_rest (PinIs k j b) = by_step k j b (slice_get net.steps k) refl
  reasons_rest (AskIs k a b) = by_call k a b (slice_get net.steps k) refl
  reasons_rest (StateIs i q) = by_state_of i q
  reasons_rest (ModeIs i m) = by_mode_of i m
  reasons_rest (SignalWas s b) = of_before (SignalWas s b) tt
  reasons_rest (StateWas i q) = of_before (StateWas i q) tt
  reasons_rest (ResetWas i b) = of_before (ResetWas i b) tt
  reasons_rest (AuxiliaryWas i b) = of_before (AuxiliaryWas i b) tt
  reasons_rest (ModeWas i m) = of_before (ModeWas i m) tt
