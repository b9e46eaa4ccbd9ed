-- The reasons of a fact, as they are told.
use Rattle.std.proofs.Common.{◌≡◌, ◌≢◌, ℕ, ◌<◌, ◌≤◌, Bool, true, false, List, [], ◌∷◌, length, refl, sym, ap, ◌∙◌, arith}
use Rattle.std.specs.Prelude.{Option, Some, ◌==◌, if◌then◌else◌, nat_lt, slice_get}
use Rattle.std.specs.Option.{option_map_or}
use Rattle.std.proofs.lemmas.Bool.{cond-true, cond-false, eq-eqb, eqb-false, eqb-true, ne_eqb, le-ltb, lt-ltb}
use Rattle.std.proofs.lemmas.Option.{slice_get_past}
use Rattle.ps_model.specs.Action.{Actual, calls}
use Rattle.ps_model.specs.Drivers.{driver}
use Rattle.ps_model.specs.Network.{Network, input_count, kind_at}
use Rattle.ps_model.specs.Table.{Conditions}
use Rattle.ps_model.specs.declared.driver.Driver.{Driver}
use Rattle.ps_ways.specs.Tables.{ways_of}
use Rattle.ps_why.specs.Reasons.{driven_by, guards_are, lacked, mode_of, mode_pins, mode_reasons, or_else, output_by, output_of, reasons_of, seen_in, shown, state_of, state_reasons, tried}
use Rattle.ps_why.specs.Scenes.{conditions_in}
use Rattle.ps_why.specs.declared.call.CallScene.{CallScene}
use Rattle.ps_why.specs.declared.fact.Fact.{Fact}
use Rattle.ps_why.specs.declared.fact.Fact.TheVariants.{SignalIs, PinIs, StateIs, StateWas, ModeWas}
use Rattle.ps_why.specs.declared.scene.Scene.{Scene}
use Rattle.ps_why.proofs.Reasoned.{seen_is}

pub else_those : {X : Type 0} (these those : List X) → these ≡ [] → or_else these those ≡ those
else_those these those none = ap (λ l. or_else l those) none

pub else_these : {X : Type 0} (these those : List X) → these ≢ [] → or_else these those ≡ these
else_these [] those some = absurd (some refl)
else_these (x ∷ xs) those some = refl

-- a list is empty where it is found to be, by its length
pub nil_is : {X : Type 0} (xs : List X) (n : ℕ) {b : Bool} → n ≡ length xs → b ≡ true → b ≡ (n == 0) → xs ≡ []
nil_is [] n long on is = refl
nil_is (x ∷ xs) n long on is = absurd (let none = eqb-true n 0 (sym is ∙ on) in omega (arith, none, long))

-- and is not where it is not
pub not_nil : {X : Type 0} (xs ys : List X) → xs ≡ ys → (n : ℕ) {b : Bool} → n ≡ length xs → b ≡ false → b ≡ (n == 0) → ys ≢ []
not_nil xs ys same n long off is = λ none. eqb-false n 0 (sym is ∙ off) (long ∙ ap length (same ∙ none))

-- past the instances
module _ (net : Network) (x : Scene) (i : ℕ) (past : length x.calls.now ≤ i) where
  pub no_state : [] ≡ state_of net x i
  no_state = sym (ap (λ o. option_map_or (λ c. state_reasons (kind_at net i) i c (seen_in net x i c)) o []) (slice_get_past x.calls.now i past))

  pub no_mode : [] ≡ mode_of net x i
  no_mode = sym (ap (λ o. option_map_or (λ c. mode_reasons i c (seen_in net x i c).pin) o []) (slice_get_past x.calls.now i past))

  pub no_output : (j : ℕ) (b : Bool) → [] ≡ output_of net x i j b
  no_output j b = sym (ap (λ o. option_map_or (output_by net x i j b) o []) (slice_get_past x.calls.now i past))

-- an instance that is seen so
module _ (net : Network) (x : Scene) (i : ℕ) (c : CallScene) (at : slice_get x.calls.now i ≡ Some c) (args : List Actual)
    (stands : slice_get net.steps c.step ≡ Some (calls i args)) (cs : Conditions) (is : cs ≡ conditions_in net x c.step i args c) where
  same : cs ≡ seen_in net x i c
  same = is ∙ sym (seen_is net x i c args stands)

  here : state_reasons (kind_at net i) i c cs ≡ state_of net x i
  here =
      ap (state_reasons (kind_at net i) i c) same
      ∙ sym (ap (λ o. option_map_or (λ c. state_reasons (kind_at net i) i c (seen_in net x i c)) o []) at)

  abbrev guarding : List Fact
  guarding = guards_are c.step cs (tried cs c.from (ways_of (kind_at net i)))

  abbrev since_active : List Fact
  since_active = StateWas i c.from ∷ (if c.from == 0 then [] else guarding)

  pub state_idle : cs.pin 0 ≡ false → PinIs c.step 0 (cs.pin 0) ∷ [] ≡ state_of net x i
  state_idle off = sym (ap (λ l. PinIs c.step 0 (cs.pin 0) ∷ l) (cond-false (cs.pin 0) since_active [] off)) ∙ here

  pub state_entered : cs.pin 0 ≡ true → (c.from == 0) ≡ true → PinIs c.step 0 (cs.pin 0) ∷ StateWas i c.from ∷ [] ≡ state_of net x i
  state_entered on idle =
      sym (ap (λ l. PinIs c.step 0 (cs.pin 0) ∷ l) (cond-true (cs.pin 0) since_active [] on ∙ ap (λ l. StateWas i c.from ∷ l) (cond-true (c.from == 0) [] guarding idle)))
      ∙ here

  pub state_guarded : cs.pin 0 ≡ true → (c.from == 0) ≡ false → PinIs c.step 0 (cs.pin 0) ∷ StateWas i c.from ∷ guarding ≡ state_of net x i
  state_guarded on busy =
      sym (ap (λ l. PinIs c.step 0 (cs.pin 0) ∷ l) (cond-true (cs.pin 0) since_active [] on ∙ ap (λ l. StateWas i c.from ∷ l) (cond-false (c.from == 0) [] guarding busy)))
      ∙ here

  pub mode_anew : c.from ≡ 0x8005 → StateWas i c.from ∷ StateIs i c.code ∷ mode_pins c.step cs.pin ≡ mode_of net x i
  mode_anew anew =
      ap (λ l. StateWas i c.from ∷ StateIs i c.code ∷ l) (sym (cond-true (c.from == 0x8005) (mode_pins c.step cs.pin) (ModeWas i c.last.mode ∷ []) (eq-eqb c.from 0x8005 anew)))
      ∙ ap (λ (y : Conditions). mode_reasons i c y.pin) same
      ∙ sym (ap (λ o. option_map_or (λ c. mode_reasons i c (seen_in net x i c).pin) o []) at)

  pub output_told : (j : ℕ) (b : Bool) → or_else (lacked c.step cs.pin (kind_at net i) j b) (shown (kind_at net i) i c) ≡ output_of net x i j b
  output_told j b =
      ap (λ (y : Conditions). or_else (lacked c.step y.pin (kind_at net i) j b) (shown (kind_at net i) i c)) same
      ∙ sym (ap (λ o. option_map_or (output_by net x i j b) o []) at)

pub mode_old : (net : Network) (x : Scene) (i : ℕ) (c : CallScene) → slice_get x.calls.now i ≡ Some c → c.from ≢ 0x8005 →
    StateWas i c.from ∷ StateIs i c.code ∷ ModeWas i c.last.mode ∷ [] ≡ mode_of net x i
mode_old net x i c at old =
    ap (λ l. StateWas i c.from ∷ StateIs i c.code ∷ l)
    (sym (cond-false (c.from == 0x8005) (mode_pins c.step (seen_in net x i c).pin) (ModeWas i c.last.mode ∷ []) (ne_eqb c.from 0x8005 old)))
    ∙ sym (ap (λ o. option_map_or (λ c. mode_reasons i c (seen_in net x i c).pin) o []) at)

-- a signal
module _ (net : Network) (x : Scene) (s : ℕ) (b : Bool) where
  pub of_input : s < input_count net → [] ≡ reasons_of net x (SignalIs s b)
  of_input below = sym (cond-true (nat_lt s (input_count net)) [] (driven_by net x b (driver net s)) (lt-ltb s (input_count net) below))

  pub of_driver : input_count net ≤ s → (d : Option Driver) → d ≡ driver net s → driven_by net x b d ≡ reasons_of net x (SignalIs s b)
  of_driver above d is =
      ap (driven_by net x b) is ∙ sym (cond-false (nat_lt s (input_count net)) [] (driven_by net x b (driver net s)) (le-ltb s (input_count net) above))
