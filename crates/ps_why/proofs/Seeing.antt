-- What the guards see in a call.
use Rattle.std.proofs.Common.{◌≡◌, ◌≢◌, ◌⊎◌, ℕ, ◌+◌, ◌<◌, ◌≤◌, ◌^◌, Bool, false, List, refl, sym, ap, ◌∙◌, inl, inr, ◌&&◌}
use Rattle.std.specs.Prelude.{Some, nat_le, slice_get, ◌==◌}
use Rattle.std.proofs.lemmas.Bool.{cases_lt, lt-ltb, le-ltb}
use Rattle.std.proofs.lemmas.Nat.Bits.{bit_at_above}
use mathlib.Core.Path.{fun_ext}
use Rattle.ps_model.specs.Action.{Actual, calls}
use Rattle.ps_model.specs.Kept.{Kept, seen}
use Rattle.ps_model.specs.Network.{Network, kind_at}
use Rattle.ps_model.specs.PinBits.{pin_of}
use Rattle.ps_model.specs.Scanning.{State, block_in, limit_of}
use Rattle.ps_model.specs.Table.{Conditions}
use Rattle.ps_model.specs.declared.kind.Kind.{Kind}
use Rattle.ps_ways.specs.Stepping.{conditions_of, pins_of}
use Rattle.ps_ways.specs.declared.step.StepConditions.{StepConditions}
use Rattle.ps_ways.specs.Calling.{seen_by}
use Rattle.ps_why.specs.Facts.{IsSo}
use Rattle.ps_why.specs.declared.fact.Fact.TheVariants.{AskIs}
use Rattle.ps_ways.specs.Ways.{asks}
use Rattle.ps_ways.specs.declared.way.Ask.{Ask}
use Rattle.ps_ways.specs.declared.way.Ask.TheVariants.{Pin, Edge, Held, Rise, Elapsed, NoMode, OneMode}
use Rattle.ps_ways.specs.declared.way.Ask.TheVariants.{ManyModes, LatchedMode}
use Rattle.ps_why.specs.Asking.{last_kept}
use Rattle.ps_why.specs.Scenes.{IsCallOf, IsSceneOf, conditions_in, kept_in, pins_in}
use Rattle.ps_why.specs.declared.call.CallScene.{CallScene}
use Rattle.ps_why.specs.declared.scene.Scene.{Scene}
use Rattle.ps_why.proofs.So.{one_call, pins_are}

-- pins of a word of 32 bits
pub same_pins : (bits : ℕ) → bits < 2 ^ 32 → pins_of bits ≡ pin_of bits
same_pins bits fits = λ i j. at j (cases_lt j 32) i
  where
    at : (j : ℕ) → (j < 32) ⊎ (32 ≤ j) → pins_of bits j ≡ pin_of bits j
    at j (inl p) = ap (λ b. b && pin_of bits j) (lt-ltb j 32 p)
    at j (inr p) = ap (λ b. b && pin_of bits j) (le-ltb j 32 p) ∙ ap (λ n. n == 1) (sym (bit_at_above bits 32 j fits p))

-- only one thing that a guard can ask is of the limit
any_elapsed : (a : Ask) → a ≢ Elapsed → (kind : Kind) (pins : ℕ → Bool) (e e' : Bool) (k : Kept) → asks a (seen kind pins e k) ≡ asks a (seen kind pins e' k)
any_elapsed (Pin j) other kind pins e e' k = refl
any_elapsed Edge other kind pins e e' k = refl
any_elapsed Held other kind pins e e' k = refl
any_elapsed Rise other kind pins e e' k = refl
any_elapsed Elapsed other kind pins e e' k = absurd (other refl)
any_elapsed NoMode other kind pins e e' k = refl
any_elapsed OneMode other kind pins e e' k = refl
any_elapsed ManyModes other kind pins e e' k = refl
any_elapsed LatchedMode other kind pins e e' k = refl

pub is_limit : (a : Ask) → (a ≡ Elapsed) ⊎ (a ≢ Elapsed)
is_limit (Pin j) = inr (λ e. cc)
is_limit Edge = inr (λ e. cc)
is_limit Held = inr (λ e. cc)
is_limit Rise = inr (λ e. cc)
is_limit Elapsed = inl refl
is_limit NoMode = inr (λ e. cc)
is_limit OneMode = inr (λ e. cc)
is_limit ManyModes = inr (λ e. cc)
is_limit LatchedMode = inr (λ e. cc)

-- The conditions of these pins are those of the call.
pub conditions_are : (net : Network) (x : Scene) (k i : ℕ) (args : List Actual) (c : CallScene) (bits : ℕ) (s : StepConditions) → bits < 2 ^ 32 →
    conditions_of s ≡ seen (kind_at net i) (pins_of bits) c.elapsed (kept_in c) →
    ((j : ℕ) → pin_of bits j ≡ pins_in net x k i args j) → conditions_of s ≡ conditions_in net x k i args c
conditions_are net x k i args c bits s fits is pins =
    is ∙ ap (λ p. seen (kind_at net i) p c.elapsed (kept_in c)) (same_pins bits fits ∙ fun_ext pins)

-- what is seen in a call is as it says of itself
pub seen_in_call : (kind : Kind) (pins : ℕ → Bool) (c : CallScene) (cs : Conditions) → cs ≡ seen kind pins c.elapsed (kept_in c) →
    cs ≡ seen kind cs.pin cs.elapsed (last_kept c.last)
seen_in_call kind pins c cs is = is ∙ ap (λ (y : Conditions). seen kind y.pin y.elapsed (last_kept c.last)) (sym is)

module _ (net : Network) (x : Scene) (old : State) (since : ℕ) (new : State) (scene : IsSceneOf net old since new x)
    (i : ℕ) (c : CallScene) (at : slice_get x.calls.now i ≡ Some c) (k : ℕ) (args : List Actual) (stands : slice_get net.steps k ≡ Some (calls i args)) where
  here : IsCallOf net old since new i c
  here = scene.calls i c at

  -- whether the limit has elapsed
  abbrev pub elapsed_there : Bool
  elapsed_there = nat_le (limit_of (kind_at net i) args) ((block_in old i).age + since)

  -- what is seen in the call
  pub seen_there : seen (kind_at net i) (pins_in net x k i args) elapsed_there (kept_in c) ≡ seen_by net old since new k i args
  unfolding here
  seen_there = λ t. seen (kind_at net i) (pins_are net x old since new scene k i args t) elapsed_there (record {
    code = sym here.from t;
    last_reset = sym here.reset t;
    last_auxiliary = sym here.auxiliary t;
    mode = sym here.mode_before t;
    timer = 0;
  })

  -- where the limit is seen as it is
  pub seen_is : elapsed_there ≡ c.elapsed → conditions_in net x k i args c ≡ seen_by net old since new k i args
  seen_is elapsed = ap (λ e. seen (kind_at net i) (pins_in net x k i args) e (kept_in c)) (sym elapsed) ∙ seen_there

  -- of what is asked but the limit
  pub ask_is : (a : Ask) → a ≢ Elapsed → asks a (conditions_in net x k i args c) ≡ asks a (seen_by net old since new k i args)
  ask_is a other = any_elapsed a other (kind_at net i) (pins_in net x k i args) c.elapsed elapsed_there (kept_in c) ∙ ap (asks a) seen_there

  -- what a guard asks is so as it is told
  pub ask_so : (a : Ask) (b : Bool) → asks a (seen_by net old since new k i args) ≡ b → IsSo net old since new (AskIs k a b)
  ask_so a b h i' args' there =
      one_call net (λ i args. asks a (seen_by net old since new k i args)) false k i i' args args' stands there ∙ h

-- what stands past the calls
abbrev pub no_call : CallScene
no_call = record { step = 0; from = 0; last = record { reset = false; auxiliary = false; mode = 0 }; elapsed = false; code = 0; mode = 0 }
