-- What is told of a call settles what its guards ask.
use Rattle.std.proofs.Common.{◌≡◌, ℕ, ◌+◌, ◌<◌, ◌≤◌, Bool, true, false, List, refl, sym, ap, ◌∙◌, inl, inr, arith, ◌&&◌}
use Rattle.std.specs.Prelude.{Contains, Option, Some, None, ◌==◌, cond, not, nat_le}
use Rattle.std.proofs.lemmas.Bool.{cases_Bool, false≢true}
use Rattle.ps_model.specs.Blocks.{at_pin, block, exactly_on, modes_on}
use Rattle.ps_model.specs.Kept.{Kept, seen}
use Rattle.ps_model.specs.Network.{Network}
use Rattle.ps_model.specs.Table.{Conditions}
use Rattle.ps_ways.specs.Ways.{asks}
use Rattle.ps_ways.specs.declared.way.Ask.{Ask}
use Rattle.ps_ways.specs.declared.way.Ask.TheVariants.{Pin, Edge, Held, Rise, Elapsed, NoMode, OneMode}
use Rattle.ps_ways.specs.declared.way.Ask.TheVariants.{ManyModes, LatchedMode}
use Rattle.ps_why.specs.Grounds.{MayBe}
use Rattle.ps_why.specs.declared.fact.Fact.{Fact}
use Rattle.ps_why.specs.declared.fact.Fact.TheVariants.{PinIs, ResetWas, AuxiliaryWas, ModeWas}
use Rattle.ps_why.specs.Asking.{IsSeenIn, IsSettledBy, TellsLast, last_kept}
use Rattle.ps_why.specs.Telling.{TellsModes}
use Rattle.ps_why.specs.declared.asks.Call.{Call}

-- two Booleans with a common first part
both_off : (a b c : Bool) → a ≡ false → (a && b) ≡ (a && c)
both_off true b c h = absurd (false≢true (sym h))
both_off false b c h = refl

-- a pin that a kind may lack, with what it was in the last step
module _ (told : Fact → Type 0) (k : ℕ) (pins pins' : ℕ → Bool) (agree : (j : ℕ) (b : Bool) → told (PinIs k j b) → pins' j ≡ b) where
  at_pin_same : (pin : Option ℕ) (was : Fact) → TellsLast told k pins pin was → at_pin pin pins' ≡ at_pin pin pins
  at_pin_same None was h = refl
  at_pin_same (Some j) was h = agree j (pins j) h.0

  -- a function of the last value gives the same with it
  pub last_same : (pin : Option ℕ) (was : Fact) (f : Bool → Bool) (b b' : Bool) → TellsLast told k pins pin was → (told was → b' ≡ b) →
      (at_pin pin pins' && f b') ≡ (at_pin pin pins && f b)
  last_same None was f b b' h is = refl
  last_same (Some j) was f b b' h is =
      ap (λ p. p && f b') (agree j (pins j) h.0)
      ∙ elim (cases_Bool (pins j)) [
        | inl on ↦ ap (λ x. pins j && f x) (is (h.1 on))
        | inr off ↦ both_off (pins j) (f b') (f b) off
      ]

abbrev one : Bool → ℕ
one b = cond b 1 0

-- as many modes are TRUE
modes_same : (pins pins' : ℕ → Bool) → ((m : ℕ) → m < 8 → pins' (m + 1) ≡ pins (m + 1)) → modes_on pins' ≡ modes_on pins
modes_same pins pins' same = λ i.
    0 + one (same 0 (omega arith) i) + one (same 1 (omega arith) i) + one (same 2 (omega arith) i) + one (same 3 (omega arith) i)
    + one (same 4 (omega arith) i) + one (same 5 (omega arith) i) + one (same 6 (omega arith) i) + one (same 7 (omega arith) i)

module _ (call : Call) (c : Conditions) (is : IsSeenIn call c) (told : Fact → Type 0) where
  -- what is asked, by what the conditions are made of
  asked_is : (a : Ask) → asks a c ≡ asks a (seen call.kind c.pin c.elapsed (last_kept call.last))
  asked_is a = ap (asks a) is

  pub pin_settles : (j : ℕ) → told (PinIs call.step j (c.pin j)) → IsSettledBy call (Pin j) c told
  pin_settles j h not_limit net pins elapsed kept may = may.pins_agree j (c.pin j) h

  pub edge_settles : TellsLast told call.step c.pin (block call.kind).reset (ResetWas call.instance call.last.reset) → IsSettledBy call Edge c told
  edge_settles h not_limit net pins elapsed kept may =
      last_same told call.step c.pin pins may.pins_agree (block call.kind).reset (ResetWas call.instance call.last.reset) not call.last.reset kept.last_reset h
      (λ t. may.reset_agrees call.last.reset t)
      ∙ sym (asked_is Edge)

  pub held_settles : TellsLast told call.step c.pin (block call.kind).reset (ResetWas call.instance call.last.reset) → IsSettledBy call Held c told
  held_settles h not_limit net pins elapsed kept may =
      last_same told call.step c.pin pins may.pins_agree (block call.kind).reset (ResetWas call.instance call.last.reset) (λ b. b) call.last.reset kept.last_reset h
      (λ t. may.reset_agrees call.last.reset t)
      ∙ sym (asked_is Held)

  pub rise_settles : TellsLast told call.step c.pin (block call.kind).auxiliary (AuxiliaryWas call.instance call.last.auxiliary) → IsSettledBy call Rise c told
  rise_settles h not_limit net pins elapsed kept may =
      last_same told call.step c.pin pins may.pins_agree (block call.kind).auxiliary (AuxiliaryWas call.instance call.last.auxiliary) not call.last.auxiliary kept.last_auxiliary h
      (λ t. may.auxiliary_agrees call.last.auxiliary t)
      ∙ sym (asked_is Rise)

  pub limit_settles : IsSettledBy call Elapsed c told
  limit_settles not_limit net pins elapsed kept may = absurd (not_limit refl)

module _ (call : Call) (c : Conditions) (is : IsSeenIn call c) (facts : List Fact) (h : TellsModes call.step c.pin facts) where
  -- as many modes, wherever the pins are as they are told
  count_is : (net : Network) (pins : ℕ → Bool) (kept : Kept) → MayBe net (Contains facts) call.step call.instance pins kept → modes_on pins ≡ modes_on c.pin
  count_is net pins kept may = modes_same c.pin pins (λ m small. may.pins_agree (m + 1) (c.pin (m + 1)) (h m small))

  modes_is : c.modes ≡ modes_on c.pin
  modes_is = ap (λ (x : Conditions). x.modes) is

  pub no_mode_settles : IsSettledBy call NoMode c (Contains facts)
  no_mode_settles not_limit net pins elapsed kept may = ap (λ n. n == 0) (count_is net pins kept may ∙ sym modes_is)

  pub one_mode_settles : IsSettledBy call OneMode c (Contains facts)
  one_mode_settles not_limit net pins elapsed kept may = ap (λ n. n == 1) (count_is net pins kept may ∙ sym modes_is)

  pub many_modes_settles : IsSettledBy call ManyModes c (Contains facts)
  many_modes_settles not_limit net pins elapsed kept may = ap (λ n. nat_le 2 n) (count_is net pins kept may ∙ sym modes_is)

  pub latched_settles : call.last.mode ≤ 7 → Contains facts (ModeWas call.instance call.last.mode) → IsSettledBy call LatchedMode c (Contains facts)
  latched_settles few was not_limit net pins elapsed kept may =
      ap (exactly_on pins) (may.mode_agrees call.last.mode was)
      ∙ ap (λ n. n == 1 && pins (call.last.mode + 1)) (count_is net pins kept may)
      ∙ ap (λ b. modes_on c.pin == 1 && b) (may.pins_agree (call.last.mode + 1) (c.pin (call.last.mode + 1)) (h call.last.mode (omega (arith, few))))
      ∙ sym (ap (λ (x : Conditions). x.exact) is)
