-- An application breaks the rules S first at one step and pin, by one rule, and where it does it is not accepted.
use Rattle.std.proofs.Common.{◌≡◌, ◌∙◌, ℕ, Option, Some, None, refl, sym, ap, subst, inl, inr, ⊎_elim, arith}
use Rattle.std.specs.Prelude.{slice_get, slice_index_or}
use Rattle.std.proofs.lemmas.Bool.{false≢true, cases_lt}
use Rattle.std.proofs.lemmas.Option.{same_Some}
use Rattle.ps_base.specs.declared.failing.Rule.{Rule}
use Rattle.ps_model.specs.declared.kind.Ty.{Ty}
use Rattle.ps_model.specs.declared.kind.Ty.TheVariants.{Safe, Time}
use Rattle.ps_model.specs.Action.{Action, Actual, free, literal, time, wired, assigns, calls}
use Rattle.ps_model.specs.Network.{Network, kind_at}
use Rattle.ps_model.specs.Scanning.{pin_at}
use Rattle.ps_model.specs.Typing.{Accepted, MayStand}
use Rattle.ps_flow.specs.Refusals.{BreaksAt, BreaksStep, FitsStep, IsFirstBreach}

-- ---- what breaks a rule does not fit
breaks_or_stands : (net : Network) (ty : Ty) (a : Actual) (rule : Rule) → BreaksAt net ty a rule → MayStand net ty a → ⊥
breaks_or_stands net ty free rule b m = b
breaks_or_stands net ty (literal v) rule b m = m b.1
breaks_or_stands net ty (time t) rule b m = b.1 m
breaks_or_stands net ty (wired e) rule (inl b) m = false≢true (sym b.1.1 ∙ m.1 b.1.0)
breaks_or_stands net ty (wired e) rule (inr b) m = m.0 b.1

breaks_or_fits : (net : Network) (a : Action) (rule : Rule) (pin : Option ℕ) → BreaksStep net a rule pin → FitsStep net a → ⊥
breaks_or_fits net (assigns t e) rule None b f = false≢true (sym b.2 ∙ f b.1)
breaks_or_fits net (assigns t e) rule (Some j) b f = b
breaks_or_fits net (calls i args) rule None b f = b
breaks_or_fits net (calls i args) rule (Some j) b f = breaks_or_stands net (pin_at (kind_at net i) j).ty (slice_index_or args j free) rule b.1 (f j b.0)

pub accepted_fits : (net : Network) → Accepted net → (k : ℕ) (a : Action) → slice_get net.steps k ≡ Some a → FitsStep net a
accepted_fits net ok k (assigns t e) at = ok.assigned k t e at
accepted_fits net ok k (calls i args) at = λ j inside. ok.at_pins k i j args at inside

pub not_accepted : (net : Network) (rule : Rule) (step : ℕ) (pin : Option ℕ) → IsFirstBreach net rule step pin → Accepted net → ⊥
not_accepted net rule step pin first ok = breaks_or_fits net first.action rule pin first.breaks (accepted_fits net ok step first.action first.here)

-- ---- one rule, one step, one pin
safe_is_not_time : (ty : Ty) → ty ≡ Safe → ty ≡ Time → ⊥
safe_is_not_time ty a b = let e : Safe ≡ Time = sym a ∙ b in cc

one_rule_at_pin : (net : Network) (ty : Ty) (a : Actual) (r q : Rule) → BreaksAt net ty a r → BreaksAt net ty a q → r ≡ q
one_rule_at_pin net ty free r q x y = absurd x
one_rule_at_pin net ty (literal v) r q x y = x.0 ∙ sym y.0
one_rule_at_pin net ty (time t) r q x y = x.0 ∙ sym y.0
one_rule_at_pin net ty (wired e) r q (inl x) (inl y) = x.0 ∙ sym y.0
one_rule_at_pin net ty (wired e) r q (inl x) (inr y) = absurd (safe_is_not_time ty x.1.0 y.1)
one_rule_at_pin net ty (wired e) r q (inr x) (inl y) = absurd (safe_is_not_time ty y.1.0 x.1)
one_rule_at_pin net ty (wired e) r q (inr x) (inr y) = x.0 ∙ sym y.0

one_breach_in_step : (net : Network) (a : Action) (r q : Rule) (pin other : Option ℕ) → BreaksStep net a r pin → BreaksStep net a q other → (r ≡ q) × (pin ≡ other)
one_breach_in_step net (assigns t e) r q None None x y = (x.0 ∙ sym y.0, refl)
one_breach_in_step net (assigns t e) r q None (Some j) x y = absurd y
one_breach_in_step net (assigns t e) r q (Some j) other x y = absurd x
one_breach_in_step net (calls i args) r q None other x y = absurd x
one_breach_in_step net (calls i args) r q (Some j) None x y = absurd y
one_breach_in_step net (calls i args) r q (Some j) (Some k) x y =
    ⊎_elim (λ lt. absurd (breaks_or_stands net (pin_at (kind_at net i) j).ty (slice_index_or args j free) r x.1 (y.2 j lt)))
    (λ le. ⊎_elim (λ gt. absurd (breaks_or_stands net (pin_at (kind_at net i) k).ty (slice_index_or args k free) q y.1 (x.2 k gt)))
    (λ ge.
    let same : k ≡ j = omega arith in (
      one_rule_at_pin net (pin_at (kind_at net i) j).ty (slice_index_or args j free) r q x.1
          (subst (λ n. BreaksAt net (pin_at (kind_at net i) n).ty (slice_index_or args n free) q) same y.1),
      ap Some (sym same),
    ))
    (cases_lt k j))
    (cases_lt j k)

pub one_first_breach : (net : Network) (r q : Rule) (k m : ℕ) (pin other : Option ℕ) → IsFirstBreach net r k pin → IsFirstBreach net q m other → (r ≡ q) × (k ≡ m) × (pin ≡ other)
one_first_breach net r q k m pin other x y =
    ⊎_elim (λ lt. absurd (breaks_or_fits net x.action r pin x.breaks (y.earlier k x.action lt x.here)))
    (λ le. ⊎_elim (λ gt. absurd (breaks_or_fits net y.action q other y.breaks (x.earlier m y.action gt y.here)))
    (λ ge.
    let same : m ≡ k = omega arith in
    let action : y.action ≡ x.action = same_Some y.action x.action (sym y.here ∙ ap (slice_get net.steps) same ∙ x.here) in
    let one = one_breach_in_step net x.action r q pin other x.breaks (subst (λ (a : Action). BreaksStep net a q other) action y.breaks) in
    (one.0, sym same, one.1))
    (cases_lt m k))
    (cases_lt k m)
