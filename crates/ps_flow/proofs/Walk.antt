-- One more element of a list that is walked through.
use Rattle.std.proofs.Common.{◌≡◌, ℕ, suc, zero, ◌+◌, ◌<◌, List, [], ◌∷◌, ◌++◌, length, drop, Some, sym, ap, ◌∙◌, subst, arith, append_assoc, length-append}
use Rattle.std.specs.Prelude.{slice_get, slice_index_or, All}
use Rattle.std.specs.List.{flat_map}
use Rattle.std.proofs.lemmas.List.{get_or_append_left, get_or-append-add}
use Rattle.std.proofs.Math.Seq.{drop-cons}
use Rattle.ps_model.specs.Network.{Network}
use Rattle.ps_model.specs.Action.{Action, Actual}
use Rattle.ps_model.specs.Blocks.{Pin}
use Rattle.ps_model.specs.declared.kind.Ty.{Ty}
use Rattle.ps_model.specs.Typing.{MayStand}
use Rattle.ps_model.specs.Nodes.{nodes_at_pin, nodes_of_step}
use Rattle.ps_model.specs.Obligations.{Obligation, obligation_at, obligations_at_pins, obligations_of_step, obligations_from}
use Rattle.ps_flow.specs.Refusals.{PinFails, BreaksAt}
use Rattle.ps_base.specs.declared.failing.Rule.{Rule}
use Rattle.ps_flow.specs.declared.refusal.PinFail.{PinFail}
use Rattle.ps_flow.specs.declared.refusal.PinFail.TheVariants.{Breaks}
use Rattle.ps_flow.specs.Derivation.{derivation, derivations}
use Rattle.ps_flow.specs.declared.certificate.CertLine.{CertLine}

pub rest_found : {X : Type 0} (xs : List X) (k : ℕ) (x : X) → slice_get xs k ≡ Some x → drop k xs ≡ x ∷ drop (k + 1) xs
rest_found xs k x at = let next : k + 1 ≡ suc k = omega arith in from xs k x at ∙ ap (λ n. x ∷ drop n xs) (sym next)
  where
    from : {X : Type 0} (xs : List X) (k : ℕ) (x : X) → slice_get xs k ≡ Some x → drop k xs ≡ x ∷ drop (suc k) xs
    from [] k x at = cc
    from (y ∷ xs) zero x at = let e : y ≡ x = cc in ap (λ z. z ∷ xs) e
    from (y ∷ xs) (suc k) x at = from xs k x at

pub found_or : {X : Type 0} (xs : List X) (k : ℕ) (x d : X) → slice_get xs k ≡ Some x → slice_index_or xs k d ≡ x
found_or [] k x d at = cc
found_or (y ∷ xs) zero x d at = cc
found_or (y ∷ xs) (suc k) x d at = found_or xs k x d at

module _ (net : Network) where
  pub derivations-append : (before : ℕ) (os ps : List Obligation) →
      derivations net before (os ++ ps) ≡ derivations net before os ++ derivations net (before + length (derivations net before os)) ps
  derivations-append before [] ps = let e : before + 0 ≡ before = omega arith in ap (λ n. derivations net n ps) (sym e)
  derivations-append before (o ∷ os) ps =
      let d = derivation net before o.node o.value in
      let more : before + length (d ++ derivations net (before + length d) os) ≡ before + length d + length (derivations net (before + length d) os) =
      omega (arith, length-append d (derivations net (before + length d) os)) in
      ap (λ z. d ++ z) (derivations-append (before + length d) os ps)
      ∙ sym (append_assoc d (derivations net (before + length d) os) (derivations net (before + length d + length (derivations net (before + length d) os)) ps))
      ∙ ap (λ n. (d ++ derivations net (before + length d) os) ++ derivations net n ps) (sym more)

  -- what was written, and what is still to be written
  pub written : (old lines : List CertLine) (os ps : List Obligation) → lines ≡ old ++ derivations net (length old) os →
      old ++ derivations net (length old) (os ++ ps) ≡ lines ++ derivations net (length lines) ps
  written old lines os ps e =
      let count : length lines ≡ length old + length (derivations net (length old) os) = ap length e ∙ length-append old (derivations net (length old) os) in
      ap (λ z. old ++ z) (derivations-append (length old) os ps)
      ∙ sym (append_assoc old (derivations net (length old) os) (derivations net (length old + length (derivations net (length old) os)) ps))
      ∙ ap (λ z. z ++ derivations net (length old + length (derivations net (length old) os)) ps) (sym e)
      ∙ ap (λ n. lines ++ derivations net n ps) (sym count)

  pub pins_step : (cert new : List CertLine) (after next : ℕ) (ty : Ty) (p : Pin) (pins more_pins : List Pin) (a : Actual) (args more : List Actual) →
      pins ≡ p ∷ more_pins → args ≡ a ∷ more → ty ≡ p.ty → next ≡ after + length (nodes_at_pin a) →
      new ≡ cert ++ derivations net (length cert) (obligation_at after ty a) →
      new ++ derivations net (length new) (obligations_at_pins next more_pins more) ≡ cert ++ derivations net (length cert) (obligations_at_pins after pins args)
  pins_step cert new after next ty p pins more_pins a args more is_pins is_args is_ty is_next is_new =
      ap (λ n. new ++ derivations net (length new) (obligations_at_pins n more_pins more)) is_next
      ∙ sym (written cert new (obligation_at after ty a) (obligations_at_pins (after + length (nodes_at_pin a)) more_pins more) is_new)
      ∙ ap (λ y. cert ++ derivations net (length cert) (obligation_at after y a ++ obligations_at_pins (after + length (nodes_at_pin a)) more_pins more)) is_ty
      ∙ ap (λ z. cert ++ derivations net (length cert) (obligations_at_pins after z (a ∷ more))) (sym is_pins)
      ∙ ap (λ z. cert ++ derivations net (length cert) (obligations_at_pins after pins z)) (sym is_args)

  pub steps_step : (cert new : List CertLine) (after next : ℕ) (a : Action) (steps more : List Action) →
      steps ≡ a ∷ more → next ≡ after + length (nodes_of_step a) →
      new ≡ cert ++ derivations net (length cert) (obligations_of_step net after a) →
      new ++ derivations net (length new) (obligations_from net next more) ≡ cert ++ derivations net (length cert) (obligations_from net after steps)
  steps_step cert new after next a steps more is_steps is_next is_new =
      ap (λ n. new ++ derivations net (length new) (obligations_from net n more)) is_next
      ∙ sym (written cert new (obligations_of_step net after a) (obligations_from net (after + length (nodes_of_step a)) more) is_new)
      ∙ ap (λ z. cert ++ derivations net (length cert) (obligations_from net after z)) (sym is_steps)

  pub stands_moved : (ty other : Ty) (a b : Actual) → ty ≡ other → b ≡ a → MayStand net ty a → MayStand net other b
  stands_moved ty other a b is same h = subst (λ y. MayStand net y b) is (subst (λ x. MayStand net ty x) (sym same) h)

  pub breaks_moved : (ty other : Ty) (a b : Actual) (f : PinFail) (rule : Rule) → ty ≡ other → b ≡ a → f ≡ Breaks rule → PinFails net ty a f → BreaksAt net other b rule
  breaks_moved ty other a b f rule is same was h =
      subst (λ y. BreaksAt net y b rule) is (subst (λ x. BreaksAt net ty x rule) (sym same) (subst (λ z. PinFails net ty a z) was h))

pub found_below : {X : Type 0} (xs : List X) (k : ℕ) (x : X) → slice_get xs k ≡ Some x → k < length xs
found_below [] k x at = cc
found_below (y ∷ xs) zero x at = omega arith
found_below (y ∷ xs) (suc k) x at = let h : k < length xs = found_below xs k x at in omega arith

pub found_same : {X : Type 0} (xs : List X) (k : ℕ) (x y : X) → slice_get xs k ≡ Some x → slice_get xs k ≡ Some y → x ≡ y
found_same xs k x y at there = cc

pub rest_or : {X : Type 0} (xs : List X) (k : ℕ) (d : X) → k < length xs → drop k xs ≡ slice_index_or xs k d ∷ drop (k + 1) xs
rest_or xs k d h =
    let next : k + 1 ≡ suc k = omega arith in
    drop-cons xs k d h ∙ ap (λ n. slice_index_or xs k d ∷ drop n xs) (sym next)

-- ---- what holds of all parts holds of one
pub all_before : {Y : Type 0} (P : Y → Type 0) (xs ys : List Y) → All P (xs ++ ys) → All P xs
all_before P xs ys all = λ k d h. subst P (get_or_append_left xs ys d k h) (all k d (let long = length-append xs ys in omega arith))

pub all_after : {Y : Type 0} (P : Y → Type 0) (xs ys : List Y) → All P (xs ++ ys) → All P ys
all_after P xs ys all = λ k d h. subst P (get_or-append-add xs ys k d) (all (length xs + k) d (let long = length-append xs ys in omega arith))

pub part_of : {X Y : Type 0} (P : Y → Type 0) (f : X → List Y) (xs : List X) (k : ℕ) (x : X) → All P (flat_map f xs) → slice_get xs k ≡ Some x → All P (f x)
part_of P f [] k x all at = cc
part_of P f (y ∷ xs) zero x all at = let e : y ≡ x = cc in subst (λ z. All P (f z)) e (all_before P (f y) (flat_map f xs) all)
part_of P f (y ∷ xs) (suc k) x all at = part_of P f xs k x (all_after P (f y) (flat_map f xs) all) at
