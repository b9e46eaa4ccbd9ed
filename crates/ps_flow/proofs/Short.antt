-- A derivation has no more lines than its value has nodes.
use Rattle.std.proofs.Common.{◌≡◌, ℕ, ◌+◌, ◌≤◌, List, [], ◌∷◌, length, ap, arith, length-append, ⊎_elim}
use Rattle.std.proofs.lemmas.Bool.{cases_Bool, cond-true, cond-false}
use Rattle.ps_model.specs.Formula.{Formula, Formulas, signal, all_of, any_of, no_operand, operand}
use Rattle.std.specs.List.{flat_map}
use Rattle.ps_model.specs.declared.kind.Ty.{Ty}
use Rattle.ps_model.specs.declared.kind.Ty.TheVariants.{Safe, Bool as Plain, Time}
use Rattle.ps_model.specs.Action.{Action, Actual, free, literal, time, wired, assigns, calls}
use Rattle.ps_model.specs.Blocks.{Pin, block}
use Rattle.ps_model.specs.Obligations.{obligation_at, obligations_at_pins, obligations_of_step}
use Rattle.ps_flow.proofs.Walk.{derivations-append}
use Rattle.ps_model.specs.Network.{Network, kind_at}
use Rattle.ps_model.specs.Typing.{safe, is_safe_signal}
use Rattle.ps_model.specs.Nodes.{nodes, nodes_below, nodes_at_pin, nodes_of_step}
use Rattle.ps_flow.specs.Derivation.{derivation, derivations, of_first_safe, of_each, last_lines, line}
use Rattle.ps_flow.specs.declared.certificate.LineRule.TheVariants.{And, Or}

module _ (net : Network) where
  mutual
    pub short : (b n : ℕ) (e : Formula) → length (derivation net b n e) ≤ length (nodes e)
    short b n (signal s) = omega arith
    short b n (all_of es) =
        omega (arith, short_first b (n + 1) es, length-append (of_first_safe net b (n + 1) es) (line n And ((b + length (of_first_safe net b (n + 1) es)) ∷ []) ∷ []))
    short b n (any_of es) =
        omega (arith, short_each b (n + 1) es, length-append (of_each net b (n + 1) es) (line n Or (last_lines net b (n + 1) es) ∷ []))

    pub short_first : (b n : ℕ) (es : Formulas) → length (of_first_safe net b n es) ≤ length (nodes_below es)
    short_first b n no_operand = omega arith
    short_first b n (operand e es) =
        ⊎_elim
        (λ y. rw (cond-true (safe net e) (derivation net b n e) (of_first_safe net b (n + length (nodes e)) es) y) (omega (arith, short b n e, length-append (nodes e) (nodes_below es))))
        (λ y. rw (cond-false (safe net e) (derivation net b n e) (of_first_safe net b (n + length (nodes e)) es) y)
        (omega (arith, short_first b (n + length (nodes e)) es, length-append (nodes e) (nodes_below es))))
        (cases_Bool (safe net e))

    pub short_each : (b n : ℕ) (es : Formulas) → length (of_each net b n es) ≤ length (nodes_below es)
    short_each b n no_operand = omega arith
    short_each b n (operand e es) =
        omega (
          arith,
          short b n e,
          short_each (b + length (derivation net b n e)) (n + length (nodes e)) es,
          length-append (nodes e) (nodes_below es),
          length-append (derivation net b n e) (of_each net (b + length (derivation net b n e)) (n + length (nodes e)) es),
        )

  pub short_at_pin : (b n : ℕ) (ty : Ty) (a : Actual) → length (derivations net b (obligation_at n ty a)) ≤ length (nodes_at_pin a)
  short_at_pin b n Safe (wired e) = omega (arith, short b n e, length-append (derivation net b n e) [])
  short_at_pin b n Plain (wired e) = omega arith
  short_at_pin b n Time (wired e) = omega arith
  short_at_pin b n Safe free = omega arith
  short_at_pin b n Plain free = omega arith
  short_at_pin b n Time free = omega arith
  short_at_pin b n Safe (literal v) = omega arith
  short_at_pin b n Plain (literal v) = omega arith
  short_at_pin b n Time (literal v) = omega arith
  short_at_pin b n Safe (time t) = omega arith
  short_at_pin b n Plain (time t) = omega arith
  short_at_pin b n Time (time t) = omega arith

  pub short_at_pins : (b n : ℕ) (pins : List Pin) (args : List Actual) → length (derivations net b (obligations_at_pins n pins args)) ≤ length (flat_map nodes_at_pin args)
  short_at_pins b n [] args = omega arith
  short_at_pins b n (p ∷ pins) [] = omega arith
  short_at_pins b n (p ∷ pins) (a ∷ args) =
      let first = derivations net b (obligation_at n p.ty a) in
      let more = derivations net (b + length first) (obligations_at_pins (n + length (nodes_at_pin a)) pins args) in
      omega (
        arith,
        short_at_pin b n p.ty a,
        short_at_pins (b + length first) (n + length (nodes_at_pin a)) pins args,
        length-append first more,
        length-append (nodes_at_pin a) (flat_map nodes_at_pin args),
        ap length (derivations-append net b (obligation_at n p.ty a) (obligations_at_pins (n + length (nodes_at_pin a)) pins args)),
      )

  pub short_of_step : (b n : ℕ) (a : Action) → length (derivations net b (obligations_of_step net n a)) ≤ length (nodes_of_step a)
  short_of_step b n (assigns t e) =
      ⊎_elim
      (λ y. ap_le (λ os. length (derivations net b os)) _ _ (cond-true (is_safe_signal net t) (record { node = n; value = e } ∷ []) [] y)
      (omega (arith, short b n e, length-append (derivation net b n e) [])))
      (λ y. ap_le (λ os. length (derivations net b os)) _ _ (cond-false (is_safe_signal net t) (record { node = n; value = e } ∷ []) [] y) (omega arith))
      (cases_Bool (is_safe_signal net t))
    where
      ap_le : {X : Type 0} (f : X → ℕ) (x y : X) → x ≡ y → {m : ℕ} → f y ≤ m → f x ≤ m
      ap_le f x y e {m} h = let same : f x ≡ f y = ap f e in omega arith
  short_of_step b n (calls i args) = short_at_pins b n (block (kind_at net i)).inputs args
