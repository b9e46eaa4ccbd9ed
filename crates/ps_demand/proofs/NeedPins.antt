-- The pins of a block's formulas are input pins of its kind.
use Rattle.std.proofs.Common.{ℕ, zero, suc, ◌<◌, [], ◌∷◌, arith}
use Rattle.std.specs.Prelude.{All}
use Rattle.std.proofs.lemmas.List.Elements.{All-nil, All-cons}
use Rattle.ps_model.specs.declared.kind.Kind.{Kind}
use Rattle.ps_model.specs.declared.kind.Kind.TheVariants.{Equivalent, Antivalent, EmergencyStop, Espe, ModeSelector, TwoHandTwo, TwoHandThree, GuardMonitoring, GuardLocking, EnableSwitch, SafetyRequest, OutControl, Edm}
use Rattle.ps_model.specs.declared.demands.Need.{Need}
use Rattle.ps_model.specs.declared.demands.Need.TheVariants.{On, Off}
use Rattle.ps_model.specs.Blocks.{block}
use Rattle.ps_model.specs.Demand.{demand as pin_formula}
use Rattle.ps_demand.specs.Passes.{IsNeedOf}

module _ (kind : Kind) where
  one : (n : Need) → IsNeedOf kind n → All (IsNeedOf kind) (n ∷ [])
  one n h = All-cons (IsNeedOf kind) n [] h (All-nil (IsNeedOf kind))

  two : (n m : Need) → IsNeedOf kind n → IsNeedOf kind m → All (IsNeedOf kind) (n ∷ m ∷ [])
  two n m h g = All-cons (IsNeedOf kind) n (m ∷ []) h (one m g)

below : (n m : ℕ) → n < m → n < m
below n m h = h

pub needs_within : (kind : Kind) (j : ℕ) → All (IsNeedOf kind) (pin_formula kind j)
unfolding block
needs_within Equivalent j = two Equivalent (On 1) (On 2) (below 1 4 (omega arith)) (below 2 4 (omega arith))
needs_within Antivalent j = two Antivalent (On 1) (Off 2) (below 1 4 (omega arith)) (below 2 4 (omega arith))
needs_within EmergencyStop j = one EmergencyStop (On 1) (below 1 5 (omega arith))
needs_within Espe j = one Espe (On 1) (below 1 5 (omega arith))
needs_within ModeSelector j = All-nil (IsNeedOf ModeSelector)
needs_within TwoHandTwo j = two TwoHandTwo (On 1) (On 2) (below 1 3 (omega arith)) (below 2 3 (omega arith))
needs_within TwoHandThree j = two TwoHandThree (On 1) (On 2) (below 1 3 (omega arith)) (below 2 3 (omega arith))
needs_within GuardMonitoring j = two GuardMonitoring (On 1) (On 2) (below 1 7 (omega arith)) (below 2 7 (omega arith))
needs_within GuardLocking zero = two GuardLocking (On 1) (On 3) (below 1 8 (omega arith)) (below 3 8 (omega arith))
needs_within GuardLocking (suc j) = one GuardLocking (On 2) (below 2 8 (omega arith))
needs_within EnableSwitch j =
    All-cons (IsNeedOf EnableSwitch) (On 1) (On 2 ∷ On 3 ∷ []) (below 1 6 (omega arith)) (two EnableSwitch (On 2) (On 3) (below 2 6 (omega arith)) (below 3 6 (omega arith)))
needs_within SafetyRequest zero = two SafetyRequest (On 2) (Off 1) (below 2 5 (omega arith)) (below 1 5 (omega arith))
needs_within SafetyRequest (suc j) = one SafetyRequest (On 1) (below 1 5 (omega arith))
needs_within OutControl j = two OutControl (On 1) (On 2) (below 1 7 (omega arith)) (below 2 7 (omega arith))
needs_within Edm j = one Edm (On 1) (below 1 7 (omega arith))
