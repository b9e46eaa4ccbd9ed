-- What stands at the pins of a call, and which values are below the signals.
use Rattle.std.proofs.Common.{◌≡◌, ℕ, zero, suc, true, List, [], ◌∷◌, length, Some, sym, ◌∙◌, subst, inl, inr, arith}
use Rattle.std.specs.Prelude.{slice_get, slice_index_or, All, flat_map}
use Rattle.std.specs.List.{list_any}
use Rattle.std.proofs.lemmas.Bool.{cases_lt, false≢true, or_left, or_right}
use Rattle.std.proofs.lemmas.List.{get_or_past}
use Rattle.std.proofs.lemmas.List.Elements.{All-nil}
use Rattle.std.proofs.lemmas.List.Folds.{list_any-append}
use Rattle.ps_model.specs.Formula.{Formula}
use Rattle.ps_model.specs.Action.{Actual, free, assigns, calls}
use Rattle.ps_model.specs.Network.{Network, kind_at, signal_count}
use Rattle.ps_model.specs.Scanning.{pin_at}
use Rattle.ps_model.specs.Sound.{IsSound}
use Rattle.ps_model.specs.Typing.{Accepted, MayStand}
use Rattle.ps_model.specs.Values.{IsBelow, reads, values_at_pin, values_of_step}
use Rattle.ps_model.proofs.Once.{element_at}
use Rattle.ps_flow.proofs.Walk.{part_of, found_or}

-- what stands at each pin of a call may stand there
pub may_stand : (net : Network) → Accepted net → (k i : ℕ) (args : List Actual) → slice_get net.steps k ≡ Some (calls i args) →
    (p : ℕ) → MayStand net (pin_at (kind_at net i) p).ty (slice_index_or args p free)
may_stand net accepted k i args at p =
    elim (cases_lt p (length args)) [
      | inl inside ↦ accepted.at_pins k i p args at inside
      | inr past ↦
          let M : Actual → Type 0 = λ a. MayStand net (pin_at (kind_at net i) p).ty a in
          subst M (sym (get_or_past args p free past)) tt
    ]

-- an assigned value is below the signals
pub value_below : (net : Network) → IsSound net → (k t : ℕ) (e : Formula) → slice_get net.steps k ≡ Some (assigns t e) → IsBelow (signal_count net) e
value_below net sound k t e at =
    let here : All (IsBelow (signal_count net)) (e ∷ []) =
    part_of (IsBelow (signal_count net)) values_of_step net.steps k (assigns t e) sound.values_below at in
    here 0 e (omega arith)

-- and so are the values at the pins of a call
pub args_below : (net : Network) → IsSound net → (k i : ℕ) (args : List Actual) → slice_get net.steps k ≡ Some (calls i args) →
    All (IsBelow (signal_count net)) (flat_map values_at_pin args)
args_below net sound k i args at = part_of (IsBelow (signal_count net)) values_of_step net.steps k (calls i args) sound.values_below at

pub pin_below : (net : Network) (args : List Actual) → All (IsBelow (signal_count net)) (flat_map values_at_pin args) →
    (p : ℕ) → All (IsBelow (signal_count net)) (values_at_pin (slice_index_or args p free))
pin_below net args all p =
    let P = IsBelow (signal_count net) in
    let Q : Actual → Type 0 = λ a. All P (values_at_pin a) in
    elim (cases_lt p (length args)) [
      | inl inside ↦
          let here = element_at args p inside in
          subst Q (sym (found_or args p here.0 free here.1)) (part_of P values_at_pin args p here.0 all here.1)
      | inr past ↦ subst Q (sym (get_or_past args p free past)) (All-nil P)
    ]

-- what one pin reads the call reads
pub pin_reads : (args : List Actual) (p s : ℕ) → list_any (reads s) (values_at_pin (slice_index_or args p free)) ≡ true →
    list_any (reads s) (flat_map values_at_pin args) ≡ true
pin_reads [] p s h = absurd (false≢true h)
pin_reads (a ∷ args) zero s h =
    list_any-append (reads s) (values_at_pin a) (flat_map values_at_pin args)
    ∙ or_left (list_any (reads s) (values_at_pin a)) (list_any (reads s) (flat_map values_at_pin args)) h
pin_reads (a ∷ args) (suc p) s h =
    list_any-append (reads s) (values_at_pin a) (flat_map values_at_pin args)
    ∙ or_right (list_any (reads s) (values_at_pin a)) (list_any (reads s) (flat_map values_at_pin args)) (pin_reads args p s h)
