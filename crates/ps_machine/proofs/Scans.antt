-- The memory of a scan as it begins, and as its last step leaves it.
use Rattle.std.proofs.Common.{◌≡◌, ℕ, ◌<◌, ◌≤◌, Bool, false, List, take, length, sym, ap, ◌∙◌, inl, inr, arith}
use Rattle.std.specs.Prelude.{slice_index_or, nat_lt}
use Rattle.std.specs.List.{list_any}
use Rattle.std.proofs.lemmas.Bool.{cases_Bool, cond-true, cond-false, lt-ltb, le-ltb, or_parts, ltb-false}
use Rattle.std.proofs.lemmas.List.{take_all}
use Rattle.ps_model.specs.Network.{Network, input_count, signal_count, drives, is_driven, is_new}
use Rattle.ps_model.specs.Running.{begun, exec}
use Rattle.ps_model.specs.Scanning.{State, Solves, signal_in}
use Rattle.ps_model.specs.Sound.{IsSound}
use Rattle.ps_model.proofs.OneSolution.{signal_stays, other-signal}

pub begun_input : (net : Network) (old : State) (ins : List Bool) (s : ℕ) → s < input_count net → (begun net old ins).signals s ≡ slice_index_or ins s false
begun_input net old ins s low = cond-true (nat_lt s (input_count net)) (slice_index_or ins s false) (signal_in old s) (lt-ltb s (input_count net) low)

pub begun_other : (net : Network) (old : State) (ins : List Bool) (s : ℕ) → input_count net ≤ s → (begun net old ins).signals s ≡ signal_in old s
begun_other net old ins s high = cond-false (nat_lt s (input_count net)) (slice_index_or ins s false) (signal_in old s) (le-ltb s (input_count net) high)

-- at the end it is the state that solves, where each signal without a driver was FALSE before
pub ends : (net : Network) → IsSound net → (old new : State) (ins : List Bool) (dt : ℕ) → ((s : ℕ) → input_count net ≤ s → is_driven net s ≡ false → signal_in old s ≡ false) →
    Solves net old ins dt new → (s : ℕ) → s < signal_count net → (exec net dt net.steps (begun net old ins)).signals s ≡ signal_in new s
ends net sound old new ins dt off solves s low =
    let all = (exec net dt net.steps (begun net old ins)).signals s in
    let here = is_new net (length net.steps) s in
    let is = other-signal net sound old ins dt new solves s low in
    elim (cases_Bool here) [
      | inl anew ↦ sym (is ∙ cond-true here all false anew)
      | inr none ↦
          let parts = or_parts (nat_lt s (input_count net)) (list_any (drives net s) (take (length net.steps) net.steps)) none in
          let past = ltb-false s (input_count net) parts.0 in
          let undriven : is_driven net s ≡ false = ap (list_any (drives net s)) (sym (take_all (length net.steps) net.steps (omega arith))) ∙ parts.1 in
          signal_stays net dt net.steps (begun net old ins) s undriven
          ∙ begun_other net old ins s past
          ∙ off s past undriven
          ∙ sym (is ∙ cond-false here all false none)
    ]
