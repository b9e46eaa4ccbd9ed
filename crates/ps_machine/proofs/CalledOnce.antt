-- A sound application calls each instance once at most, so that an instance is as it was until its call.
use Rattle.std.proofs.Common.{◌≡◌, ◌≢◌, ℕ, ◌+◌, ◌≤◌, Bool, true, false, cond, List, [], ◌∷◌, refl, sym, ap, ◌∙◌, inl, inr, arith, Some}
use Rattle.std.specs.Prelude.{◌||◌, ◌==◌, count_by}
use Rattle.std.specs.List.{list_any}
use Rattle.std.proofs.lemmas.Bool.{false≢true, cases_lt, cases_eq, cases_Bool, cond-false, eq-eqb, ne_eqb, or_parts, or_right}
use Rattle.std.proofs.lemmas.List.Sums.{sum_by-cons}
use Rattle.ps_model.specs.Action.{Action, assigns, calls}
use Rattle.ps_model.specs.Blocks.{Block_state}
use Rattle.ps_model.specs.Network.{Network, instance_count, is_call_of}
use Rattle.ps_model.specs.Running.{Interim, done}
use Rattle.ps_model.specs.Sound.{IsSound}
use Rattle.ps_model.proofs.Once.{place_of, none_after}
use Rattle.ps_model.proofs.OneSolution.{call_is}

-- these steps call each instance once at most
abbrev pub Once : Network → List Action → Type 0
Once net steps = (i : ℕ) → count_by (is_call_of net i) steps ≤ 1

none_counted : {X : Type 0} (f : X → Bool) (xs : List X) → list_any f xs ≡ false → count_by f xs ≡ 0
none_counted f [] h = refl
none_counted f (x ∷ xs) h =
    let parts = or_parts (f x) (list_any f xs) h in
    sum_by-cons (λ y. cond (f y) 1 0) x xs ∙ ap (λ k. k + count_by f xs) (cond-false {A = ℕ} (f x) 1 0 parts.0) ∙ ap (λ k. 0 + k) (none_counted f xs parts.1)

pub called_once : (net : Network) → IsSound net → Once net net.steps
called_once net sound i =
    elim (cases_lt i (instance_count net)) [
      | inl low ↦ let e = sound.called_once i low in omega arith
      | inr high ↦ elim (cases_Bool (list_any (is_call_of net i) net.steps)) [
        | inl some ↦
            let r = place_of (is_call_of net i) net.steps some in
            let c = call_is net sound i r.1 r.3 in
            let low = sound.instances r.0 i c.0 (r.2 ∙ ap Some c.1) in
            absurd (omega arith)
        | inr none ↦ let e = none_counted (is_call_of net i) net.steps none in omega arith
      ]
    ]

pub fewer : {X : Type 0} (f : X → Bool) (x : X) (rest : List X) → count_by f (x ∷ rest) ≤ 1 → count_by f rest ≤ 1
fewer f x rest h =
    let e : count_by f (x ∷ rest) ≡ cond (f x) 1 0 + count_by f rest = sum_by-cons (λ y. cond (f y) 1 0) x rest in
    omega arith

pub once_after : (net : Network) (a : Action) (rest : List Action) → Once net (a ∷ rest) → Once net rest
once_after net a rest once i = fewer (is_call_of net i) a rest (once i)

-- for an instance that is still to be called so much time passed as dt, where that matters
abbrev pub Timely : Network → (dt passed : ℕ) → List Action → Interim → Type 0
Timely net dt passed rest m = (i : ℕ) → list_any (is_call_of net i) rest ≡ true → (m.blocks i).code ≢ 0 → dt ≡ passed

-- after a step the later calls are still to come
pub timely_after : (net : Network) (dt passed : ℕ) (a : Action) (rest : List Action) (m : Interim) → Once net (a ∷ rest) → Timely net dt passed (a ∷ rest) m → Timely net dt passed rest (done net dt a m)
timely_after net dt passed (assigns t e) rest m once timely i later on = timely i later on
timely_after net dt passed (calls j args) rest m once timely i later on =
    elim (cases_eq j i) [
      | inl same ↦
          let here : is_call_of net i (calls j args) ≡ true = eq-eqb j i same in
          absurd (false≢true (sym (none_after (is_call_of net i) (calls j args ∷ []) rest (once i) (ap (λ b. b || false) here)) ∙ later))
      | inr other ↦
          let off : (j == i) ≡ false = ne_eqb j i other in
          let stays : (done net dt (calls j args) m).blocks i ≡ m.blocks i = cond-false (j == i) _ (m.blocks i) off in
          timely i (or_right (j == i) (list_any (is_call_of net i) rest) later) (λ e. on (ap (λ (b : Block_state). b.code) stays ∙ e))
    ]
