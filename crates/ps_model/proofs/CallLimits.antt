-- The limit of each call of a sound application is a number of 32 bits.
use Rattle.std.proofs.Common.{◌≡◌, ℕ, suc, ◌<◌, ◌≤◌, ◌^◌, Bool, true, cond, List, [], ◌∷◌, refl, inl, inr, ◌⊎◌, ⊎_elim, sym, ◌∙◌, arith}
use Rattle.std.specs.Prelude.{slice_get, Some, All}
use Rattle.std.specs.List.{list_all}
use Rattle.std.proofs.lemmas.Bool.{and_parts, cases_Bool, cond-true, cond-false}
use Rattle.ps_model.specs.declared.kind.Kind.{Kind}
use Rattle.ps_model.specs.declared.kind.Kind.TheVariants.{Equivalent, Antivalent, EmergencyStop, Espe, ModeSelector, TwoHandTwo, TwoHandThree, GuardMonitoring, GuardLocking, EnableSwitch, SafetyRequest, OutControl, Edm}
use Rattle.ps_model.specs.declared.kind.Ty.{Ty}
use Rattle.ps_model.specs.declared.kind.Ty.TheVariants.{Safe, Bool as Plain, Time}
use Rattle.ps_model.specs.Action.{Actual, free, literal, time, wired, calls, FitsTime}
use Rattle.ps_model.specs.Blocks.{Pin, block}
use Rattle.ps_model.specs.Budgets.{is_boolean}
use Rattle.ps_model.specs.Network.{Network, kind_at}
use Rattle.ps_model.specs.Scanning.{time_value, times_at, limit_of}
use Rattle.ps_model.specs.Sound.{IsSound}

-- no pin of these is a TIME pin
are_boolean : List Pin → Bool
are_boolean ps = list_all (λ (p : Pin). is_boolean p.ty) ps

-- at most one pin of these is a TIME pin
is_one_time : List Pin → Bool
is_one_time [] = true
is_one_time (p ∷ ps) = cond (is_boolean p.ty) (is_one_time ps) (are_boolean ps)

-- a Boolean pin gives no limit, and a TIME pin at most its literal
boolean_time : (ty : Ty) (a : Actual) → is_boolean ty ≡ true → time_value ty a ≡ 0
boolean_time Safe a h = refl
boolean_time Plain a h = refl
boolean_time Time a h = absurd cc

time_small : (ty : Ty) (a : Actual) → FitsTime a → time_value ty a < 2 ^ 32
time_small Safe a h = omega arith
time_small Plain a h = omega arith
time_small Time free h = omega arith
time_small Time (literal b) h = omega arith
time_small Time (time t) h = h
time_small Time (wired e) h = omega arith

no_times : (ps : List Pin) (args : List Actual) → are_boolean ps ≡ true → times_at ps args ≡ 0
unfolding are_boolean
no_times [] args h = refl
no_times (p ∷ ps) [] h = refl
no_times (p ∷ ps) (a ∷ args) h =
    let both = and_parts (is_boolean p.ty) (list_all (λ (q : Pin). is_boolean q.ty) ps) h in
    omega (arith, boolean_time p.ty a both.0, no_times ps args both.1)

times_small : (ps : List Pin) (args : List Actual) → is_one_time ps ≡ true → All FitsTime args → times_at ps args < 2 ^ 32
unfolding is_one_time
times_small [] args h fit = omega arith
times_small (p ∷ ps) [] h fit = omega arith
times_small (p ∷ ps) (a ∷ args) h fit =
    let first : FitsTime a = fit 0 a (omega arith) in
    let rest : All FitsTime args = λ k d low. fit (suc k) d (omega (arith, low)) in
    ⊎_elim
    (λ yes'.
    let more : is_one_time ps ≡ true = sym (cond-true (is_boolean p.ty) (is_one_time ps) (are_boolean ps) yes') ∙ h in
    omega (arith, boolean_time p.ty a yes', times_small ps args more rest))
    (λ no'.
    let more : are_boolean ps ≡ true = sym (cond-false (is_boolean p.ty) (is_one_time ps) (are_boolean ps) no') ∙ h in
    omega (arith, time_small p.ty a first, no_times ps args more))
    (cases_Bool (is_boolean p.ty))

-- a kind has at most one TIME pin, and a limit of its own only where it has none
record IsLimited (kind : Kind) : Type 0 where
  one : is_one_time (block kind).inputs ≡ true
  own : (block kind).fixed_limit ≡ 0

record IsFixed (kind : Kind) : Type 0 where
  none : are_boolean (block kind).inputs ≡ true
  own : (block kind).fixed_limit ≤ 500

limit_form : (kind : Kind) → IsLimited kind ⊎ IsFixed kind
unfolding block are_boolean is_one_time
limit_form Equivalent = inl (record { one = refl; own = refl })
limit_form Antivalent = inl (record { one = refl; own = refl })
limit_form EmergencyStop = inl (record { one = refl; own = refl })
limit_form Espe = inl (record { one = refl; own = refl })
limit_form ModeSelector = inl (record { one = refl; own = refl })
limit_form TwoHandTwo = inl (record { one = refl; own = refl })
limit_form TwoHandThree = inr (record { none = refl; own = omega arith })
limit_form GuardMonitoring = inl (record { one = refl; own = refl })
limit_form GuardLocking = inl (record { one = refl; own = refl })
limit_form EnableSwitch = inl (record { one = refl; own = refl })
limit_form SafetyRequest = inl (record { one = refl; own = refl })
limit_form OutControl = inl (record { one = refl; own = refl })
limit_form Edm = inl (record { one = refl; own = refl })

fitting_limit : (kind : Kind) (args : List Actual) → All FitsTime args → limit_of kind args < 2 ^ 32
fitting_limit kind args fit = elim (limit_form kind) [
  | inl l ↦ omega (arith, l.own, times_small (block kind).inputs args l.one fit)
  | inr f ↦ omega (arith, f.own, no_times (block kind).inputs args f.none)
]

-- the limit of a call is below 2^32 ms
pub limit_small : (net : Network) → IsSound net → (k i : ℕ) (args : List Actual) → slice_get net.steps k ≡ Some (calls i args) →
    limit_of (kind_at net i) args < 2 ^ 32
limit_small net sound k i args at = fitting_limit (kind_at net i) args (sound.times_fit k i args at)
