-- The limit of a call is what stands after its Boolean pins, or the kind's own.
use Rattle.std.proofs.Common.{inl, inr, ◌⊎◌, ◌≡◌, ℕ, zero, suc, ◌<◌, ◌≤◌, true, List, [], ◌∷◌, length, take, drop, refl, ap, ◌∙◌, arith}
use Rattle.std.specs.Prelude.{slice_get, Some, codes}
use Rattle.std.specs.List.{list_all}
use Rattle.std.proofs.lemmas.Bool.{and_parts}
use Rattle.std.proofs.lemmas.List.{drop_all}
use Rattle.std.proofs.lemmas.Option.{slice_get_within}
use Rattle.ps_model.specs.declared.kind.Kind.{Kind}
use Rattle.ps_model.specs.declared.kind.Kind.TheVariants.{Equivalent, Antivalent, EmergencyStop, Espe, ModeSelector, TwoHandTwo, TwoHandThree, GuardMonitoring, GuardLocking, EnableSwitch, SafetyRequest, OutControl, Edm}
use Rattle.ps_model.specs.declared.kind.Ty.{Ty}
use Rattle.ps_model.specs.declared.kind.Ty.TheVariants.{Safe, Bool as Plain, Time}
use Rattle.ps_model.specs.Action.{Actual, free, literal, time, wired}
use Rattle.ps_model.specs.Blocks.{Pin, block, time_pin}
use Rattle.ps_model.specs.Budgets.{is_boolean, boolean_count}
use Rattle.ps_model.specs.Scanning.{time_value, times_at, limit_of}
use Rattle.ps_model.proofs.Rest.{rest_found}
use Rattle.ps_machine.specs.Limits.{literal_time}

no_time : (ty : Ty) (a : Actual) → is_boolean ty ≡ true → time_value ty a ≡ 0
no_time Safe a h = refl
no_time Plain a h = refl
no_time Time a h = absurd cc

at_time : (a : Actual) → time_value Time a ≡ literal_time a
at_time free = refl
at_time (literal b) = refl
at_time (time t) = refl
at_time (wired e) = refl

-- Boolean pins give no limit
times_behind : (n : ℕ) (ps : List Pin) (args : List Actual) → list_all (λ (p : Pin). is_boolean p.ty) (take n ps) ≡ true → times_at ps args ≡ times_at (drop n ps) (drop n args)
times_behind zero ps args h = refl
times_behind (suc n) [] args h = refl
times_behind (suc n) (p ∷ ps) [] h = none (drop n ps)
  where
    none : (qs : List Pin) → 0 ≡ times_at qs []
    none [] = refl
    none (q ∷ qs) = refl
times_behind (suc n) (p ∷ ps) (a ∷ args) h =
    let both = and_parts (is_boolean p.ty) (list_all (λ (p : Pin). is_boolean p.ty) (take n ps)) h in
    omega (arith, no_time p.ty a both.0, times_behind n ps args both.1)

-- the first pins of a kind are Boolean
first_boolean : (kind : Kind) → list_all (λ (p : Pin). is_boolean p.ty) (take (boolean_count kind) (block kind).inputs) ≡ true
unfolding block boolean_count
first_boolean Equivalent = refl
first_boolean Antivalent = refl
first_boolean EmergencyStop = refl
first_boolean Espe = refl
first_boolean ModeSelector = refl
first_boolean TwoHandTwo = refl
first_boolean TwoHandThree = refl
first_boolean GuardMonitoring = refl
first_boolean GuardLocking = refl
first_boolean EnableSwitch = refl
first_boolean SafetyRequest = refl
first_boolean OutControl = refl
first_boolean Edm = refl

-- a kind has one TIME pin after them and no limit of its own, or none
record IsTimed (kind : Kind) : Type 0 where
  own : (block kind).fixed_limit ≡ 0
  long : length (block kind).inputs ≡ suc (boolean_count kind)
  name : List ℕ
  last : drop (boolean_count kind) (block kind).inputs ≡ time_pin name ∷ []

time_pin_or_none : (kind : Kind) → IsTimed kind ⊎ (boolean_count kind ≡ length (block kind).inputs)
unfolding block boolean_count
time_pin_or_none Equivalent = inl (record { own = refl; long = refl; name = codes "DiscrepancyTime"; last = refl })
time_pin_or_none Antivalent = inl (record { own = refl; long = refl; name = codes "DiscrepancyTime"; last = refl })
time_pin_or_none EmergencyStop = inr refl
time_pin_or_none Espe = inr refl
time_pin_or_none ModeSelector = inl (record { own = refl; long = refl; name = codes "ModeMonitorTime"; last = refl })
time_pin_or_none TwoHandTwo = inr refl
time_pin_or_none TwoHandThree = inr refl
time_pin_or_none GuardMonitoring = inl (record { own = refl; long = refl; name = codes "DiscrepancyTime"; last = refl })
time_pin_or_none GuardLocking = inr refl
time_pin_or_none EnableSwitch = inr refl
time_pin_or_none SafetyRequest = inl (record { own = refl; long = refl; name = codes "MonitoringTime"; last = refl })
time_pin_or_none OutControl = inr refl
time_pin_or_none Edm = inl (record { own = refl; long = refl; name = codes "MonitoringTime"; last = refl })

pub limit_timed : (kind : Kind) (args : List Actual) (a : Actual) → length args ≡ length (block kind).inputs → slice_get args (boolean_count kind) ≡ Some a → limit_of kind args ≡ literal_time a
limit_timed kind args a many at =
    let n = boolean_count kind in
    let inside : n < length args = slice_get_within args n a at in
    elim (time_pin_or_none kind) [
      | inl t ↦
          let rest : times_at (block kind).inputs args ≡ literal_time a =
          times_behind n (block kind).inputs args (first_boolean kind)
          ∙ ap (λ ps. times_at ps (drop n args)) t.last
          ∙ ap (times_at (time_pin t.name ∷ [])) (rest_found args n a at)
          ∙ (let e = at_time a in omega arith) in
          omega (arith, t.own, rest)
      | inr none ↦ absurd (omega arith)
    ]

pub limit_own : (kind : Kind) (args : List Actual) → length args ≡ length (block kind).inputs → length args ≤ boolean_count kind → limit_of kind args ≡ (block kind).fixed_limit
limit_own kind args many past =
    let n = boolean_count kind in
    elim (time_pin_or_none kind) [
      | inl t ↦ absurd (omega (arith, t.long))
      | inr none ↦
          let rest : times_at (block kind).inputs args ≡ 0 =
          times_behind n (block kind).inputs args (first_boolean kind) ∙ ap (λ ps. times_at ps (drop n args)) (drop_all n (block kind).inputs (omega arith)) in
          omega (arith, rest)
    ]
