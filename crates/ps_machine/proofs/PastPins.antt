-- A kind has at most 13 Boolean pins, and after them only TIME pins, where nothing is TRUE.
use Rattle.std.proofs.Common.{◌≡◌, ℕ, zero, suc, ◌+◌, ◌-◌, ◌<◌, ◌≤◌, Bool, true, false, List, [], ◌∷◌, length, drop, refl, ap, ◌∙◌, subst, inl, inr, arith, length-drop, get_or, Some}
use Rattle.std.specs.Prelude.{slice_index_or, slice_get, not, ◌&&◌}
use Rattle.std.specs.List.{list_all}
use Rattle.std.proofs.lemmas.Bool.{false≢true, and_parts, cases_lt}
use Rattle.std.proofs.lemmas.List.{get_or-drop, get_or_past}
use Rattle.ps_model.specs.declared.kind.Kind.{Kind}
use Rattle.ps_model.specs.declared.kind.Kind.TheVariants.{Equivalent, Antivalent, EmergencyStop, Espe, ModeSelector, TwoHandTwo, TwoHandThree, GuardMonitoring, GuardLocking, EnableSwitch, SafetyRequest, OutControl, Edm}
use Rattle.ps_model.specs.declared.kind.Ty.{Ty}
use Rattle.ps_model.specs.declared.kind.Ty.TheVariants.{Safe, Bool as Plain, Time}
use Rattle.ps_model.specs.Action.{Actual, free, literal, time, wired, calls}
use Rattle.ps_model.specs.Blocks.{Pin, block}
use Rattle.ps_model.specs.Budgets.{boolean_count}
use Rattle.ps_model.specs.Network.{Network, kind_at}
use Rattle.ps_model.specs.Scanning.{pin_at, no_pin, pin_value, pins_under}
use Rattle.ps_model.specs.Sound.{IsSound}
use Rattle.ps_model.specs.Typing.{Accepted, MayStand}

-- the pins after the Boolean ones are TIME pins, which are never TRUE where they are free
abbrev is_time : Ty → Bool
is_time Safe = false
is_time Plain = false
is_time Time = true

abbrev is_timer : Pin → Bool
is_timer p = is_time p.ty && not p.free

timers_past : (kind : Kind) → list_all is_timer (drop (boolean_count kind) (block kind).inputs) ≡ true
unfolding block boolean_count
timers_past Equivalent = refl
timers_past Antivalent = refl
timers_past EmergencyStop = refl
timers_past Espe = refl
timers_past ModeSelector = refl
timers_past TwoHandTwo = refl
timers_past TwoHandThree = refl
timers_past GuardMonitoring = refl
timers_past GuardLocking = refl
timers_past EnableSwitch = refl
timers_past SafetyRequest = refl
timers_past OutControl = refl
timers_past Edm = refl

pub few_pins : (kind : Kind) → boolean_count kind ≤ 13
unfolding block boolean_count
few_pins Equivalent = omega arith
few_pins Antivalent = omega arith
few_pins EmergencyStop = omega arith
few_pins Espe = omega arith
few_pins ModeSelector = omega arith
few_pins TwoHandTwo = omega arith
few_pins TwoHandThree = omega arith
few_pins GuardMonitoring = omega arith
few_pins GuardLocking = omega arith
few_pins EnableSwitch = omega arith
few_pins SafetyRequest = omega arith
few_pins OutControl = omega arith
few_pins Edm = omega arith

all_at : (f : Pin → Bool) (xs : List Pin) (j : ℕ) (d : Pin) → list_all f xs ≡ true → j < length xs → f (get_or xs j d) ≡ true
all_at f [] j d h low = absurd (omega arith)
all_at f (x ∷ xs) zero d h low = (and_parts (f x) (list_all f xs) h).0
all_at f (x ∷ xs) (suc j) d h low = all_at f xs j d (and_parts (f x) (list_all f xs) h).1 (omega arith)

record IsTimePin (p : Pin) : Type 0 where
  type_is : p.ty ≡ Time
  off : p.free ≡ false

time_is : (ty : Ty) → is_time ty ≡ true → ty ≡ Time
time_is Safe h = absurd (false≢true h)
time_is Plain h = absurd (false≢true h)
time_is Time h = refl

off_is : (b : Bool) → not b ≡ true → b ≡ false
off_is true h = absurd (false≢true h)
off_is false h = refl

timer_parts : (p : Pin) → is_timer p ≡ true → IsTimePin p
timer_parts p h =
    let both = and_parts (is_time p.ty) (not p.free) h in
    record { type_is = time_is p.ty both.0; off = off_is p.free both.1 }

-- a TIME pin of the kind
timer_at : (kind : Kind) (j : ℕ) → boolean_count kind ≤ j → j < length (block kind).inputs → IsTimePin (pin_at kind j)
timer_at kind j past low =
    let c = boolean_count kind in
    let e : c + (j - c) ≡ j = omega arith in
    let at : get_or (drop c (block kind).inputs) (j - c) no_pin ≡ pin_at kind j =
    get_or-drop c (block kind).inputs (j - c) no_pin ∙ ap (λ k. get_or (block kind).inputs k no_pin) e in
    let inside : j - c < length (drop c (block kind).inputs) = omega (arith, length-drop c (block kind).inputs) in
    subst IsTimePin at (timer_parts (get_or (drop c (block kind).inputs) (j - c) no_pin) (all_at is_timer (drop c (block kind).inputs) (j - c) no_pin (timers_past kind) inside))

-- what stands at a TIME pin of an accepted application is not TRUE
at_timer : (net : Network) (v : ℕ → Bool) (p : Pin) (a : Actual) → IsTimePin p → MayStand net p.ty a → pin_value v p.free a ≡ false
at_timer net v p free t h = t.off
at_timer net v p (literal b) t h = absurd (h t.type_is)
at_timer net v p (time x) t h = refl
at_timer net v p (wired e) t h = absurd (h.0 t.type_is)

-- past the Boolean pins of a call nothing is TRUE
pub past_pin : (net : Network) → IsSound net → Accepted net → (k i : ℕ) (args : List Actual) → slice_get net.steps k ≡ Some (calls i args) → (v : ℕ → Bool) (j : ℕ) → boolean_count (kind_at net i) ≤ j →
    pins_under v (kind_at net i) args j ≡ false
past_pin net sound accepted k i args at v j past =
    let kind = kind_at net i in
    let many = sound.arguments k i args at in
    elim (cases_lt j (length args)) [
      | inl low ↦ at_timer net v (pin_at kind j) (slice_index_or args j free) (timer_at kind j past (omega arith)) (accepted.at_pins k i j args at low)
      | inr high ↦
          ap (λ a. pin_value v (pin_at kind j).free a) (get_or_past args j free high)
          ∙ ap (λ (p : Pin). p.free) (get_or_past (block kind).inputs j no_pin (omega arith))
    ]
