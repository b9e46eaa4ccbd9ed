-- What a scan makes of an open expectation.
use Rattle.std.proofs.Common.{◌≡◌, ◌≤◌, ◌<◌, ◌+◌, ◌∙◌, ℕ, Bool, true, false, not, List, [], ◌∷◌, Option, Some, None, refl, sym, ap, arith, cond}
use Rattle.std.specs.Prelude.{nat_le, option_map}
use Rattle.std.specs.List.{list_all, list_any, position, position_from}
use Rattle.std.proofs.lemmas.Iterator.Adapters.{position_from-zero}
use Rattle.std.proofs.lemmas.Option.{none-some}
use Rattle.ps_model.specs.Network.{Network}
use Rattle.ps_bench_cases.specs.declared.case.Check.{Check}
use Rattle.ps_bench_judge.specs.Moments.{Moment}
use Rattle.ps_bench_judge.specs.Holding.{AreFrom, all_hold, broken_in, check_holds, failure_by, failure_in, first_failure, first_of, for_failure, in_window, last_failure, last_time, unless_ended, within_failure}
use Rattle.ps_bench_judge.specs.declared.checks.Failure.{Failure}

-- no scan after the end of a window belongs to it
pub out_of_window : (end t : ℕ) (ms : List Moment) → end < t → AreFrom t ms → in_window end ms ≡ []
out_of_window end t [] past from = refl
out_of_window end t (m ∷ ms) past from =
    let late : nat_le m.now end ≡ false = grind arith in
    rw late (out_of_window end m.now ms (omega arith) from.1)

-- the last scan is not before any
pub last_later : (t : ℕ) (ms : List Moment) → AreFrom t ms → t ≤ last_time t ms
last_later t [] from = omega arith
last_later t (m ∷ ms) from = let later = last_later m.now ms from.1 in omega arith

-- where no test fails all pass
none_fails_from : {X : Type 0} (p : X → Bool) (i : ℕ) (xs : List X) → position_from (λ x. not (p x)) i xs ≡ None → list_all p xs ≡ true
none_fails_from p i [] none = refl
none_fails_from p i (x ∷ xs) none = go (p x) refl (none_fails_from p (i + 1) xs)
  where
    go : (b : Bool) → p x ≡ b → (position_from (λ y. not (p y)) (i + 1) xs ≡ None → list_all p xs ≡ true) → list_all p (x ∷ xs) ≡ true
    go true e rest = rw e (rest (sym (ap (λ b. cond (not b) (Some i) (position_from (λ y. not (p y)) (i + 1) xs)) e) ∙ none))
    go false e rest =
        absurd (none-some i (sym (sym (ap (λ b. cond (not b) (Some i) (position_from (λ y. not (p y)) (i + 1) xs)) e) ∙ none)))

none_fails : {X : Type 0} (p : X → Bool) (xs : List X) → position (λ x. not (p x)) xs ≡ None → list_all p xs ≡ true
none_fails p xs none = none_fails_from p 0 xs (sym (position_from-zero (λ x. not (p x)) xs) ∙ none)

-- where a test fails not all pass
some_fails_from : {X : Type 0} (p : X → Bool) (i k : ℕ) (xs : List X) → position_from (λ x. not (p x)) i xs ≡ Some k → list_all p xs ≡ false
some_fails_from p i k [] some = absurd (none-some k some)
some_fails_from p i k (x ∷ xs) some = go (p x) refl (some_fails_from p (i + 1) k xs)
  where
    go : (b : Bool) → p x ≡ b → (position_from (λ y. not (p y)) (i + 1) xs ≡ Some k → list_all p xs ≡ false) → list_all p (x ∷ xs) ≡ false
    go false e rest = rw e refl
    go true e rest = rw e (rest (sym (ap (λ b. cond (not b) (Some i) (position_from (λ y. not (p y)) (i + 1) xs)) e) ∙ some))

some_fails : {X : Type 0} (p : X → Bool) (xs : List X) (k : ℕ) → position (λ x. not (p x)) xs ≡ Some k → list_all p xs ≡ false
some_fails p xs k some = some_fails_from p 0 k xs (sym (position_from-zero (λ x. not (p x)) xs) ∙ some)

-- a scan in which all checks hold
pub none_broken : (net : Network) (line : ℕ) (checks : List Check) (m : Moment) → failure_in net line checks m ≡ None →
    all_hold net checks m ≡ true
none_broken net line checks m none = go (broken_in net checks m) refl none
  where
    go : (o : Option ℕ) → broken_in net checks m ≡ o → option_map (failure_by net line checks m) o ≡ None →
        all_hold net checks m ≡ true
    go None at none = none_fails (check_holds net m) checks at
    go (Some k) at none = absurd (none-some (failure_by net line checks m k) (sym none))

-- a scan in which one does not
pub one_broken : (net : Network) (line : ℕ) (checks : List Check) (m : Moment) (f : Failure) → failure_in net line checks m ≡ Some f →
    all_hold net checks m ≡ false
one_broken net line checks m f some = go (broken_in net checks m) refl some
  where
    go : (o : Option ℕ) → broken_in net checks m ≡ o → option_map (failure_by net line checks m) o ≡ Some f →
        all_hold net checks m ≡ false
    go None at some = absurd (none-some f some)
    go (Some k) at some = some_fails (check_holds net m) checks k at

-- a scan that belongs to a window
here : (end : ℕ) (m : Moment) (ms : List Moment) → m.now ≤ end → in_window end (m ∷ ms) ≡ (m ∷ in_window end ms)
here end m ms within =
    let yes : nat_le m.now end ≡ true = grind arith in
    rw yes refl

-- a scan after its end
past : (end : ℕ) (m : Moment) (ms : List Moment) → end < m.now → AreFrom m.now ms → in_window end (m ∷ ms) ≡ []
past end m ms late from = out_of_window end m.now (m ∷ ms) late (omega arith, from)

-- the case goes on after the end of a window
goes_on : (line end : ℕ) (m : Moment) (ms : List Moment) (failure : Option Failure) → end < m.now → AreFrom m.now ms →
    unless_ended line end (last_time m.now ms) failure ≡ failure
goes_on line end m ms failure late from =
    let last = last_later m.now ms from in
    let yes : nat_le end (last_time m.now ms) ≡ true = grind arith in
    rw yes refl

-- ---- `for`

pub for_past : (net : Network) (line end : ℕ) (checks : List Check) (t : ℕ) (m : Moment) (ms : List Moment) → end < m.now → AreFrom m.now ms →
    for_failure net line end checks t (m ∷ ms) ≡ None
for_past net line end checks t m ms late from =
    ap (λ w. first_of (first_failure net line checks w) (unless_ended line end (last_time m.now ms) None)) (past end m ms late from)
    ∙ goes_on line end m ms None late from

pub for_broken : (net : Network) (line end : ℕ) (checks : List Check) (t : ℕ) (m : Moment) (ms : List Moment) (f : Failure) → m.now ≤ end →
    failure_in net line checks m ≡ Some f → for_failure net line end checks t (m ∷ ms) ≡ Some f
for_broken net line end checks t m ms f within broken =
    ap (λ w. first_of (first_failure net line checks w) (unless_ended line end (last_time m.now ms) None)) (here end m ms within)
    ∙ ap (λ o. first_of (first_of o (first_failure net line checks (in_window end ms))) (unless_ended line end (last_time m.now ms) None)) broken

pub for_kept : (net : Network) (line end : ℕ) (checks : List Check) (t : ℕ) (m : Moment) (ms : List Moment) → m.now ≤ end →
    failure_in net line checks m ≡ None → for_failure net line end checks t (m ∷ ms) ≡ for_failure net line end checks m.now ms
for_kept net line end checks t m ms within held =
    ap (λ w. first_of (first_failure net line checks w) (unless_ended line end (last_time m.now ms) None)) (here end m ms within)
    ∙ ap (λ o. first_of (first_of o (first_failure net line checks (in_window end ms))) (unless_ended line end (last_time m.now ms) None)) held

-- ---- `within`

-- what `within` makes of the scans of its window
abbrev of_window : Network → (line end : ℕ) → List Check → Option Failure → (last : ℕ) → List Moment → Option Failure
of_window net line end checks latest last w =
    cond (list_any (all_hold net checks) w) None (unless_ended line end last (last_failure net line checks latest w))

pub within_past : (net : Network) (line end : ℕ) (checks : List Check) (latest : Option Failure) (t : ℕ) (m : Moment) (ms : List Moment) → end < m.now →
    AreFrom m.now ms → within_failure net line end checks latest t (m ∷ ms) ≡ latest
within_past net line end checks latest t m ms late from =
    ap (of_window net line end checks latest (last_time m.now ms)) (past end m ms late from)
    ∙ goes_on line end m ms latest late from

pub within_met : (net : Network) (line end : ℕ) (checks : List Check) (latest : Option Failure) (t : ℕ) (m : Moment) (ms : List Moment) → m.now ≤ end →
    failure_in net line checks m ≡ None → within_failure net line end checks latest t (m ∷ ms) ≡ None
within_met net line end checks latest t m ms within held =
    let all : all_hold net checks m ≡ true = none_broken net line checks m held in
    ap (of_window net line end checks latest (last_time m.now ms)) (here end m ms within)
    ∙ rw all refl

pub within_missed : (net : Network) (line end : ℕ) (checks : List Check) (latest : Option Failure) (t : ℕ) (m : Moment) (ms : List Moment) (f : Failure) →
    m.now ≤ end → failure_in net line checks m ≡ Some f →
    within_failure net line end checks latest t (m ∷ ms) ≡ within_failure net line end checks (Some f) m.now ms
within_missed net line end checks latest t m ms f within broken =
    let one : all_hold net checks m ≡ false = one_broken net line checks m f broken in
    ap (of_window net line end checks latest (last_time m.now ms)) (here end m ms within)
    ∙ rw one (ap (λ o. cond (list_any (all_hold net checks) (in_window end ms)) None
    (unless_ended line end (last_time m.now ms) (last_failure net line checks o (in_window end ms)))) broken)
