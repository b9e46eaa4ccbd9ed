-- Counts that trials have, all of which their text tells.
use Rattle.std.proofs.Common.{◌≡◌, ◌≢◌, ◌∙◌, ◌⊎◌, inl, inr, ℕ, zero, suc, true, false, List, [], ◌∷◌, Some, length, replicate, get_or, set, refl, sym, ap, subst, arith}
use Rattle.std.proofs.lemmas.Bool.{cases_eq}
use Rattle.std.proofs.lemmas.List.{length-set}
use Rattle.ps_bench_trials.proofs.Fitting.{fits, fits_added, fits_none, fits_one, possible}
use Rattle.ps_bench_trials.proofs.TallyAdding.{line_turned, parts_add}
use Rattle.ps_bench_trials.proofs.Upto.{together}
use Rattle.ps_bench_trials.specs.Adding.{added}
use Rattle.ps_bench_trials.specs.Laws.{CountsArePlain}
use Rattle.ps_model.specs.declared.channel.Cause.{Cause}
use Rattle.ps_model.specs.declared.channel.Cause.TheVariants.{Differ, Stuck, Trap, NoReport}
use Rattle.ps_model.specs.declared.channel.Channel.{Channel}
use Rattle.ps_model.specs.declared.channel.Channel.TheVariants.{A, B}
use Rattle.ps_model.specs.declared.channel.Region.{Region}
use Rattle.ps_model.specs.declared.channel.Region.TheVariants.{Code, Cells}
use Rattle.ps_bench_trials.specs.Lines.{added_line, column_of, counted_in, more, no_trial, with_trial}
use Rattle.ps_bench_trials.specs.Outcomes.{latency_in, place_of}
use Rattle.ps_bench_trials.specs.Plain.{ArePlain, IsPlain, of_count}
use Rattle.ps_bench_trials.specs.Possible.{is_possible}
use Rattle.ps_bench_trials.specs.Tallies.{Result_of, all_counted, counted, none_counted}
use Rattle.ps_bench_trials.specs.Telling.{is_of_trips}
use Rattle.ps_bench_trials.specs.declared.line.Line.{Line}
use Rattle.ps_bench_trials.specs.declared.outcome.Outcome.{Outcome}
use Rattle.ps_bench_trials.specs.declared.outcome.Outcome.TheVariants.{Silent, Tripped, Wrong}

-- what is so at each place of a list is so of it with another element that it is so of
pub still : {X : Type 0} (P : ℕ → X → Type 0) (xs : List X) (n : ℕ) (x d : X) → ((p : ℕ) → P p (get_or xs p d)) → P n x →
    (p : ℕ) → P p (get_or (set xs n x) p d)
still P [] n x d each this p = each p
still P (y ∷ ys) zero x d each this zero = this
still P (y ∷ ys) zero x d each this (suc p) = each (suc p)
still P (y ∷ ys) (suc n) x d each this zero = each zero
still P (y ∷ ys) (suc n) x d each this (suc p) = still (λ k. P (suc k)) ys n x d (λ k. each (suc k)) this p

-- a line of a place in the place of what stood there
pub put_plain : (lines : List Line) (n : ℕ) (l : Line) → ArePlain lines → IsPlain l n → ArePlain (set lines n l)
put_plain lines n l each this = still (λ p x. IsPlain x p) lines n l no_trial each this

-- a line that has a trial
pub some_plain : (l : Line) (place : ℕ) → (l.count ≡ 0 → ⊥) → (is_of_trips place ≡ false → l ≡ of_count l.count) →
    (is_of_trips place ≡ true → is_possible l ≡ true) → IsPlain l place
some_plain l place some same can_be = (λ none. absurd (some none), same, λ trips count. can_be trips)

-- no trials
none_at : (place n : ℕ) → get_or (replicate n no_trial) place no_trial ≡ no_trial
none_at place zero = refl
none_at zero (suc n) = refl
none_at (suc place) (suc n) = none_at place n

pub none_plain : ArePlain none_counted
none_plain place = (
  λ is. none_at place 24,
  λ is. none_at place 24 ∙ ap of_count (sym (ap (λ (l : Line). l.count) (none_at place 24))),
  λ trips some. absurd (some (ap (λ (l : Line). l.count) (none_at place 24))),
)

-- ---- what is counted of trials

-- the line of a trip is of trips
of_trip : (c : Channel) (r : Region) (why : Cause) (latency : ℕ) → is_of_trips (place_of c r (Tripped why latency)) ≡ true
of_trip A Code (Differ f) latency = refl
of_trip A Code (Stuck x) latency = refl
of_trip A Code (Trap x n) latency = refl
of_trip A Code (NoReport x) latency = refl
of_trip A Cells (Differ f) latency = refl
of_trip A Cells (Stuck x) latency = refl
of_trip A Cells (Trap x n) latency = refl
of_trip A Cells (NoReport x) latency = refl
of_trip B Code (Differ f) latency = refl
of_trip B Code (Stuck x) latency = refl
of_trip B Code (Trap x n) latency = refl
of_trip B Code (NoReport x) latency = refl
of_trip B Cells (Differ f) latency = refl
of_trip B Cells (Stuck x) latency = refl
of_trip B Cells (Trap x n) latency = refl
of_trip B Cells (NoReport x) latency = refl

-- and those of other trials are not
of_silent : (c : Channel) (r : Region) → is_of_trips (place_of c r Silent) ≡ false
of_silent A Code = refl
of_silent A Cells = refl
of_silent B Code = refl
of_silent B Cells = refl

of_wrong : (c : Channel) (r : Region) → is_of_trips (place_of c r Wrong) ≡ false
of_wrong A Code = refl
of_wrong A Cells = refl
of_wrong B Code = refl
of_wrong B Cells = refl

-- a line has as many columns with a trial more
wide_in : (o : Outcome) (l : Line) → length l.table ≡ 33 → length (counted_in l (latency_in o)).table ≡ 33
wide_in Silent l wide = wide
wide_in (Tripped why latency) l wide = length-set l.table (column_of latency) (more (get_or l.table (column_of latency) 0) 1) ∙ wide
wide_in Wrong l wide = wide

-- and two lists together have as many as each
length_both : {X : Type 0} (f : X → X → X) (xs ys : List X) (n : ℕ) → length xs ≡ n → length ys ≡ n → length (together f xs ys) ≡ n
length_both f [] [] n size size' = size
length_both f [] (y ∷ ys) n size size' = let no : ⊥ = omega (arith, size, size') in absurd no
length_both f (x ∷ xs) [] n size size' = let no : ⊥ = omega (arith, size, size') in absurd no
length_both f (x ∷ xs) (y ∷ ys) zero size size' = let no : ⊥ = omega (arith, size) in absurd no
length_both f (x ∷ xs) (y ∷ ys) (suc n) size size' = ap suc (length_both f xs ys n (omega (arith, size)) (omega (arith, size')))

one_more : (count : ℕ) → more count 1 ≡ 0 → ⊥
one_more count is = omega (arith, is)

-- the line of one trial
line_plain : (c : Channel) (r : Region) (o : Outcome) (l : Line) → l ≡ no_trial → IsPlain l (place_of c r o) →
    IsPlain (counted_in l (latency_in o)) (place_of c r o)
line_plain c r Silent l none plain =
    (λ is. absurd (one_more l.count is), λ of. ap with_trial (plain.1 of), λ trips some. let no : ⊥ = cc (of_silent c r, trips) in absurd no)
line_plain c r (Tripped why latency) l none plain = (
  λ is. absurd (one_more l.count is),
  λ of. let no : ⊥ = cc (of_trip c r why latency, of) in absurd no,
  λ trips some. subst (λ (k : Line). is_possible (counted_in k (Some latency)) ≡ true) (sym none) (possible (counted_in no_trial (Some latency)) (fits_one latency)),
)
line_plain c r Wrong l none plain =
    (λ is. absurd (one_more l.count is), λ of. ap with_trial (plain.1 of), λ trips some. let no : ⊥ = cc (of_wrong c r, trips) in absurd no)

-- lines that trials have: as many as there are places, and each with all columns
record AreWhole (lines : List Line) : Type 0 where
  pub many : length lines ≡ 24
  pub wide : (place : ℕ) → length (get_or lines place no_trial).table ≡ 33
  pub plain : ArePlain lines

none_whole : AreWhole none_counted
none_whole = record {
  many = refl;
  wide = λ place. ap (λ (l : Line). length l.table) (none_at place 24);
  plain = none_plain;
}

-- what is counted of one trial
one_whole : (r : Result_of) → AreWhole (counted none_counted r.channel r.region r.outcome)
one_whole r =
    let place = place_of r.channel r.region r.outcome in
    let line = counted_in (get_or none_counted place no_trial) (latency_in r.outcome) in
    record {
      many = length-set none_counted place line;
      wide = still (λ p l. length l.table ≡ 33) none_counted place line no_trial (λ p. ap (λ (l : Line). length l.table) (none_at p 24))
          (wide_in r.outcome (get_or none_counted place no_trial) (ap (λ (l : Line). length l.table) (none_at place 24)));
      plain = put_plain none_counted place line none_plain
          (line_plain r.channel r.region r.outcome (get_or none_counted place no_trial) (none_at place 24) (none_plain place));
    }

-- two lines of a place together
line_added : (x y : Line) (place : ℕ) → length x.table ≡ 33 → length y.table ≡ 33 → IsPlain x place → IsPlain y place → IsPlain (added_line x y) place
line_added x y place wide wide' plain plain' = (none, same, can_be)
  where
    none : more x.count y.count ≡ 0 → added_line x y ≡ no_trial
    none is =
        let first : x ≡ no_trial = plain.0 (omega (arith, is)) in
        let second : y ≡ no_trial = plain'.0 (omega (arith, is)) in
        λ i. added_line (first i) (second i)

    same : is_of_trips place ≡ false → added_line x y ≡ of_count (more x.count y.count)
    same of =
        let first : x ≡ of_count x.count = plain.1 of in
        let second : y ≡ of_count y.count = plain'.1 of in
        λ i. added_line (first i) (second i)

    can_be : is_of_trips place ≡ true → more x.count y.count ≢ 0 → is_possible (added_line x y) ≡ true
    can_be trips some = by (cases_eq x.count 0) (cases_eq y.count 0)
      where
        by : (x.count ≡ 0) ⊎ (x.count ≡ 0 → ⊥) → (y.count ≡ 0) ⊎ (y.count ≡ 0 → ⊥) → is_possible (added_line x y) ≡ true
        by (inl a) (inl b) = absurd (some (let zero_more : more x.count y.count ≡ 0 = omega (arith, a, b) in zero_more))
        by (inl a) (inr b) =
            subst (λ (k : Line). is_possible (added_line k y) ≡ true) (sym (plain.0 a))
            (possible (added_line no_trial y) (fits_none y wide' (fits y (plain'.2 trips b))))
        by (inr a) (inl b) =
            subst (λ (k : Line). is_possible (added_line x k) ≡ true) (sym (plain'.0 b))
            (subst (λ (k : Line). is_possible k ≡ true) (line_turned no_trial x)
            (possible (added_line no_trial x) (fits_none x wide (fits x (plain.2 trips a)))))
        by (inr a) (inr b) =
            possible (added_line x y) (fits_added x y (wide ∙ sym wide') (fits x (plain.2 trips a)) (fits y (plain'.2 trips b)))

-- the lines of a place
line_of_both : (xs ys : List Line) (place : ℕ) → length xs ≡ length ys →
    get_or (added xs ys) place no_trial ≡ added_line (get_or xs place no_trial) (get_or ys place no_trial)
line_of_both [] [] place size = refl
line_of_both [] (y ∷ ys) place size = let no : ⊥ = omega (arith, size) in absurd no
line_of_both (x ∷ xs) [] place size = let no : ⊥ = omega (arith, size) in absurd no
line_of_both (x ∷ xs) (y ∷ ys) zero size = refl
line_of_both (x ∷ xs) (y ∷ ys) (suc place) size = line_of_both xs ys place (omega (arith, size))

added_whole : (xs ys : List Line) → AreWhole xs → AreWhole ys → AreWhole (added xs ys)
added_whole xs ys are are' = record {
  many = length_both added_line xs ys 24 are.many are'.many;
  wide = λ place.
      subst (λ (l : Line). length l.table ≡ 33) (sym (line_of_both xs ys place (are.many ∙ sym are'.many)))
      (length_both more (get_or xs place no_trial).table (get_or ys place no_trial).table 33 (are.wide place) (are'.wide place));
  plain = λ place.
      subst (λ (l : Line). IsPlain l place) (sym (line_of_both xs ys place (are.many ∙ sym are'.many)))
      (line_added (get_or xs place no_trial) (get_or ys place no_trial) place (are.wide place) (are'.wide place) (are.plain place) (are'.plain place));
}

-- what is counted of trials is plain
all_whole : (rs : List Result_of) → AreWhole (all_counted none_counted rs)
all_whole [] = none_whole
all_whole (r ∷ rs) =
    subst AreWhole (sym (parts_add (r ∷ []) rs))
    (added_whole (all_counted none_counted (r ∷ [])) (all_counted none_counted rs) (one_whole r) (all_whole rs))

pub all_plain : CountsArePlain
all_plain rs = (all_whole rs).plain
