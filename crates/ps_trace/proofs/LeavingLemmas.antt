-- How far lines take a reader, and what they leave of files.
use Rattle.std.proofs.Common.{◌≡◌, ◌<◌, ◌≤◌, ◌+◌, ◌-◌, ◌∙◌, ℕ, List, Option, Some, IsTrue, IsSome, Result, Ok, Err, refl, subst, sym, ap, arith}
use Rattle.std.specs.Result.{IfOk, OnOk, IsErrOf}
use Rattle.ps_outside.specs.Outside.{Rose, CountsStay}
use Rattle.ps_outside.specs.declared.text_fail.TextFail.{TextFail}
use Rattle.ps_outside.specs.declared.text_fail.TextFail.TheVariants.{Memory as NoMemory, Fault as IsFault}
use Rattle.ps_outside.specs.declared.text_fail.TextFail.TheVariants.{Refused as IsRefused}
use Rattle.ps_lines.specs.Reader.{GoesOn, IsFresh, IsReading, begin_of, limits_of, name_of, read_of}
use Rattle.ps_lines.specs.declared.reader.LineReader.{LineReader}
use Rattle.ps_lines.specs.declared.reader.Limits.{Limits}
use Rattle.ps_lines.specs.declared.reader.Got.{Got}
use Rattle.ps_lines.specs.declared.reader.Got.TheVariants.{Line, LastLine, TooLong, TooLarge, End}
use Rattle.ps_trace.specs.Leaving.{Shelf, Leaves, IsUnderWay, IsFurther, Came, CountsBy, ShowsHeld}
use Rattle.ps_trace.specs.Reading.{IsRead}
use Rattle.ps_trace.proofs.FaultLemmas.{found_either}

-- a line that came takes the reader on
came_ahead : (got : Got) (old new : LineReader) → Came got → GoesOn got old new → begin_of old < begin_of new
came_ahead Line old new came goes = goes
came_ahead LastLine old new came goes = goes
came_ahead TooLong old new came goes = absurd came
came_ahead TooLarge old new came goes = absurd came
came_ahead End old new came goes = absurd came

-- what is greater is not 0
no_zero : (a b : ℕ) → a < b → b ≡ 0 → ⊥
no_zero a b less none = omega arith

-- the name of a reader under way is held, where it read anything now
pub held_now : (files : Shelf) (lines : LineReader) → IsUnderWay files lines → (IsTrue files.tells → read_of lines ≡ 0 → IsSome (files.held (name_of lines))) →
    IsTrue files.tells → IsSome (files.held (name_of lines))
held_now files lines way now tells = found_either (begin_of lines) (read_of lines) (way.found tells) (now tells) way.fresh

-- a reader is further by a line that came
pub further_by : (got : Got) (files : Shelf) (old new : LineReader) → IsUnderWay files old → GoesOn got old new →
    (IsTrue files.tells → (text : List ℕ) → files.held (name_of old) ≡ Some text → IsReading old text → IsReading new text) →
    (IsTrue files.tells → read_of old ≡ 0 → IsSome (files.held (name_of old))) →
    begin_of new ≤ (limits_of new).largest → name_of new ≡ name_of old → limits_of new ≡ limits_of old → Came got → IsFurther files old new
further_by got files old new way goes reads now near name limits came =
    let ahead = came_ahead got old new came goes in
    record {
      way = record {
        reads = λ tells text held. reads tells text (ap files.held (sym name) ∙ held) (way.reads tells text (ap files.held (sym name) ∙ held));
        found = λ tells some. subst (λ (n : List ℕ). IsSome (files.held n)) (sym name) (held_now files old way now tells);
        fresh = λ none. absurd (no_zero (begin_of old) (begin_of new) ahead none);
        near = near;
      };
      ahead = ahead;
      name = name;
      limits = limits;
    }

-- a reader is under way among files that hold the same
pub way_among : (old new : Shelf) (lines : LineReader) → new.held ≡ old.held → new.tells ≡ old.tells → IsUnderWay old lines → IsUnderWay new lines
way_among old new lines kept telling way = record {
  reads = λ tells text held. way.reads (subst IsTrue telling tells) text (sym (ap (λ (h : List ℕ → Option (List ℕ)). h (name_of lines)) kept) ∙ held);
  found = λ tells some. subst (λ (h : List ℕ → Option (List ℕ)). IsSome (h (name_of lines))) (sym kept) (way.found (subst IsTrue telling tells) some);
  fresh = way.fresh;
  near = way.near;
}

-- a reader that is further is further from an earlier place on
behind_less : (a b c : ℕ) → a ≤ b → b < c → a < c
behind_less a b c ab bc = omega arith

pub further_from : (old new : Shelf) (first mid last : LineReader) → new.held ≡ old.held → new.tells ≡ old.tells → begin_of first ≤ begin_of mid →
    name_of mid ≡ name_of first → limits_of mid ≡ limits_of first → IsFurther new mid last → IsFurther old first last
further_from old new first mid last kept telling behind name limits further = record {
  way = way_among new old last (sym kept) (sym telling) further.way;
  ahead = behind_less (begin_of first) (begin_of mid) (begin_of last) behind further.ahead;
  name = further.name ∙ name;
  limits = further.limits ∙ limits;
}

-- a call that read on without a failed read leaves files as they were
pub leaves_read : {X : Type 0} (ended : Result X TextFail) (name : List ℕ) (old new : Shelf) → new.held ≡ old.held → new.tells ≡ old.tells → CountsStay old.faults new.faults →
    (IsTrue old.tells → IsSome (old.held name)) → ¬ IsErrOf ended IsFault → Leaves name old new ended
leaves_read (Ok value) name old new kept telling stays found sound = record { kept = kept; telling = telling; counts = stays; found = found }
leaves_read (Err NoMemory) name old new kept telling stays found sound = record { kept = kept; telling = telling; counts = stays; found = λ tells. tt }
leaves_read (Err IsFault) name old new kept telling stays found sound = absurd (sound refl)
leaves_read (Err (IsRefused refusal)) name old new kept telling stays found sound = record { kept = kept; telling = telling; counts = stays; found = found }

-- the same after calls before it
pub leaves_from : {X : Type 0} (ended : Result X TextFail) (name same : List ℕ) (first mid last : Shelf) → mid.held ≡ first.held → mid.tells ≡ first.tells →
    CountsStay first.faults mid.faults → same ≡ name → Leaves same mid last ended → Leaves name first last ended
leaves_from {X} ended name same first mid last kept telling stays is leaves = record {
  kept = leaves.kept ∙ kept;
  telling = leaves.telling ∙ telling;
  counts = counts_from ended leaves.counts;
  found = λ tells. held_from ended (leaves.found (subst IsTrue (sym telling) tells));
}
  where
    rose_from : Rose (mid.faults same) (last.faults same) → Rose (first.faults name) (last.faults name)
    rose_from rose = subst (λ (n : ℕ). Rose n (last.faults name)) (stays name) (subst (λ (n : List ℕ). Rose (mid.faults n) (last.faults n)) is rose)

    counts_from : (e : Result X TextFail) → CountsBy e same mid.faults last.faults → CountsBy e name first.faults last.faults
    counts_from (Ok value) counts = λ other. counts other ∙ stays other
    counts_from (Err NoMemory) counts = λ other. counts other ∙ stays other
    counts_from (Err IsFault) counts = (rose_from counts.0, λ other. subst (λ (n : ℕ). n ≤ last.faults other) (stays other) (counts.1 other))
    counts_from (Err (IsRefused refusal)) counts = λ other. counts other ∙ stays other

    some_from : IsSome (mid.held same) → IsSome (first.held name)
    some_from some = subst IsSome (ap mid.held is ∙ ap (λ (h : List ℕ → Option (List ℕ)). h name) kept) some

    held_from : (e : Result X TextFail) → ShowsHeld e (IsSome (mid.held same)) → ShowsHeld e (IsSome (first.held name))
    held_from (Ok value) some = some_from some
    held_from (Err NoMemory) some = tt
    held_from (Err IsFault) some = tt
    held_from (Err (IsRefused refusal)) some = some_from some

-- an answer with a value, and one with an error
abbrev pub given : {X : Type 0} → X → Result X TextFail
given value = Ok value

abbrev pub failing : (X : Type 0) → TextFail → Result X TextFail
failing X why = Err why

pub given_no_failing : {X : Type 0} (value : X) (why : TextFail) → given value ≡ failing X why → ⊥
given_no_failing value why same = cc

pub same_failing : (X : Type 0) (why other : TextFail) → failing X why ≡ failing X other → why ≡ other
same_failing X why other same = cc

-- another answer with the same error leaves the same, and so do two answers with values
pub leaves_failing : (X Y : Type 0) (why : TextFail) (name : List ℕ) (old new : Shelf) → Leaves name old new (failing X why) → Leaves name old new (failing Y why)
leaves_failing X Y NoMemory name old new leaves = record { kept = leaves.kept; telling = leaves.telling; counts = leaves.counts; found = leaves.found }
leaves_failing X Y IsFault name old new leaves = record { kept = leaves.kept; telling = leaves.telling; counts = leaves.counts; found = leaves.found }
leaves_failing X Y (IsRefused refusal) name old new leaves = record { kept = leaves.kept; telling = leaves.telling; counts = leaves.counts; found = leaves.found }

pub leaves_giving : {X Y : Type 0} (x : X) (y : Y) (name : List ℕ) (old new : Shelf) → Leaves name old new (given x) → Leaves name old new (given y)
leaves_giving x y name old new leaves = record { kept = leaves.kept; telling = leaves.telling; counts = leaves.counts; found = leaves.found }

-- a reader of which nothing was read is under way
pub fresh_way : (files : Shelf) (chosen : Limits) (lines : LineReader) → IsFresh chosen lines → IsUnderWay files lines
fresh_way files chosen lines fresh = record {
  reads = λ tells text held. fresh.reads text;
  found = λ tells some. absurd (omega (arith, fresh.nothing));
  fresh = λ none. fresh.nothing;
  near = omega (arith, fresh.nothing);
}

-- what an answer with a value says holds where another fact follows from it
pub on_ok : {X E : Type 0} (P Q : Type 0) (ended : Result X E) → (P → Q) → OnOk ended P → OnOk ended Q
on_ok P Q (Ok value) follows held = follows held
on_ok P Q (Err why) follows held = tt

pub if_ok : {X E : Type 0} (R : X → Type 0) (P Q : Type 0) (ended : Result X E) → (P → Q) → IfOk ended (λ x. R x → P) → IfOk ended (λ x. R x → Q)
if_ok R P Q (Ok value) follows held = λ so. follows (held so)
if_ok R P Q (Err why) follows held = tt

-- a text that is held under a name is held after calls that keep both
pub held_after : (held kept : List ℕ → Option (List ℕ)) (name same text : List ℕ) → kept ≡ held → same ≡ name → held name ≡ Some text → kept same ≡ Some text
held_after held kept name same text alike named is = ap (λ (h : List ℕ → Option (List ℕ)). h same) alike ∙ ap held named ∙ is

-- numbers of lines, and the places where they begin
pub itself : (n : ℕ) → n ≤ n
itself n = omega arith

pub at_least_one : (n : ℕ) → 1 ≤ n + 1
at_least_one n = omega arith

pub counted_on : (number next begin end : ℕ) → number ≤ begin + 1 → next ≤ number + 1 → begin < end → next ≤ end + 1
counted_on number next begin end counted few ahead = omega arith

pub no_less_on : (first begin end : ℕ) → first ≤ begin → begin < end → first ≤ end
no_less_on first begin end behind ahead = omega arith

pub within_room : (number begin most : ℕ) → number ≤ begin + 1 → begin ≤ most → number ≤ most + 1
within_room number begin most counted near = omega arith

pub falls : (most begin end : ℕ) → begin < end → end ≤ most → most + 1 - end < most + 1 - begin
falls most begin end ahead near = omega arith

-- what a call leaves, clause by clause
module _ {X : Type 0} (ended : Result X TextFail) (name : List ℕ) (old new : Shelf) (leaves : Leaves name old new ended) where
  pub clause_fault : IsErrOf ended IsFault → Rose (old.faults name) (new.faults name)
  clause_fault failed = (subst (λ (e : Result X TextFail). CountsBy e name old.faults new.faults) failed leaves.counts).0

  pub clause_exact : ¬ IsErrOf ended IsFault → CountsStay old.faults new.faults
  clause_exact sound = exact_of ended leaves.counts sound
    where
      exact_of : (e : Result X TextFail) → CountsBy e name old.faults new.faults → ¬ IsErrOf e IsFault → CountsStay old.faults new.faults
      exact_of (Ok value) counts fine = counts
      exact_of (Err NoMemory) counts fine = counts
      exact_of (Err IsFault) counts fine = absurd (fine refl)
      exact_of (Err (IsRefused refusal)) counts fine = counts

  pub clause_counts : (other : List ℕ) → old.faults other ≤ new.faults other
  clause_counts other = counts_of ended leaves.counts
    where
      no_less : (a b : ℕ) → b ≡ a → a ≤ b
      no_less a b same = omega arith

      counts_of : (e : Result X TextFail) → CountsBy e name old.faults new.faults → old.faults other ≤ new.faults other
      counts_of (Ok value) counts = no_less (old.faults other) (new.faults other) (counts other)
      counts_of (Err NoMemory) counts = no_less (old.faults other) (new.faults other) (counts other)
      counts_of (Err IsFault) counts = counts.1 other
      counts_of (Err (IsRefused refusal)) counts = no_less (old.faults other) (new.faults other) (counts other)

  pub clause_found : IsTrue old.tells → IsRead ended → IsSome (old.held name)
  clause_found tells read = found_of ended (leaves.found tells) read
    where
      found_of : (e : Result X TextFail) → ShowsHeld e (IsSome (old.held name)) → IsRead e → IsSome (old.held name)
      found_of (Ok value) some is = some
      found_of (Err NoMemory) some is = absurd is
      found_of (Err IsFault) some is = absurd is
      found_of (Err (IsRefused refusal)) some is = some
