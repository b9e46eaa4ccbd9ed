-- Bytes are the parts of a TIME literal, or not.
use Rattle.std.proofs.Common.{◌≡◌, ℕ, zero, suc, ◌+◌, ◌*◌, ◌<◌, ◌≤◌, ◌⊎◌, inl, inr, Bool, true, false, List, [], ◌∷◌, ◌++◌, length, refl, ap, ◌∙◌, subst, ⊎_elim, get_or, arith}
use Rattle.std.proofs.lemmas.Bool.{cases_lt}
use Rattle.std.specs.List.{AllByRecursion}
use Rattle.std.specs.Char.{is_ascii_digit, is_ascii_alphabetic}
use Rattle.ps_base.specs.declared.limits.TheConstants.{LARGEST_TIME}
use Rattle.ps_lexer.specs.declared.time.TimeUnit.{TimeUnit}
use Rattle.ps_lexer.specs.declared.time.TimeUnit.TheVariants.{Day, Hour, Minute, Second, Millisecond}
use Rattle.ps_lexer.specs.Spelling.{folded}
use Rattle.ps_lexer.specs.TimeLiterals.{unit_spelling, milliseconds, rank, number_of, PartsGive, IsTimeValue}
use Rattle.ps_lexer.specs.Scanning.{Stops, IsSplit, gap_rest}
use Rattle.ps_lexer.proofs.Times.{not_empty, not_unit, not_early, at_end, going, goes_on, one_value}
use Rattle.ps_language_laws.proofs.Searching.{one_of}

-- the longest front of bytes that pass a test, and the rest
record IsRun (test : ℕ → Bool) (bytes : List ℕ) : Type 0 where
  front : List ℕ
  rest : List ℕ
  is : bytes ≡ front ++ rest
  passes : AllByRecursion (λ b. test b ≡ true) front
  stops : Stops test rest

run_of : (test : ℕ → Bool) (bytes : List ℕ) → IsRun test bytes
run_of test [] = record { front = []; rest = []; is = refl; passes = tt; stops = tt }
run_of test (b ∷ bytes) = by (run_of test bytes) (test b) refl
  where
    by : IsRun test bytes → (t : Bool) → test b ≡ t → IsRun test (b ∷ bytes)
    by r true e = record { front = b ∷ r.front; rest = r.rest; is = ap (λ l. b ∷ l) r.is; passes = (e, r.passes); stops = r.stops }
    by r false e = record { front = []; rest = b ∷ bytes; is = refl; passes = tt; stops = e }

-- the digits, the letters and the rest
abbrev Split : List ℕ → Type 0
Split bytes = (ds : List ℕ) × (ls : List ℕ) × (tail : List ℕ) × IsSplit bytes ds ls tail

split_of : (bytes : List ℕ) → Split bytes
split_of bytes =
    let digits = run_of is_ascii_digit bytes in
    let letters = run_of is_ascii_alphabetic digits.rest in (
      digits.front,
      letters.front,
      letters.rest,
      record {
        is = digits.is ∙ ap (λ l. digits.front ++ l) letters.is;
        only_digits = digits.passes;
        no_digit = subst (Stops is_ascii_digit) letters.is digits.stops;
        only_letters = letters.passes;
        no_letter = letters.stops;
      },
    )

-- ---- units

abbrev units : List TimeUnit
units = Day ∷ Hour ∷ Minute ∷ Second ∷ Millisecond ∷ []

abbrev unit_at : ℕ → TimeUnit
unit_at n = get_or units n Day

unit_of_rank : (u : TimeUnit) → unit_at (rank u) ≡ u
unit_of_rank Day = refl
unit_of_rank Hour = refl
unit_of_rank Minute = refl
unit_of_rank Second = refl
unit_of_rank Millisecond = refl

rank_below : (u : TimeUnit) → rank u < 5
rank_below Day = omega arith
rank_below Hour = omega arith
rank_below Minute = omega arith
rank_below Second = omega arith
rank_below Millisecond = omega arith

unit_decided : (letters : List ℕ) → ((u : TimeUnit) × (folded letters ≡ unit_spelling u)) ⊎ ((u : TimeUnit) → folded letters ≡ unit_spelling u → ⊥)
unit_decided letters = one_of unit_at rank 5 unit_of_rank rank_below unit_spelling (folded letters)

-- ---- parts

abbrev Given : ℕ → List ℕ → Type 0
Given least bytes = ((v : ℕ) × PartsGive least bytes v) ⊎ ((v : ℕ) → PartsGive least bytes v → ⊥)

-- a list has items, or none
some_or_none : (xs : List ℕ) → (xs ≡ []) ⊎ (xs ≡ [] → ⊥)
some_or_none [] = inl refl
some_or_none (x ∷ xs) = inr (λ e. cc)

-- a part whose unit comes in order, and what follows it
part_then : (least : ℕ) (bytes ds ls tail : List ℕ) → IsSplit bytes ds ls tail → (length ds ≡ 0 → ⊥) → (u : TimeUnit) → folded ls ≡ unit_spelling u → least ≤ rank u
    → Given (suc (rank u)) (gap_rest tail) → Given least bytes
part_then least bytes ds ls tail split some u unit le behind = by (some_or_none tail) behind
  where
    by : (tail ≡ []) ⊎ (tail ≡ [] → ⊥) → Given (suc (rank u)) (gap_rest tail) → Given least bytes
    by (inl none) _ = inl (number_of ds * milliseconds u, at_end split u unit some le none)
    by (inr more) (inl w) = inl (number_of ds * milliseconds u + w.0, going split u unit some le w.1)
    by (inr more) (inr none) = inr (λ v t. let k = goes_on split u unit more t in none k.0 k.1)

empty_or_not : (n : ℕ) → (n ≡ 0) ⊎ (n ≡ 0 → ⊥)
empty_or_not zero = inl refl
empty_or_not (suc n) = inr (λ e. absurd (omega (arith, e)))

-- the first part, and what follows it
first_decided : (least : ℕ) (bytes ds ls tail : List ℕ) → IsSplit bytes ds ls tail → ((u : TimeUnit) → least ≤ rank u → Given (suc (rank u)) (gap_rest tail)) → Given least bytes
first_decided least bytes ds ls tail split behind = by (empty_or_not (length ds)) (unit_decided ls)
  where
    by : (length ds ≡ 0) ⊎ (length ds ≡ 0 → ⊥) → ((u : TimeUnit) × (folded ls ≡ unit_spelling u)) ⊎ ((u : TimeUnit) → folded ls ≡ unit_spelling u → ⊥) → Given least bytes
    by (inl none) _ = inr (λ v t. not_empty split none t)
    by (inr some) (inr none) = inr (λ v t. not_unit split none t)
    by (inr some) (inl u) =
        ⊎_elim (λ early. inr (λ v t. not_early split u.0 u.1 early t)) (λ le. part_then least bytes ds ls tail split some u.0 u.1 le (behind u.0 le)) (cases_lt (rank u.0) least)

-- units come in order, so there are at most five parts
parts_from : (fuel least : ℕ) (bytes : List ℕ) → 5 ≤ least + fuel → Given least bytes
parts_from zero least bytes room =
    let s = split_of bytes in first_decided least bytes s.0 s.1 s.2 s.3 (λ u le. absurd (omega (arith, rank_below u, le, room)))
parts_from (suc fuel) least bytes room =
    let s = split_of bytes in first_decided least bytes s.0 s.1 s.2 s.3 (λ u le. parts_from fuel (suc (rank u)) (gap_rest s.2) (omega (arith, le, room)))

pub time_decided : (bytes : List ℕ) → ((v : ℕ) × IsTimeValue bytes v) ⊎ ((v : ℕ) → IsTimeValue bytes v → ⊥)
time_decided bytes = by (parts_from 5 0 bytes (omega arith))
  where
    by : Given 0 bytes → ((v : ℕ) × IsTimeValue bytes v) ⊎ ((v : ℕ) → IsTimeValue bytes v → ⊥)
    by (inr none) = inr (λ v t. none v t.0)
    by (inl g) = ⊎_elim
        (λ large. inr (λ v t. let same = one_value t.0 g.1 in let small = t.1 in omega (arith, same, small, large)))
        (λ small. inl (g.0, (g.1, small))) (cases_lt LARGEST_TIME g.0)
