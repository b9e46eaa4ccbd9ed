-- Columns in bytes and in code units are inverse of each other.
use Rattle.std.proofs.Common.{◌≡◌, ℕ, ◌+◌, ◌<◌, ◌≤◌, List, length, take, get_or, inl, inr, arith, sym, ap, subst}
use Rattle.std.specs.Str.{IsCharBoundary}
use Rattle.std.proofs.lemmas.Bool.{cases_order}
use Rattle.std.proofs.lemmas.Bool.Decides.{nat_tests}
use Rattle.std.proofs.lemmas.List.Sums.{sum_by_more, sum_by-take-le}
use Rattle.std.proofs.lemmas.List.{take-take}
use Rattle.ps_text.specs.Columns.{IsOffsetOf, unit_width, units}

-- a byte that begins a character brings a unit
pub beginning : (byte : ℕ) → (128 ≤ byte → 192 ≤ byte) → 1 ≤ unit_width byte
beginning byte h = grind (arith, nat_tests)

-- an earlier place has no more units before it
pub earlier : (line : List ℕ) (i j : ℕ) → i ≤ j → units (take i line) ≤ units (take j line)
earlier line i j h = let e = ap units (take-take i j line h) in let k = sum_by-take-le unit_width (take j line) i in omega (arith, e, k)

-- the units before the next place
pub next : (line : List ℕ) (i : ℕ) → i < length line → units (take (i + 1) line) ≡ units (take i line) + unit_width (get_or line i 0)
next line i h = sum_by_more unit_width line i 0 h

pub inverse : (line : List ℕ) (place offset : ℕ) → IsCharBoundary line place →
    IsOffsetOf line (units (take place line)) offset → offset ≡ place
inverse line place offset boundary is = elim (cases_order offset place) [
  | inl same ↦ same
  | inr other ↦ elim other [
    | inl less ↦
        let low : offset < length line = omega (arith, boundary.0) in
        let more = next line offset low in
        let some = beginning (get_or line offset 0) (is.between.1 low) in
        let up = earlier line (offset + 1) place (omega arith) in
        let reached = is.enough low in
        omega arith
    | inr more ↦ let strictly = is.first place more boundary in omega arith
  ]
]

-- what holds at each place between characters up to an offset holds up to the next one too
pub passed : (line : List ℕ) (offset column : ℕ) →
    ((k : ℕ) → k < offset → IsCharBoundary line k → units (take k line) < column) →
    (IsCharBoundary line offset → units (take offset line) < column) →
    (k : ℕ) → k < offset + 1 → IsCharBoundary line k → units (take k line) < column
passed line offset column before here k below = elim (cases_order k offset) [
  | inl same ↦ subst (λ n. IsCharBoundary line n → units (take n line) < column) (sym same) here
  | inr other ↦ elim other [ inl less ↦ before k less | inr more ↦ absurd (omega arith) ]
]
