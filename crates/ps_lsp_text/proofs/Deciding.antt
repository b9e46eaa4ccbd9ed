-- The bytes that decide of a text.
use Rattle.std.proofs.Common.{◌≡◌, ◌≤◌, ◌+◌, ℕ, List, length, take, sym, ◌∙◌, ap, arith}
use Rattle.std.proofs.lemmas.List.{take_all}
use Rattle.ps_base.specs.declared.limits.TheConstants.{LARGEST_SOURCE}

-- a text that is not too large decides of itself
pub whole : (bytes text : List ℕ) → bytes ≡ text → length bytes ≤ LARGEST_SOURCE → bytes ≡ take (LARGEST_SOURCE + 1) text
whole bytes text same small = sym (take_all (LARGEST_SOURCE + 1) bytes (omega arith)) ∙ ap (λ (t : List ℕ). take (LARGEST_SOURCE + 1) t) same

-- the front of the same bytes is the same
pub front_of : (bytes text : List ℕ) → bytes ≡ text → take (LARGEST_SOURCE + 1) bytes ≡ take (LARGEST_SOURCE + 1) text
front_of bytes text same = ap (λ (t : List ℕ). take (LARGEST_SOURCE + 1) t) same
