-- Marks of nodes before any is made.
use Rattle.std.proofs.Common.{◌≡◌, ℕ, suc, zero, false, replicate, refl, get_or}

-- at first nothing is marked
pub no_mark_at_first : (n m : ℕ) → get_or (replicate n false) m false ≡ false
no_mark_at_first zero m = refl
no_mark_at_first (suc n) zero = refl
no_mark_at_first (suc n) (suc m) = no_mark_at_first n m
