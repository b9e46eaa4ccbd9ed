-- A guard with alternatives takes the same as one way for each of them, over all choices of their Booleans.
use Rattle.std.proofs.Common.{◌≡◌, ℕ, Bool, true, false, cond, refl, ◌&&◌, ◌||◌, not}

-- not both, as: not the first, or not the second
pub not_both : (a b : Bool) (x y : ℕ) → cond (not a) x (cond (not b) x y) ≡ cond (not (a && b)) x y
not_both true true x y = refl
not_both true false x y = refl
not_both false b x y = refl

-- one of two
pub one_of : (a b : Bool) (x y : ℕ) → cond a x (cond b x y) ≡ cond (a || b) x y
one_of true b x y = refl
one_of false b x y = refl

-- the first with one of two others
pub with_one_of : (l a b : Bool) (x y : ℕ) → cond (l && a) x (cond (l && b) x y) ≡ cond (l && (a || b)) x y
with_one_of true a b x y = one_of a b x y
with_one_of false a b x y = refl

-- one of two with the last
pub one_of_with : (a b l : Bool) (x y : ℕ) → cond (a && l) x (cond (b && l) x y) ≡ cond ((a || b) && l) x y
one_of_with true true true x y = refl
one_of_with true true false x y = refl
one_of_with true false true x y = refl
one_of_with true false false x y = refl
one_of_with false b l x y = refl

-- not the second alone, as: the first, or not the second
pub not_second_alone : (a b : Bool) (x y : ℕ) → cond a x (cond (not b) x y) ≡ cond (not (not a && b)) x y
not_second_alone true b x y = refl
not_second_alone false true x y = refl
not_second_alone false false x y = refl

-- a contact that is on where it is FALSE: not on
pub not_off : (n : Bool) (x y : ℕ) → cond n x y ≡ cond (not (not n)) x y
not_off true x y = refl
not_off false x y = refl

-- neither the first nor such a contact
pub neither : (a n : Bool) (x y : ℕ) → cond (not a && n) x y ≡ cond (not a && not (not n)) x y
neither true n x y = refl
neither false true x y = refl
neither false false x y = refl

-- not both the first and such a contact
pub not_both_off : (a n : Bool) (x y : ℕ) → cond (not a) x (cond n x y) ≡ cond (not (a && not n)) x y
not_both_off true true x y = refl
not_both_off true false x y = refl
not_both_off false n x y = refl

-- three, of which the first two stand together
pub two_and : (a b l : Bool) (x y : ℕ) → cond (a && (b && l)) x y ≡ cond ((a && b) && l) x y
two_and true b l x y = refl
two_and false b l x y = refl
