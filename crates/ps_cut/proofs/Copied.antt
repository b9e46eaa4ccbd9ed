-- What copies of formulas and pins are, where the signals that stand for each other have equal values.
use Rattle.std.proofs.Common.{◌≡◌, ℕ, zero, suc, ◌+◌, Bool, List, [], ◌∷◌, Some, refl, ap, ◌&&◌, ◌||◌, get_or, map}
use Rattle.std.specs.Prelude.{slice_get, slice_index_or}
use Rattle.ps_model.specs.declared.kind.Ty.{Ty}
use Rattle.ps_model.specs.declared.kind.Ty.TheVariants.{Safe, Bool as Plain, Time}
use Rattle.ps_model.specs.Action.{Actual, free, literal, time, wired}
use Rattle.ps_model.specs.Blocks.{Pin}
use Rattle.ps_model.specs.Formula.{Formula, Formulas, signal, all_of, any_of, no_operand, operand, value, all_true, any_true}
use Rattle.ps_model.specs.Scanning.{pin_value, time_value, times_at}
use Rattle.ps_cut.specs.Parts.{AreCopies, AreOperands, IsActualCopy, IsCopy}

-- an element of a list that is made of another
pub at_map : {X Y : Type 0} (f : X → Y) (xs : List X) (k : ℕ) (x : X) (d : Y) → slice_get xs k ≡ Some x → get_or (map f xs) k d ≡ f x
at_map f [] k x d at = absurd cc
at_map f (y ∷ xs) zero x d at = let same : y ≡ x = cc in ap f same
at_map f (y ∷ xs) (suc k) x d at = at_map f xs k x d at

-- signals that stand for each other have equal values
abbrev pub ReadAlike : (ℕ → ℕ → Type 0) → (v v' : ℕ → Bool) → Type 0
ReadAlike P v v' = (r s : ℕ) → P r s → v r ≡ v' s

mutual
  pub value_copied : (P : ℕ → ℕ → Type 0) (v v' : ℕ → Bool) → ReadAlike P v v' → (e f : Formula) → IsCopy P e f → value v e ≡ value v' f
  value_copied P v v' same (signal r) (signal s) h = same r s h
  value_copied P v v' same (signal r) (all_of fs) h = absurd h
  value_copied P v v' same (signal r) (any_of fs) h = absurd h
  value_copied P v v' same (all_of es) (signal s) h = absurd h
  value_copied P v v' same (all_of es) (all_of fs) h = all_copied P v v' same es fs h
  value_copied P v v' same (all_of es) (any_of fs) h = absurd h
  value_copied P v v' same (any_of es) (signal s) h = absurd h
  value_copied P v v' same (any_of es) (all_of fs) h = absurd h
  value_copied P v v' same (any_of es) (any_of fs) h = any_copied P v v' same es fs h

  all_copied : (P : ℕ → ℕ → Type 0) (v v' : ℕ → Bool) → ReadAlike P v v' → (es fs : Formulas) → AreOperands P es fs → all_true v es ≡ all_true v' fs
  all_copied P v v' same no_operand no_operand h = refl
  all_copied P v v' same no_operand (operand f fs) h = absurd h
  all_copied P v v' same (operand e es) no_operand h = absurd h
  all_copied P v v' same (operand e es) (operand f fs) h =
      let first = value_copied P v v' same e f h.0 in
      let rest = all_copied P v v' same es fs h.1 in
      λ i. first i && rest i

  any_copied : (P : ℕ → ℕ → Type 0) (v v' : ℕ → Bool) → ReadAlike P v v' → (es fs : Formulas) → AreOperands P es fs → any_true v es ≡ any_true v' fs
  any_copied P v v' same no_operand no_operand h = refl
  any_copied P v v' same no_operand (operand f fs) h = absurd h
  any_copied P v v' same (operand e es) no_operand h = absurd h
  any_copied P v v' same (operand e es) (operand f fs) h =
      let first = value_copied P v v' same e f h.0 in
      let rest = any_copied P v v' same es fs h.1 in
      λ i. first i || rest i

pin_copied : (P : ℕ → ℕ → Type 0) (v v' : ℕ → Bool) → ReadAlike P v v' → (default : Bool) (a b : Actual) → IsActualCopy P a b →
    pin_value v default a ≡ pin_value v' default b
pin_copied P v v' same default free free h = refl
pin_copied P v v' same default free (literal c) h = absurd h
pin_copied P v v' same default free (time c) h = absurd h
pin_copied P v v' same default free (wired f) h = absurd h
pin_copied P v v' same default (literal b) free h = absurd h
pin_copied P v v' same default (literal b) (literal c) h = h
pin_copied P v v' same default (literal b) (time c) h = absurd h
pin_copied P v v' same default (literal b) (wired f) h = absurd h
pin_copied P v v' same default (time t) free h = absurd h
pin_copied P v v' same default (time t) (literal c) h = absurd h
pin_copied P v v' same default (time t) (time c) h = refl
pin_copied P v v' same default (time t) (wired f) h = absurd h
pin_copied P v v' same default (wired e) free h = absurd h
pin_copied P v v' same default (wired e) (literal c) h = absurd h
pin_copied P v v' same default (wired e) (time c) h = absurd h
pin_copied P v v' same default (wired e) (wired f) h = value_copied P v v' same e f h

-- a pin of a call and the same pin of its copy
pub arg_copied : (P : ℕ → ℕ → Type 0) (v v' : ℕ → Bool) → ReadAlike P v v' → (default : Bool) (args others : List Actual) (j : ℕ) →
    AreCopies (IsActualCopy P) args others → pin_value v default (slice_index_or args j free) ≡ pin_value v' default (slice_index_or others j free)
arg_copied P v v' same default [] [] j h = refl
arg_copied P v v' same default [] (b ∷ others) j h = absurd h
arg_copied P v v' same default (a ∷ args) [] j h = absurd h
arg_copied P v v' same default (a ∷ args) (b ∷ others) zero h = pin_copied P v v' same default a b h.0
arg_copied P v v' same default (a ∷ args) (b ∷ others) (suc j) h = arg_copied P v v' same default args others j h.1

time_copied : (P : ℕ → ℕ → Type 0) (ty : Ty) (a b : Actual) → IsActualCopy P a b → time_value ty a ≡ time_value ty b
time_copied P Safe a b h = refl
time_copied P Plain a b h = refl
time_copied P Time free free h = refl
time_copied P Time free (literal c) h = refl
time_copied P Time free (time c) h = absurd h
time_copied P Time free (wired f) h = refl
time_copied P Time (literal b) free h = refl
time_copied P Time (literal b) (literal c) h = refl
time_copied P Time (literal b) (time c) h = absurd h
time_copied P Time (literal b) (wired f) h = refl
time_copied P Time (time t) free h = absurd h
time_copied P Time (time t) (literal c) h = absurd h
time_copied P Time (time t) (time c) h = h
time_copied P Time (time t) (wired f) h = absurd h
time_copied P Time (wired e) free h = refl
time_copied P Time (wired e) (literal c) h = refl
time_copied P Time (wired e) (time c) h = absurd h
time_copied P Time (wired e) (wired f) h = refl

-- the limit that a call gives and the one that its copy gives
pub times_copied : (P : ℕ → ℕ → Type 0) (pins : List Pin) (args others : List Actual) → AreCopies (IsActualCopy P) args others → times_at pins args ≡ times_at pins others
times_copied P [] args others h = refl
times_copied P (p ∷ pins) [] [] h = refl
times_copied P (p ∷ pins) [] (b ∷ others) h = absurd h
times_copied P (p ∷ pins) (a ∷ args) [] h = absurd h
times_copied P (p ∷ pins) (a ∷ args) (b ∷ others) h =
    let first = time_copied P p.ty a b h.0 in
    let rest = times_copied P pins args others h.1 in
    λ i. first i + rest i
