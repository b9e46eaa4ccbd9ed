-- Two states of a table have one code exactly where they are one.
use Rattle.std.proofs.Common.{◌≡◌, ℕ, Bool, true, false, refl, ap}
use Rattle.std.specs.Prelude.{◌==◌, not}
use Rattle.std.proofs.lemmas.Bool.Decides.{same_from_decides, Decides-eqb}
use denote.Enum.Declared.{Declared}
use denote.Enum.Bare.{Bare, sameb, same_true, true_same}

-- `==` of two codes is `==` of their states
pub same_code : (D : Declared) → Bare D.parts → (code_of : D.D → ℕ) → ((p q : D.D) → code_of p ≡ code_of q → p ≡ q) → (p q : D.D) → (code_of p == code_of q) ≡ sameb D p q
same_code D bare code_of same p q =
    let by_code = Decides-eqb (code_of p) (code_of q) in
    same_from_decides {P = p ≡ q} _ _ (λ e. same p q (by_code.0 e), λ e. by_code.1 (ap code_of e)) (same_true D bare p q, true_same D p q)

-- what is not false is true
pub not_not : (b : Bool) → not (not b) ≡ b
not_not true = refl
not_not false = refl
