-- Signs are told apart by their numbers.
use Rattle.std.proofs.Common.{◌≡◌, ◌==◌, ℕ, Bool, true, false, List, [], ◌∷◌, Some, get_or, refl, sym, ap, ◌∙◌, arith}
use Rattle.std.proofs.lemmas.Bool.Decides.{nat_tests}
use Rattle.ps_parser.specs.declared.sign.Sign.{Sign}
use Rattle.ps_parser.specs.declared.sign.Sign.TheVariants.{Program, EndProgram, FunctionBlock, EndFunctionBlock, VarInput, VarOutput, Var, EndVar, And, Or, Assign, Colon, Semicolon, Comma, LeftBracket, RightBracket, Dot}
use Rattle.ps_parser.specs.Symbol.{Symbol, Mark, Named, Truth, Duration, rank, is_mark}
use Rattle.ps_parser.specs.Phrase.{next, Stops}

signs : List Sign
signs = Program ∷ EndProgram ∷ FunctionBlock ∷ EndFunctionBlock ∷ VarInput ∷ VarOutput ∷ Var ∷ EndVar ∷ And ∷ Or ∷ Assign ∷ Colon ∷ Semicolon ∷ Comma ∷ LeftBracket ∷ RightBracket ∷ Dot ∷ []

sign_of_rank : (s : Sign) → get_or signs (rank s) Program ≡ s
unfolding signs
sign_of_rank Program = refl
sign_of_rank EndProgram = refl
sign_of_rank FunctionBlock = refl
sign_of_rank EndFunctionBlock = refl
sign_of_rank VarInput = refl
sign_of_rank VarOutput = refl
sign_of_rank Var = refl
sign_of_rank EndVar = refl
sign_of_rank And = refl
sign_of_rank Or = refl
sign_of_rank Assign = refl
sign_of_rank Colon = refl
sign_of_rank Semicolon = refl
sign_of_rank Comma = refl
sign_of_rank LeftBracket = refl
sign_of_rank RightBracket = refl
sign_of_rank Dot = refl

pub one_rank : (s t : Sign) → rank s ≡ rank t → s ≡ t
one_rank s t e = sym (sign_of_rank s) ∙ ap (λ n. get_or signs n Program) e ∙ sign_of_rank t

equal_by_test : (a b : ℕ) → (a == b) ≡ true → a ≡ b
equal_by_test a b e = grind (arith, nat_tests)

unequal_by_test : (a b : ℕ) → (a ≡ b → ⊥) → (a == b) ≡ false
unequal_by_test a b h = grind (arith, nat_tests)

-- the symbol that is this sign
pub mark_is : (s : Sign) (t : Symbol) → is_mark s t ≡ true → t ≡ Mark s
mark_is s (Mark u) e = ap Mark (sym (one_rank s u (equal_by_test (rank s) (rank u) e)))
mark_is s (Named n) e = cc
mark_is s (Truth b p) e = cc
mark_is s (Duration t p) e = cc

-- what is this sign is not another thing
pub of_mark : (f : Symbol → Bool) (s : Sign) → f (Mark s) ≡ false → (t : Symbol) → is_mark s t ≡ true → f t ≡ false
of_mark f s h t e = ap f (mark_is s t e) ∙ h

-- where the sign does not stand next, it does not go on
pub not_next : (s : Sign) (ts : List Symbol) → (next ts ≡ Some (Mark s) → ⊥) → Stops (is_mark s) ts
not_next s [] absent = tt
not_next s (Mark u ∷ ts) absent = unequal_by_test (rank s) (rank u) (λ e. absent (ap (λ v. Some (Mark v)) (sym (one_rank s u e))))
not_next s (Named n ∷ ts) absent = refl
not_next s (Truth b p ∷ ts) absent = refl
not_next s (Duration t p ∷ ts) absent = refl
