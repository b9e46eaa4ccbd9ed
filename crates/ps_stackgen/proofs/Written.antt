-- The code of a group as the loop over its operands writes it.
use Rattle.std.proofs.Common.{◌≡◌, ℕ, suc, ◌+◌, List, ◌∷◌, ◌++◌, refl, sym, ap, ◌∙◌, arith}
use Rattle.std.proofs.lemmas.Grind.{flat_map-append}
use Rattle.ps_model.specs.Formula.{Formula, Formulas, no_operand, operand}
use Rattle.ps_stackvm.specs.declared.instruction.Instruction.{Instruction}
use Rattle.ps_stackvm.specs.Code.{expression_code, group_code, later_code, bytes_of, encoded}
use Rattle.ps_stackgen.specs.Written.{join_at, left_code}

later_left : (join : Instruction) (place : ℕ) (es : Formulas) → left_code join (suc place) es ≡ later_code join es
later_left join place no_operand = refl
later_left join place (operand e es) =
    ap (λ l. expression_code e ++ (join ∷ l)) (later_left join (suc place) es)

pub all_left : (join : Instruction) (es : Formulas) → left_code join 0 es ≡ group_code join es
all_left join no_operand = refl
all_left join (operand e es) = ap (λ l. expression_code e ++ l) (later_left join 0 es)

pub bytes-append : (a b : List Instruction) → bytes_of (a ++ b) ≡ bytes_of a ++ bytes_of b
bytes-append a b = flat_map-append encoded a b

-- one more operand of a group
pub operand_next : (join : Instruction) (place : ℕ) (e : Formula) (es : Formulas) →
    bytes_of (left_code join place (operand e es)) ≡ bytes_of (expression_code e) ++ (bytes_of (join_at join place) ++ bytes_of (left_code join (place + 1) es))
operand_next join place e es =
    let next : place + 1 ≡ suc place = omega arith in
    bytes-append (expression_code e) (join_at join place ++ left_code join (suc place) es)
    ∙ ap (λ l. bytes_of (expression_code e) ++ l) (bytes-append (join_at join place) (left_code join (suc place) es))
    ∙ ap (λ n. bytes_of (expression_code e) ++ (bytes_of (join_at join place) ++ bytes_of (left_code join n es))) (sym next)
