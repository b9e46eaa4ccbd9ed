-- Code is at most twice as long as the values that it computes have nodes.
use Rattle.std.proofs.Common.{◌≡◌, ℕ, zero, suc, ◌+◌, ◌*◌, ◌≤◌, List, [], ◌∷◌, length, take, ap, ◌∙◌, arith, refl}
use Rattle.std.specs.Prelude.{slice_get, Some, sum_by}
use Rattle.std.specs.List.{flat_map}
use Rattle.std.proofs.lemmas.List.{length-append}
use Rattle.std.proofs.lemmas.List.Sums.{count_by-le-length, sum_by-append, sum_by-cons}
use Rattle.ps_model.specs.declared.kind.Kind.{Kind}
use Rattle.ps_model.specs.Blocks.{block}
use Rattle.ps_model.proofs.Once.{take_next}
use Rattle.ps_model.specs.Formula.{Formula, Formulas, signal, all_of, any_of, no_operand, operand}
use Rattle.ps_model.specs.Nodes.{nodes, nodes_below}
use Rattle.ps_model.specs.Budgets.{instructions, joined, equation_rows, equation_rows_below, boolean_count, is_boolean}

mutual
  pub instructions_bound : (e : Formula) → instructions e + 1 ≤ 2 * length (nodes e)
  instructions_bound (signal s) = omega arith
  instructions_bound (all_of es) = omega (arith, joined_bound es)
  instructions_bound (any_of es) = omega (arith, joined_bound es)

  pub joined_bound : (es : Formulas) → joined es ≤ 2 * length (nodes_below es)
  joined_bound no_operand = omega arith
  joined_bound (operand e es) =
      omega (arith, instructions_bound e, joined_bound es, length-append (nodes e) (nodes_below es))

mutual
  pub equation_rows_bound : (e : Formula) → equation_rows e + 1 ≡ length (nodes e)
  equation_rows_bound (signal s) = refl
  equation_rows_bound (all_of es) = omega (arith, equation_rows_below_bound es)
  equation_rows_bound (any_of es) = omega (arith, equation_rows_below_bound es)

  pub equation_rows_below_bound : (es : Formulas) → equation_rows_below es ≡ length (nodes_below es)
  equation_rows_below_bound no_operand = refl
  equation_rows_below_bound (operand e es) =
      omega (arith, equation_rows_bound e, equation_rows_below_bound es, length-append (nodes e) (nodes_below es))

-- the Boolean pins of a kind are some of its input pins
pub boolean_within : (kind : Kind) → boolean_count kind ≤ length (block kind).inputs
unfolding boolean_count
boolean_within kind = count_by-le-length (λ p. is_boolean p.ty) (block kind).inputs

-- what one element gives is part of what all give
pub part_of_all : {X A : Type 0} (f : X → List A) (xs : List X) (k : ℕ) (x : X) → slice_get xs k ≡ Some x → length (f x) ≤ length (flat_map f xs)
part_of_all f [] k x at = cc
part_of_all f (y ∷ xs) zero x at =
    let same : y ≡ x = cc in omega (arith, length-append (f y) (flat_map f xs), ap (λ z. length (f z)) same)
part_of_all f (y ∷ xs) (suc k) x at =
    omega (arith, length-append (f y) (flat_map f xs), part_of_all f xs k x at)

-- one more element of a sum
pub sum_next : {X : Type 0} (f : X → ℕ) (xs : List X) (k : ℕ) (x : X) → slice_get xs k ≡ Some x → sum_by f (take (k + 1) xs) ≡ sum_by f (take k xs) + f x
sum_next f xs k x at =
    let next : k + 1 ≡ suc k = omega arith in
    omega (
      arith,
      ap (λ n. sum_by f (take n xs)) next ∙ ap (λ ys. sum_by f ys) (take_next xs k x at) ∙ sum_by-append f (take k xs) (x ∷ []),
      sum_by-cons f x [],
    )
