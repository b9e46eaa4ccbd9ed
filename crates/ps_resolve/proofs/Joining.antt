-- Operands that are joined.
use Rattle.std.proofs.Common.{◌≡◌, ℕ, List, [], ◌∷◌, ◌++◌, ◌+◌, ◌<◌, ◌≤◌, map, take, get_or, length, refl, ap, sym, ◌∙◌}
use Rattle.std.proofs.lemmas.List.{map_more, map-append, take_all}
use Rattle.ps_names.specs.declared.entry.Entry.{Entry}
use Rattle.ps_parser.specs.declared.expression.Factor as code
use Rattle.ps_parser.specs.declared.expression.Product as code_product
use Rattle.ps_model.specs.Formula.{operand}
use Rattle.ps_model.specs.Exprs.{operands}
use Rattle.ps_parser.specs.SumView.{factor_tree, product_tree}
use Rattle.ps_parser.specs.Tree.{product_of, sum_of}
use Rattle.ps_names.specs.Stands.{factor_formula, factor_formulas, product_formula, product_formulas}

pub factors_joined : (es : List Entry) (fs : List code.Factor) →
    operands (map (λ f. factor_formula es (factor_tree f)) fs) ≡ factor_formulas es (product_of (map factor_tree fs))
factors_joined es [] = refl
factors_joined es (f ∷ fs) = ap (operand (factor_formula es (factor_tree f))) (factors_joined es fs)

pub products_joined : (es : List Entry) (ps : List code_product.Product) →
    operands (map (λ p. product_formula es (product_tree p)) ps) ≡ product_formulas es (sum_of (map product_tree ps))
products_joined es [] = refl
products_joined es (p ∷ ps) = ap (operand (product_formula es (product_tree p))) (products_joined es ps)

-- one more item on both sides
pub map_after_push : {A B C : Type 0} (f : A → C) (g : B → C) (xs ys : List A) (x : A) (bs : List B) (i : ℕ) (d : B) → i < length bs →
    map f xs ≡ map g (take i bs) → f x ≡ g (get_or bs i d) → ys ≡ xs ++ x ∷ [] → map f ys ≡ map g (take (i + 1) bs)
map_after_push f g xs ys x bs i d h so one is =
    ap (map f) is ∙ map-append f xs (x ∷ []) ∙ ap (λ l. l ++ f x ∷ []) so ∙ ap (λ v. map g (take i bs) ++ v ∷ []) one
    ∙ sym (map_more g bs i d h)

-- all items
pub whole : {B C : Type 0} (g : B → C) (bs : List B) (i : ℕ) → length bs ≤ i → map g (take i bs) ≡ map g bs
whole g bs i h = ap (map g) (take_all i bs h)
