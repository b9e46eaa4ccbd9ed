-- What a tree breaks is what its parts break.
use Rattle.std.proofs.Common.{◌≡◌, List, [], ◌∷◌, ◌++◌, map, refl, ap, sym, ◌∙◌}
use Rattle.std.specs.List.{flat_map}
use Rattle.std.proofs.lemmas.Grind.{flat_map-append}
use Rattle.std.proofs.lemmas.List.{append-nil}
use Rattle.ps_parser.specs.declared.expression.Factor as code
use Rattle.ps_parser.specs.declared.expression.Product as code_product
use Rattle.ps_parser.specs.SumView.{factor_tree, product_tree}
use Rattle.ps_base.specs.declared.failing.Place.{Place}
use Rattle.ps_parser.specs.Tree.{Signal, Pin, Literal, Time, Group, no_factor, factor, SumTree, no_product, product, product_of, sum_of}
use Rattle.ps_names.specs.Uses.{Use, strays, factor_uses, product_uses, sum_uses, value_uses}

module _ {W : Type 0} (g : Use → List W) where
  pub factors_break : (fs : List code.Factor) → flat_map (λ f. flat_map g (factor_uses (factor_tree f))) fs ≡ flat_map g (product_uses (product_of (map factor_tree fs)))
  factors_break [] = refl
  factors_break (f ∷ fs) =
      ap (λ os. flat_map g (factor_uses (factor_tree f)) ++ os) (factors_break fs)
      ∙ sym (flat_map-append g (factor_uses (factor_tree f)) (product_uses (product_of (map factor_tree fs))))

  pub products_break : (ps : List code_product.Product) → flat_map (λ p. flat_map g (product_uses (product_tree p))) ps ≡ flat_map g (sum_uses (sum_of (map product_tree ps)))
  products_break [] = refl
  products_break (p ∷ ps) =
      ap (λ os. flat_map g (product_uses (product_tree p)) ++ os) (products_break ps)
      ∙ sym (flat_map-append g (product_uses (product_tree p)) (sum_uses (sum_of (map product_tree ps))))

-- what lists of lists bring, element by element
pub flat_flat : {X Y Z W : Type 0} (g : Z → List W) (f : Y → List Z) (v : X → Y) (xs : List X) → flat_map (λ x. flat_map g (f (v x))) xs ≡ flat_map g (flat_map f (map v xs))
flat_flat g f v [] = refl
flat_flat g f v (x ∷ xs) = ap (λ l. flat_map g (f (v x)) ++ l) (flat_flat g f v xs) ∙ sym (flat_map-append g (f (v x)) (flat_map f (map v xs)))

-- where a literal breaks nothing, the value of an argument breaks what it breaks as a sum
module _ {W : Type 0} (g : Use → List W) (nothing : (place : Place) → g (strays place) ≡ []) where
  pub value_breaks : (s : SumTree) → flat_map g (value_uses s) ≡ flat_map g (sum_uses s)
  value_breaks no_product = refl
  value_breaks (product no_factor ps) = refl
  value_breaks (product (factor (Signal n) fs) ps) = refl
  value_breaks (product (factor (Pin n q) fs) ps) = refl
  value_breaks (product (factor (Group s) fs) ps) = refl
  value_breaks (product (factor (Literal b p) no_factor) no_product) = sym (append-nil (g (strays p)) ∙ nothing p)
  value_breaks (product (factor (Literal b p) no_factor) (product q qs)) = refl
  value_breaks (product (factor (Literal b p) (factor f fs)) ps) = refl
  value_breaks (product (factor (Time t p) no_factor) no_product) = sym (append-nil (g (strays p)) ∙ nothing p)
  value_breaks (product (factor (Time t p) no_factor) (product q qs)) = refl
  value_breaks (product (factor (Time t p) (factor f fs)) ps) = refl

-- what items bring, seen as other items
pub flat_seen : {X Y W : Type 0} (g : Y → List W) (v : X → Y) (xs : List X) → flat_map (λ x. g (v x)) xs ≡ flat_map g (map v xs)
flat_seen g v [] = refl
flat_seen g v (x ∷ xs) = ap (λ l. g (v x) ++ l) (flat_seen g v xs)
