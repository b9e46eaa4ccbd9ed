-- Items of a completion, one after another.
use Rattle.std.proofs.Common.{◌≡◌, ℕ, ◌+◌, ◌<◌, List, [], ◌∷◌, ◌++◌, length, Some, slice_get, inl, inr, ap, ◌∙◌, arith, length-append, refl}
use Rattle.std.proofs.lemmas.Bool.{cases_lt}
use Rattle.std.proofs.lemmas.Grind.{common_steps}
use Rattle.std.proofs.lemmas.Option.{gets}
use Rattle.ps_model.specs.declared.kind.Kind.{Kind}
use Rattle.ps_model.specs.Blocks.{block}
use Rattle.ps_lsp_text.specs.Completing.{AreOutputs, pin_item}
use Rattle.ps_lsp_text.specs.declared.completing.Item.{Item}

at_left : (xs ys : List Item) (k : ℕ) → k < length xs → slice_get (xs ++ ys) k ≡ slice_get xs k
at_left xs ys k inside = grind (arith, common_steps, gets)

at_end : (xs : List Item) (x : Item) → slice_get (xs ++ x ∷ []) (length xs) ≡ Some x
at_end [] x = refl
at_end (y ∷ xs) x = at_end xs x

-- one more output
pub outputs_more : (kind : Kind) (pin : ℕ) (items more : List Item) → AreOutputs kind pin items → more ≡ items ++ pin_item kind pin ∷ [] → AreOutputs kind (pin + 1) more
outputs_more kind pin items more so_far is =
    let size : length more ≡ length items + 1 = ap length is ∙ length-append items (pin_item kind pin ∷ []) in
    record {
      count = let count = so_far.count in omega arith;
      each = λ k below. ap (λ (l : List Item). slice_get l k) is ∙ (elim (cases_lt k (length items)) [
        | inl before ↦ at_left items (pin_item kind pin ∷ []) k before ∙ so_far.each k before
        | inr last ↦
            let here : k ≡ length items = omega arith in
            let place : pin ≡ length (block kind).inputs + k = let count = so_far.count in omega arith in
            ap (λ (n : ℕ). slice_get (items ++ pin_item kind pin ∷ []) n) here ∙ at_end items (pin_item kind pin) ∙ ap (λ (p : ℕ). Some (pin_item kind p)) place
      ]);
    }
