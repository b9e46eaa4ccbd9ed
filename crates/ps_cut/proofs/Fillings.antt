-- The value of an input of the application, from a place of the part's inputs on.
use Rattle.std.proofs.Common.{◌≡◌, ◌+◌, ◌<◌, ◌≤◌, ◌∙◌, suc, ℕ, Bool, false, List, [], ◌∷◌, length, drop, get_or, refl, ap, arith}
use Rattle.std.proofs.lemmas.Bool.{cond-false}
use Rattle.std.proofs.lemmas.Grind.{common_steps}
use Rattle.std.proofs.Math.Seq.{drop-cons}
use Rattle.ps_cut.specs.declared.part.Origin.{Origin}
use Rattle.ps_cut.specs.Filling.{filled, is_value_of}

none_given : (origins : List Origin) (s : ℕ) (other : Bool) → filled origins [] s other ≡ other
none_given [] s other = refl
none_given (o ∷ origins) s other = refl

-- past the values
pub filled_past : (origins : List Origin) (values : List Bool) (r s : ℕ) (other : Bool) → length values ≤ r → filled (drop r origins) (drop r values) s other ≡ other
filled_past origins values r s other h =
    let end : drop r values ≡ [] = grind (arith, common_steps) in
    ap (λ (vs : List Bool). filled (drop r origins) vs s other) end ∙ none_given (drop r origins) s other

-- past an input that has another value
pub filled_more : (origins : List Origin) (values : List Bool) (r s : ℕ) (other : Bool) (d : Origin) → r < length origins → r < length values →
    is_value_of s (get_or origins r d) ≡ false → filled (drop r origins) (drop r values) s other ≡ filled (drop (r + 1) origins) (drop (r + 1) values) s other
filled_more origins values r s other d h h' off =
    let next : suc r ≡ r + 1 = omega arith in
    let o = get_or origins r d in
    let v = get_or values r false in
    ap (λ (os : List Origin). filled os (drop r values) s other) (drop-cons origins r d h ∙ ap (λ n. o ∷ drop n origins) next)
    ∙ ap (λ (vs : List Bool). filled (o ∷ drop (r + 1) origins) vs s other) (drop-cons values r false h' ∙ ap (λ n. v ∷ drop n values) next)
    ∙ cond-false (is_value_of s o) v (filled (drop (r + 1) origins) (drop (r + 1) values) s other) off
