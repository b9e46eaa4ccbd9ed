-- Places of points, one after another.
use Rattle.std.proofs.Common.{◌≡◌, ◌<◌, ◌+◌, ◌∙◌, ℕ, List, [], ◌∷◌, ◌++◌, length, map, drop, get_or, refl, sym, ap, append_assoc}
use Rattle.std.specs.List.{flat_map}
use Rattle.std.proofs.lemmas.List.{map-append}
use Rattle.ps_model.proofs.Rest.{rest_at}
use Rattle.ps_base.specs.declared.failing.Place.{Place}
use Rattle.ps_cover.specs.Covering.{point_of}
use Rattle.ps_cover.specs.declared.point.Point.{Point}
use Rattle.ps_bench_cover.specs.Standing.{left_behind, next_place, placed}

-- one more point
pub placed_more : (ps : List Point) (i : ℕ) (p : Point) (old all left left' : List Place) (at : Place) → i < length ps → p ≡ get_or ps i p →
    old ++ placed (map point_of (drop i ps)) left ≡ all → at ≡ next_place (point_of p) left → left' ≡ left_behind (point_of p) left →
    (old ++ at ∷ []) ++ placed (map point_of (drop (i + 1) ps)) left' ≡ all
placed_more ps i p old all left left' at within is so here next =
    let rest = placed (map point_of (drop (i + 1) ps)) in
    append_assoc old (at ∷ []) (rest left')
    ∙ (λ k. old ++ here k ∷ rest (next k))
    ∙ ap (λ (qs : List Point). old ++ placed (map point_of qs) left) (sym (rest_at ps i p within is))
    ∙ so

-- what is made of what lists bring is what they bring of it
pub map_flat : {X A B : Type 0} (f : A → B) (g : X → List A) (xs : List X) → flat_map (λ x. map f (g x)) xs ≡ map f (flat_map g xs)
map_flat f g [] = refl
map_flat f g (x ∷ xs) = ap (λ bs. map f (g x) ++ bs) (map_flat f g xs) ∙ sym (map-append f (g x) (flat_map g xs))
