-- What was seen in some traces, and in one more by itself.
use Rattle.std.proofs.Common.{◌≡◌, ℕ, ◌<◌, List, ◌∷◌, ◌++◌, [], Bool, true, false, length, map, slice_get, Option, Some, None, refl, sym, ap, ◌∙◌, ◌||◌, append-nil, subst}
use Rattle.std.specs.Prelude.{option_map, slice_index_or}
use Rattle.std.specs.List.{flat_map, list_any}
use Rattle.std.proofs.Math.Bool.{or_assoc}
use Rattle.std.proofs.lemmas.Grind.{flat_map-append}
use Rattle.std.proofs.lemmas.List.Folds.{list_any-append}
use Rattle.std.proofs.lemmas.Option.{same_Some, slice_get-map, slice_get_within}
use Rattle.ps_cover.specs.Applying.{ScanStep}
use Rattle.ps_model.specs.Network.{Network}
use Rattle.ps_cover.specs.Covering.{point_of}
use Rattle.ps_cover.specs.Covers.{JoinsBits, Knows, KnowsOf}
use Rattle.ps_cover.specs.Points as points
use Rattle.ps_cover.specs.Points.{shows}
use Rattle.ps_cover.specs.Tallied.{JoinsAddUp}
use Rattle.ps_cover.specs.declared.point.Point.{Point}

-- a point of one list, and what stands at its place in another one of the same points
other_point : (xs ys : List Point) → map point_of xs ≡ map point_of ys → (n : ℕ) (p : Point) → slice_get xs n ≡ Some p →
    (q : Point) × (slice_get ys n ≡ Some q) × (point_of q ≡ point_of p)
other_point xs ys same n p at = by (slice_get ys n) refl
  where
    both : option_map point_of (slice_get ys n) ≡ Some (point_of p)
    both =
        sym (slice_get-map point_of ys n) ∙ ap (λ (ps : List points.Point). slice_get ps n) (sym same) ∙ slice_get-map point_of xs n
        ∙ ap (option_map point_of) at

    by : (o : Option Point) → slice_get ys n ≡ o → (q : Point) × (slice_get ys n ≡ Some q) × (point_of q ≡ point_of p)
    by None none = absurd (let clash : None ≡ Some (point_of p) = sym (ap (option_map point_of) none) ∙ both in cc)
    by (Some q) some = (q, some, same_Some (point_of q) (point_of p) (sym (ap (option_map point_of) some) ∙ both))

module _ (net : Network) (steps more : List ScanStep) (xs ys : List Point) (same : map point_of xs ≡ map point_of ys) (b : Bool) where
  bits_join : (first behind begun other new : List Bool) → length first ≡ length xs → KnowsOf net steps xs b first behind →
      ((n : ℕ) → slice_index_or begun n false ≡ false) → KnowsOf net more ys b begun other → JoinsBits behind other new →
      KnowsOf net (steps ++ more) xs b first new
  bits_join first behind begun other new sized knows unseen rest joins = record {
    each = joins.each ∙ knows.each;
    seen = λ n p at.
        let q = other_point xs ys same n p at in
        let f = shows net b (point_of p) in
        let within : n < length behind = subst (λ m. n < m) (sym (knows.each ∙ sized)) (slice_get_within xs n p at) in
        let mine : slice_index_or behind n false ≡ (slice_index_or first n false || list_any f steps) = knows.seen n p at in
        let one : slice_index_or other n false ≡ list_any f more =
        rest.seen n q.0 q.1 ∙ ap (λ v. v || list_any (shows net b (point_of q.0)) more) (unseen n)
        ∙ ap (λ (r : points.Point). list_any (shows net b r) more) q.2 in
        joins.joined n within ∙ (λ i. mine i || one i) ∙ or_assoc (slice_index_or first n false) (list_any f steps) (list_any f more)
        ∙ ap (λ v. slice_index_or first n false || v) (sym (list_any-append f steps more));
  }

pub joins_up : JoinsAddUp
joins_up net traces more old behind begun other new whole knows fresh unseen rest joins =
    let steps = flat_map (λ (xs : List ScanStep). xs) traces in
    let all : flat_map (λ (xs : List ScanStep). xs) (traces ++ more ∷ []) ≡ steps ++ more =
    flat_map-append (λ (xs : List ScanStep). xs) traces (more ∷ []) ∙ ap (λ ms. steps ++ ms) (append-nil more) in
    let same : map point_of old.points.items ≡ map point_of begun.points.items = whole.points ∙ sym fresh.points in
    subst (λ ss. Knows net ss old new) (sym all) (record {
      points = joins.points ∙ knows.points;
      off = bits_join net steps more old.points.items begun.points.items same false old.off.items behind.off.items begun.off.items other.off.items
          new.off.items whole.off_each knows.off unseen.off rest.off joins.off;
      on = bits_join net steps more old.points.items begun.points.items same true old.on.items behind.on.items begun.on.items other.on.items
          new.on.items whole.on_each knows.on unseen.on rest.on joins.on;
    })
