-- The places of facts, one after another.
use Rattle.std.proofs.Common.{◌≡◌, ◌∙◌, ◌<◌, ◌+◌, ◌++◌, ◌∷◌, [], ℕ, List, Option, Some, length, sym, ap, subst, inl, inr, arith}
use Rattle.std.specs.Prelude.{slice_get}
use Rattle.std.proofs.lemmas.Bool.{cases_lt}
use Rattle.std.proofs.lemmas.List.{length_push}
use Rattle.std.proofs.lemmas.Option.{same_Some, slice_get_within}
use Rattle.ps_base.specs.declared.failing.Place.{Place}
use Rattle.ps_model.specs.Network.{Network}
use Rattle.ps_parser.specs.Tree.{SourceTree}
use Rattle.ps_why.proofs.Told.{push_at, push_before}
use Rattle.ps_why.specs.declared.fact.Fact.{Fact}
use Rattle.ps_bench_why.specs.Reasoned.{ArePlacesOf, IsPlaceOf}

-- the first so many facts have their places
pub record ArePlacedUpTo (net : Network) (tree : SourceTree) (facts : List Fact) (count : ℕ) (places : List (Option Place)) : Type 0 where
  pub size : length places ≡ count
  pub each : (n : ℕ) (fact : Fact) → n < count → slice_get facts n ≡ Some fact →
      (place : Option Place) × (slice_get places n ≡ Some place) × IsPlaceOf net tree fact place

-- one more
pub placed_more : (net : Network) (tree : SourceTree) (facts : List Fact) (count : ℕ) (places places' : List (Option Place)) (fact : Fact) (place : Option Place) →
    ArePlacedUpTo net tree facts count places → slice_get facts count ≡ Some fact → IsPlaceOf net tree fact place → places' ≡ places ++ place ∷ [] →
    ArePlacedUpTo net tree facts (count + 1) places'
placed_more net tree facts count places places' fact place so at is pushed = record {
  size = ap length pushed ∙ length_push places place ∙ ap (λ n. n + 1) so.size;
  each = λ n f below there. elim (cases_lt n count) [
    | inl less ↦
        let one = so.each n f less there in
        (one.0, ap (λ (ps : List (Option Place)). slice_get ps n) pushed ∙ push_before places place n one.0 one.1, one.2)
    | inr most ↦
        let same : count ≡ n = omega (arith, below, most) in
        let fact_is : fact ≡ f = same_Some fact f (sym at ∙ ap (slice_get facts) same ∙ there) in (
          place,
          ap (λ (ps : List (Option Place)). slice_get ps n) pushed
              ∙ ap (slice_get (places ++ place ∷ [])) (sym same ∙ sym so.size) ∙ push_at places place,
          subst (λ (g : Fact). IsPlaceOf net tree g place) fact_is is,
        )
  ];
}

-- all of them
pub all_placed : (net : Network) (tree : SourceTree) (facts : List Fact) (count : ℕ) (places : List (Option Place)) → length facts ≡ count →
    ArePlacedUpTo net tree facts count places → ArePlacesOf net tree facts places
all_placed net tree facts count places is so = λ n fact there.
    so.each n fact (omega (arith, slice_get_within facts n fact there, is)) there
