-- What words name, one more at a time.
use Rattle.std.proofs.Common.{Bool, List, None, Option, Some, [], ap, ap₂, false, get_or, length, map, refl, sym, true, ℕ, ◌++◌, ◌<◌, ◌∙◌, ◌∷◌, ◌≡◌}
use Rattle.std.proofs.lemmas.List.{map-append}
use Rattle.std.proofs.lemmas.Option.{slice_get-get_or, slice_get-map}
use Rattle.std.specs.Prelude.{option_map}
use Rattle.std.specs.Borrow.{Bor}
use Rattle.ps_bench_words.specs.Seen.{seen}
use Rattle.ps_bench_names.specs.declared.name.Name.{Name}
use Rattle.ps_model.specs.Network.{Network}
use Rattle.ps_bench_waves.specs.Names.{all_names}
use Rattle.ps_bench_watch.specs.Naming.{Adds, HasUnnamed, called_among, name_called}

-- words that name these, and one more that names another
pub named_more : (net : Network) (all : List Name) (words : List (Bor (List ℕ))) (word : Bor (List ℕ)) (old new : List Name)
    (found : Bool) → all ≡ all_names net → Adds (called_among net all word.now) old new found → found ≡ true →
    map (name_called net) (seen words) ≡ map (λ (n : Name). Some n) old →
    map (name_called net) (seen (words ++ word ∷ [])) ≡ map (λ (n : Name). Some n) new
named_more net all words word old new found all_is adds is before =
    go (called_among net all word.now) refl adds
  where
    go : (o : Option Name) → called_among net all word.now ≡ o → Adds o old new found →
        map (name_called net) (seen (words ++ word ∷ [])) ≡ map (λ (n : Name). Some n) new
    go None e a = cc
    go (Some name) e a =
        ap (map (name_called net)) (map-append (λ w. w.now) words (word ∷ []))
        ∙ map-append (name_called net) (seen words) (word.now ∷ [])
        ∙ ap₂ (λ (xs : List (Option Name)) (x : Option Name). xs ++ x ∷ []) before
        (ap (λ (ns : List Name). called_among net ns word.now) (sym all_is) ∙ e)
        ∙ sym (map-append (λ (n : Name). Some n) old (name ∷ []))
        ∙ ap (map (λ (n : Name). Some n)) (sym a.1)

-- a word among these that names nothing
pub named_none : (net : Network) (all : List Name) (words : List (Bor (List ℕ))) (i : ℕ) (d : Bor (List ℕ))
    (old new : List Name) (found : Bool) → i < length words → all ≡ all_names net →
    Adds (called_among net all (get_or words i d).now) old new found → found ≡ false →
    HasUnnamed net (seen words) (get_or words i d).now
named_none net all words i d old new found within all_is adds is = (
  i,
  slice_get-map (λ w. w.now) words i ∙ ap (option_map (λ (w : Bor (List ℕ)). w.now)) (slice_get-get_or words i d within),
  ap (λ (ns : List Name). called_among net ns (get_or words i d).now) (sym all_is)
      ∙ go (called_among net all (get_or words i d).now) refl adds,
)
  where
    go : (o : Option Name) → called_among net all (get_or words i d).now ≡ o → Adds o old new found →
        called_among net all (get_or words i d).now ≡ None
    go None e a = e
    go (Some name) e a = let contrary = a.0 in cc
