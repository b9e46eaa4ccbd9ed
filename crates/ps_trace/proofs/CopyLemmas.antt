-- Values that are copied.
use Rattle.std.proofs.Common.{◌≡◌, ◌<◌, ◌+◌, ◌++◌, ℕ, List, [], ◌∷◌, Bool, false, length, take, slice_index_or, slice_set, refl, sym, ◌∙◌, ap, arith}
use Rattle.std.proofs.lemmas.List.{take_more, take_more_set, take_all, length-map, get_or-map}
use Rattle.std.proofs.lemmas.List.FromFn.{fill_by_all}
use Rattle.ps_trace.specs.Scans.{inputs_of, IsInOrder}

-- one value more
pub copied-more : (into values : List Bool) (at next : ℕ) → next ≡ at + 1 → at < length into → at < length values → take at into ≡ take at values →
    take next (slice_set into at (slice_index_or values at false)) ≡ take next values
copied-more into values at next is place within before =
    let value = slice_index_or values at false in
    ap (λ (n : ℕ). take n (slice_set into at value)) is ∙ take_more_set into at value place
    ∙ ap (λ (t : List Bool). t ++ (value ∷ [])) before ∙ sym (take_more values at false within) ∙ sym (ap (λ (n : ℕ). take n values) is)

-- all values
pub copied_whole : (into values : List Bool) (at : ℕ) → at ≡ length values → length into ≡ length values → take at into ≡ take at values → into ≡ values
copied_whole into values at whole size before =
    sym (take_all at into (omega (arith, whole, size))) ∙ before ∙ take_all at values (omega (arith, whole))

-- in order the inputs have the values as they stand
pub inputs_in_order : (places : List ℕ) (values : List Bool) → length values ≡ length places → IsInOrder places → inputs_of places values ≡ values
inputs_in_order places values size order =
    fill_by_all (λ (k : ℕ). slice_index_or values k false) (inputs_of places values) (length places) false (length-map places (λ (place : ℕ). slice_index_or values place false))
    (λ k within. get_or-map (λ (place : ℕ). slice_index_or values place false) places k 0 false within ∙ ap (λ (n : ℕ). slice_index_or values n false) (order k within))
    ∙ sym (fill_by_all (λ (k : ℕ). slice_index_or values k false) values (length places) false size (λ k within. refl))
