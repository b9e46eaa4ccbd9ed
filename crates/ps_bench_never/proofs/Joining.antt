-- One more place of a text that is made place by place.
use Rattle.std.proofs.Common.{◌≡◌, ◌<◌, ◌+◌, ◌++◌, ◌∷◌, [], ℕ, zero, suc, List, length, refl, sym, ap, ◌∙◌, arith}
use Rattle.std.specs.Prelude.{slice_index_or}
use Rattle.std.specs.List.{flat_map, range_with_len}
use Rattle.ps_model.specs.Network.{Network}
use Rattle.ps_reach.specs.Asking.{Point}
use Rattle.ps_reach.specs.Reaching.{behind, next_point, numbered}
use Rattle.ps_reach.specs.Telling.{inputs_from}
use Rattle.ps_reach.specs.declared.asked.Asked.{Asked}
use Rattle.ps_reach.specs.declared.asked.InputRule.{InputRule}

pub joined : (xs ys zs : List ℕ) → (xs ++ ys) ++ zs ≡ xs ++ (ys ++ zs)
joined [] ys zs = refl
joined (x ∷ xs) ys zs = ap (λ r. x ∷ r) (joined xs ys zs)

ends : (xs : List ℕ) → xs ++ [] ≡ xs
ends [] = refl
ends (x ∷ xs) = ap (λ r. x ∷ r) (ends xs)

more_places : (f : ℕ → List ℕ) (n a : ℕ) → flat_map f (range_with_len a (n + 1)) ≡ flat_map f (range_with_len a n) ++ f (a + n)
more_places f zero a =
    let here : a + 0 ≡ a = omega arith in
    ends (f a) ∙ ap f (sym here)
more_places f (suc n) a =
    let next : suc n + 1 ≡ suc (n + 1) = omega arith in
    let far : a + 1 + n ≡ a + suc n = omega arith in
    ap (λ k. flat_map f (range_with_len a k)) next ∙ ap (λ r. f a ++ r) (more_places f n (a + 1) ∙ ap (λ k. flat_map f (range_with_len (a + 1) n) ++ f k) far)
    ∙ sym (joined (f a) (flat_map f (range_with_len (a + 1) n)) (f (a + suc n)))

pub one_more : (f : ℕ → List ℕ) (n : ℕ) (text text' first : List ℕ) → text ≡ first ++ flat_map f (range_with_len 0 n) → text' ≡ text ++ f n →
    text' ≡ first ++ flat_map f (range_with_len 0 (n + 1))
one_more f n text text' first before here =
    let same : 0 + n ≡ n = omega arith in
    here ∙ ap (λ t. t ++ f n) before ∙ joined first (flat_map f (range_with_len 0 n)) (f n)
    ∙ ap (λ r. first ++ r) (ap (λ k. flat_map f (range_with_len 0 n) ++ f k) (sym same) ∙ sym (more_places f n 0))

-- ---- the inputs of a scan are as many as those of which something is said
numbered_length : (rules : List InputRule) (p : Point) (a : ℕ) → length (numbered rules p a) ≡ length rules
numbered_length [] p a = refl
numbered_length (rule ∷ rules) p a = ap suc (numbered_length rules p (behind rule a))

pub few_inputs : (net : Network) (q : Asked) (n : ℕ) → length q.inputs.items < suc n → (p : Point) (path : List ℕ) (i : ℕ) → length (slice_index_or (inputs_from net q p path) i []) < suc n
few_inputs net q n few p [] i = omega arith
few_inputs net q n few p (a ∷ rest) zero = omega (arith, few, numbered_length q.inputs.items p a)
few_inputs net q n few p (a ∷ rest) (suc i) = few_inputs net q n few (next_point net q p a) rest i
