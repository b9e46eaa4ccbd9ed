-- Points that are listed one after another.
use Rattle.std.proofs.Common.{◌≡◌, ℕ, zero, suc, ◌+◌, Result, Ok, Err, List, [], ◌∷◌, ◌++◌, refl, sym, ap, ◌∙◌, append_assoc, append-nil, arith}
use Rattle.std.specs.List.{flat_map, range_with_len}
use Rattle.std.specs.Prelude.{OnOk}
use Rattle.std.proofs.lemmas.Grind.{flat_map-append}
use Rattle.ps_model.specs.Exprs.{operands}
use Rattle.ps_model.specs.Formula.{Formula}
use Rattle.ps_cover.specs.Listing.{listed}

-- one number more
pub range_more : (a n : ℕ) → range_with_len a (suc n) ≡ range_with_len a n ++ (a + n) ∷ []
range_more a zero = ap (λ m. m ∷ []) (let e : a ≡ a + 0 = omega arith in e)
range_more a (suc n) = ap (λ ms. a ∷ ms) (range_more (a + 1) n ∙ ap (λ m. range_with_len (a + 1) n ++ m ∷ []) (let e : a + 1 + n ≡ a + suc n = omega arith in e))

flat_more : {P : Type 0} (f : ℕ → List P) (n : ℕ) → flat_map f (range_with_len 0 (n + 1)) ≡ flat_map f (range_with_len 0 n) ++ f n
flat_more f n =
    let next : n + 1 ≡ suc n = omega arith in
    let last : 0 + n ≡ n = omega arith in
    ap (λ m. flat_map f (range_with_len 0 m)) next ∙ ap (flat_map f) (range_more 0 n)
    ∙ ap (λ m. flat_map f (range_with_len 0 n ++ m ∷ [])) last
    ∙ flat_map-append f (range_with_len 0 n) (n ∷ []) ∙ ap (λ ps. flat_map f (range_with_len 0 n) ++ ps) (append-nil (f n))

-- what is listed of one number more
pub one_more : {P : Type 0} (f : ℕ → List P) (n : ℕ) (before now after : List P) → now ≡ before ++ flat_map f (range_with_len 0 n) → after ≡ now ++ f n →
    after ≡ before ++ flat_map f (range_with_len 0 (n + 1))
one_more f n before now after so more =
    more ∙ ap (λ ps. ps ++ f n) so ∙ append_assoc before (flat_map f (range_with_len 0 n)) (f n)
    ∙ ap (λ ps. before ++ ps) (sym (flat_more f n))

-- operands, and back
pub listed_are : (es : List Formula) → listed (operands es) ≡ es
listed_are [] = refl
listed_are (e ∷ es) = ap (λ fs. e ∷ fs) (listed_are es)

-- two pieces, one after the other, where the last was listed
pub both_listed : {A E P : Type 0} (r : Result A E) (old middle new one two all : List P) → middle ≡ old ++ one → all ≡ one ++ two →
    OnOk r (new ≡ middle ++ two) → OnOk r (new ≡ old ++ all)
both_listed (Ok v) old middle new one two all first is last = last ∙ ap (λ ps. ps ++ two) first ∙ append_assoc old one two ∙ ap (λ ps. old ++ ps) (sym is)
both_listed (Err e) old middle new one two all first is last = tt
