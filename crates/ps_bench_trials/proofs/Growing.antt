-- A text that has a piece for each number grows by the next one.
use Rattle.std.proofs.Common.{◌≡◌, ℕ, zero, suc, ◌+◌, List, [], ◌∷◌, ◌++◌, refl, sym, ap, ◌∙◌, append_assoc, append-nil, arith}
use Rattle.std.specs.List.{flat_map, range_with_len}
use Rattle.std.specs.Prelude.{slice_index_or}
use Rattle.ps_bench_trials.specs.Lines.{no_trial}
use Rattle.ps_bench_trials.specs.Telling.{column_text, columns_text, line_text, tally_text}
use Rattle.ps_bench_trials.specs.declared.line.Line.{Line}
use Rattle.std.proofs.lemmas.Grind.{flat_map-append}

-- one number more
range_more : (a n : ℕ) → range_with_len a (suc n) ≡ range_with_len a n ++ (a + n) ∷ []
range_more a zero = ap (λ m. m ∷ []) (let e : a ≡ a + 0 = omega arith in e)
range_more a (suc n) = ap (λ ms. a ∷ ms) (range_more (a + 1) n ∙ ap (λ m. range_with_len (a + 1) n ++ m ∷ []) (let e : a + 1 + n ≡ a + suc n = omega arith in e))

flat_more : (f : ℕ → List ℕ) (n : ℕ) → flat_map f (range_with_len 0 (n + 1)) ≡ flat_map f (range_with_len 0 n) ++ f n
flat_more f n =
    let next : n + 1 ≡ suc n = omega arith in
    let last : 0 + n ≡ n = omega arith in
    ap (λ m. flat_map f (range_with_len 0 m)) next ∙ ap (flat_map f) (range_more 0 n)
    ∙ ap (λ m. flat_map f (range_with_len 0 n ++ m ∷ [])) last
    ∙ flat_map-append f (range_with_len 0 n) (n ∷ []) ∙ ap (λ ps. flat_map f (range_with_len 0 n) ++ ps) (append-nil (f n))

-- what is told of one number more
pub one_more : (f : ℕ → List ℕ) (n : ℕ) (before now after : List ℕ) → now ≡ before ++ flat_map f (range_with_len 0 n) →
    after ≡ now ++ f n → after ≡ before ++ flat_map f (range_with_len 0 (n + 1))
one_more f n before now after so more =
    more ∙ ap (λ ps. ps ++ f n) so ∙ append_assoc before (flat_map f (range_with_len 0 n)) (f n)
    ∙ ap (λ ps. before ++ ps) (sym (flat_more f n))

-- all columns of a table, and all lines
pub columns_are : (table : List ℕ) → columns_text table ≡ flat_map (column_text table) (range_with_len 0 33)
unfolding columns_text
columns_are table = refl

pub lines_are : (lines : List Line) → tally_text lines ≡ flat_map (λ place. line_text (slice_index_or lines place no_trial) place) (range_with_len 0 24)
unfolding tally_text
lines_are lines = refl

-- a text that has a piece for each number has all
pub all_told : (f : ℕ → List ℕ) (n most : ℕ) (whole before now : List ℕ) → whole ≡ flat_map f (range_with_len 0 most) → n ≡ most →
    now ≡ before ++ flat_map f (range_with_len 0 n) → now ≡ before ++ whole
all_told f n most whole before now is all told =
    told ∙ ap (λ m. before ++ flat_map f (range_with_len 0 m)) all ∙ ap (λ ps. before ++ ps) (sym is)
