-- Lines with their numbers, one after another.
use Rattle.std.proofs.Common.{◌≡◌, ◌+◌, ◌++◌, ◌∙◌, ℕ, List, [], ◌∷◌, length, sym, ap, suc, append_assoc, append-nil, arith}
use Rattle.std.specs.Prelude.{min}
use Rattle.ps_bench_report.specs.Numbered.{numbered_behind, numbered_line}

-- one more line after others
line_behind : (before : ℕ) (lines : List (List ℕ)) (line : List ℕ) →
    numbered_behind before (lines ++ line ∷ []) ≡ numbered_behind before lines ++ numbered_line (min (suc (length lines + before)) 4294967295) line
line_behind before [] line =
    let on : before ≡ 0 + before = omega arith in
    append-nil (numbered_line (min (suc before) 4294967295) line) ∙ ap (λ (n : ℕ). numbered_line (min (suc n) 4294967295) line) on
line_behind before (l ∷ lines) line =
    let on : length lines + suc before ≡ suc (length lines) + before = omega arith in
    let first = numbered_line (min (suc before) 4294967295) l in
    ap (λ (t : List ℕ). first ++ t) (line_behind (suc before) lines line)
    ∙ ap (λ (n : ℕ). first ++ (numbered_behind (suc before) lines ++ numbered_line (min (suc n) 4294967295) line)) on
    ∙ sym (append_assoc first (numbered_behind (suc before) lines) (numbered_line (min (suc (suc (length lines) + before)) 4294967295) line))

-- the text after one more line, whose number is this
pub line_more : (lines : List (List ℕ)) (line text more : List ℕ) (number : ℕ) → text ≡ numbered_behind 0 lines →
    number ≡ min (length lines + 1) 4294967295 → more ≡ text ++ numbered_line number line → more ≡ numbered_behind 0 (lines ++ line ∷ [])
line_more lines line text more number so counted is =
    let here : number ≡ min (suc (length lines + 0)) 4294967295 = counted ∙ ap (λ n. min n 4294967295) (omega arith) in
    is ∙ (λ i. so i ++ numbered_line (here i) line) ∙ sym (line_behind 0 lines line)
