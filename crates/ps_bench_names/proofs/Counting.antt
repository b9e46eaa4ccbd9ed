-- The words of a line that count.
use Rattle.std.proofs.Common.{◌≡◌, ◌≤◌, ◌<◌, ◌+◌, ◌-◌, ◌==◌, ℕ, List, [], ◌∷◌, true, false, length, take, drop, get_or, suc, ◌∙◌, ap, arith}
use Rattle.std.proofs.lemmas.Grind.{common_steps}
use Rattle.std.proofs.lemmas.List.{drop_more}
use Rattle.ps_bench_names.specs.Words.{is_comment, counted}

-- a word begins a comment by its first byte
pub comment_by_byte : (line : List ℕ) (from upto : ℕ) → from < upto → upto ≤ length line → is_comment (take (upto - from) (drop from line)) ≡ (get_or line from 0 == 35)
comment_by_byte line from upto some within =
    let next : drop from line ≡ get_or line from 0 ∷ drop (from + 1) line = drop_more line from 0 (omega arith) in
    let size : upto - from ≡ suc (upto - from - 1) = omega arith in
    ap (λ (n : ℕ). is_comment (take n (drop from line))) size ∙ ap (λ (bytes : List ℕ). is_comment (take (suc (upto - from - 1)) bytes)) next

-- the next word counts, and then those after it
pub counted_next : (word : List ℕ) (left rest : List (List ℕ)) → left ≡ word ∷ rest → is_comment word ≡ false → counted left ≡ word ∷ counted rest
counted_next word left rest is plain = grind (arith, common_steps)

-- a comment ends the words that count
pub counted_comment : (word : List ℕ) (left rest : List (List ℕ)) → left ≡ word ∷ rest → is_comment word ≡ true → counted left ≡ []
counted_comment word left rest is comment = grind (arith, common_steps)
