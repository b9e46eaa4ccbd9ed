-- Where the words of a line stand.
use Rattle.std.proofs.Common.{◌≡◌, ◌≤◌, ◌<◌, ◌+◌, ◌-◌, ℕ, List, [], ◌∷◌, true, false, length, take, drop, get_or, sym, ◌∙◌, ap, arith, length-drop, suc, zero}
use Rattle.std.proofs.lemmas.Grind.{common_steps}
use Rattle.std.proofs.lemmas.List.{drop_all, drop_more, get_or-drop}
use Rattle.ps_trace.specs.Words.{is_blank, words, IsNextWord, AreBlank}

-- a blank in front changes no word
pub words-blank : (b : ℕ) (bytes : List ℕ) → is_blank b ≡ true → words (b ∷ bytes) ≡ words bytes
words-blank b bytes blank = grind (arith, common_steps)

-- blanks in front change no word
pub words-blanks : (n : ℕ) (line : List ℕ) (at : ℕ) → at + n ≤ length line → ((k : ℕ) → at ≤ k → k < at + n → is_blank (get_or line k 0) ≡ true) →
    words (drop at line) ≡ words (drop (at + n) line)
words-blanks zero line at within blanks = ap (λ (k : ℕ). words (drop k line)) (omega arith)
words-blanks (suc n) line at within blanks =
    let first : is_blank (get_or line at 0) ≡ true = blanks at (omega arith) (omega arith) in
    let next : drop at line ≡ get_or line at 0 ∷ drop (at + 1) line = drop_more line at 0 (omega arith) in
    let rest : words (drop (at + 1) line) ≡ words (drop (at + 1 + n) line) = words-blanks n line (at + 1) (omega arith) (λ k low high. blanks k (omega arith) (omega arith)) in
    let same : at + 1 + n ≡ at + suc n = omega arith in
    ap words next ∙ words-blank (get_or line at 0) (drop (at + 1) line) first ∙ rest ∙ ap (λ (k : ℕ). words (drop k line)) same

-- a word of one byte, after which a blank or nothing stands
pub words-one : (b : ℕ) (bytes : List ℕ) → is_blank b ≡ false → (0 < length bytes → is_blank (get_or bytes 0 0) ≡ true) → words (b ∷ bytes) ≡ (b ∷ []) ∷ words bytes
words-one b [] plain ends = grind (arith, common_steps)
words-one b (c ∷ bytes) plain ends =
    let blank : is_blank c ≡ true = ends (omega arith) in
    grind (arith, common_steps)

-- one byte more in front of a word
pub words-more : (b c : ℕ) (bytes word : List ℕ) (more : List (List ℕ)) → is_blank b ≡ false → is_blank c ≡ false → words (c ∷ bytes) ≡ word ∷ more →
    words (b ∷ c ∷ bytes) ≡ (b ∷ word) ∷ more
words-more b c bytes word more plain joined is = grind (arith, common_steps)

-- the bytes up to a blank or the end are a word
pub words-word : (n : ℕ) (line : List ℕ) (from : ℕ) → from + suc n ≤ length line → ((k : ℕ) → from ≤ k → k < from + suc n → is_blank (get_or line k 0) ≡ false) →
    (from + suc n < length line → is_blank (get_or line (from + suc n) 0) ≡ true) →
    words (drop from line) ≡ take (suc n) (drop from line) ∷ words (drop (from + suc n) line)
words-word zero line from within bytes ends =
    let b : ℕ = get_or line from 0 in
    let rest : List ℕ = drop (from + 1) line in
    let next : drop from line ≡ b ∷ rest = drop_more line from 0 (omega arith) in
    let there : get_or rest 0 0 ≡ get_or line (from + 1) 0 = get_or-drop (from + 1) line 0 0 ∙ ap (λ (k : ℕ). get_or line k 0) (omega arith) in
    let last : 0 < length rest → is_blank (get_or rest 0 0) ≡ true = λ some. ap is_blank there ∙ ends (omega (arith, length-drop (from + 1) line)) in
    ap words next ∙ words-one b rest (bytes from (omega arith) (omega arith)) last ∙ ap (λ (w : List ℕ). w ∷ words rest) (sym (ap (take 1) next))
words-word (suc n) line from within bytes ends =
    let b : ℕ = get_or line from 0 in
    let c : ℕ = get_or line (from + 1) 0 in
    let rest : List ℕ = drop (from + 1) line in
    let next : drop from line ≡ b ∷ rest = drop_more line from 0 (omega arith) in
    let next2 : rest ≡ c ∷ drop (from + 1 + 1) line = drop_more line (from + 1) 0 (omega arith) in
    let same : from + 1 + suc n ≡ from + suc (suc n) = omega arith in
    let last : from + 1 + suc n < length line → is_blank (get_or line (from + 1 + suc n) 0) ≡ true =
    λ more. ap (λ (k : ℕ). is_blank (get_or line k 0)) same ∙ ends (omega arith) in
    let ih : words rest ≡ take (suc n) rest ∷ words (drop (from + 1 + suc n) line) = words-word n line (from + 1) (omega arith) (λ k low high. bytes k (omega arith) (omega arith)) last in
    ap words (next ∙ ap (λ (t : List ℕ). b ∷ t) next2)
    ∙ words-more b c (drop (from + 1 + 1) line) (take (suc n) rest) (words (drop (from + 1 + suc n) line)) (bytes from (omega arith) (omega arith)) (bytes (from + 1) (omega arith) (omega arith))
    (sym (ap words next2) ∙ ih)
    ∙ ap (λ (w : List ℕ). w ∷ words (drop (from + 1 + suc n) line)) (sym (ap (take (suc (suc n))) next))
    ∙ ap (λ (k : ℕ). take (suc (suc n)) (drop from line) ∷ words (drop k line)) same

-- the next word is the first of the words that are left
pub words-next : (line : List ℕ) (at from upto : ℕ) → IsNextWord line at from upto →
    words (drop at line) ≡ take (upto - from) (drop from line) ∷ words (drop upto line)
words-next line at from upto next =
    let gap : at + (from - at) ≡ from = omega (arith, next.behind) in
    let size : suc (upto - from - 1) ≡ upto - from = omega (arith, next.some) in
    let end : from + suc (upto - from - 1) ≡ upto = omega (arith, next.some) in
    words-blanks (from - at) line at (omega (arith, next.behind, next.some, next.within)) (λ k low high. next.blanks k low (omega (arith, next.behind)))
    ∙ ap (λ (k : ℕ). words (drop k line)) gap
    ∙ words-word (upto - from - 1) line from (omega (arith, next.within, next.some)) (λ k low high. next.bytes k low (omega (arith, next.some)))
    (λ more. ap (λ (k : ℕ). is_blank (get_or line k 0)) end ∙ next.ends (omega (arith, next.some)))
    ∙ ap (λ (k : ℕ). take k (drop from line) ∷ words (drop (from + k) line)) size
    ∙ ap (λ (k : ℕ). take (upto - from) (drop from line) ∷ words (drop k line)) (omega (arith, next.some))

-- where only blanks are left there is no word
pub words-none : (line : List ℕ) (at : ℕ) → at ≤ length line → AreBlank line at → words (drop at line) ≡ []
words-none line at within blanks =
    let all : at + (length line - at) ≡ length line = omega arith in
    words-blanks (length line - at) line at (omega arith) (λ k low high. blanks k low (omega arith))
    ∙ ap (λ (k : ℕ). words (drop k line)) all ∙ ap words (drop_all (length line) line (omega arith))
