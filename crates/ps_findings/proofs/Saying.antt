-- What is told, part by part.
use Rattle.std.proofs.Common.{◌≡◌, ℕ, ◌<◌, ◌≤◌, ◌∙◌, Bool, true, false, ltb, List, [], ◌++◌, ap, append_assoc, arith, length, min, refl, subst, sym, take}
use Rattle.std.proofs.lemmas.Bool.{ltb-false, ltb-true}
use Rattle.std.proofs.lemmas.List.{append-nil, take_all}
use Rattle.ps_findings.specs.declared.telling.Telling.{Telling}
use Rattle.ps_findings.specs.Said.{HasSaid}

-- nothing
pub no_more : (telling : Telling) → HasSaid [] telling telling
no_more telling whole = (whole, sym (append-nil telling.bytes))

-- one part after another
pub said_more : (a b c : Telling) (xs ys : List ℕ) → HasSaid xs a b → HasSaid ys b c → HasSaid (xs ++ ys) a c
said_more a b c xs ys first second whole =
    let later = second whole in
    let before = first later.0 in
    (before.0, later.1 ∙ ap (λ t. t ++ ys) before.1 ∙ append_assoc a.bytes xs ys)

-- the same bytes
pub said_so : (a b : Telling) (xs ys : List ℕ) → xs ≡ ys → HasSaid xs a b → HasSaid ys a b
said_so a b xs ys same said = subst (λ (t : List ℕ). HasSaid t a b) same said

-- the first bytes, as far as there are so many
pub take_shorter : (xs : List ℕ) (n : ℕ) → take (min (length xs) n) xs ≡ take n xs
take_shorter xs n = by_test (ltb n (length xs)) refl
  where
    by_test : (b : Bool) → ltb n (length xs) ≡ b → take (min (length xs) n) xs ≡ take n xs
    by_test true test =
        let shorter : n < length xs = ltb-true n (length xs) test in
        let few : min (length xs) n ≡ n = omega arith in
        ap (λ (k : ℕ). take k xs) few
    by_test false test =
        let longer : length xs ≤ n = ltb-false n (length xs) test in
        let all : min (length xs) n ≡ length xs = omega arith in
        ap (λ (k : ℕ). take k xs) all ∙ take_all (length xs) xs (omega arith) ∙ sym (take_all n xs longer)
