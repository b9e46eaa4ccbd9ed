-- Texts that are written one after the other, and what holds of a text that is given.
use Rattle.std.proofs.Common.{◌≡◌, ℕ, List, ◌++◌, Result, Ok, Err, IfOk, ap, refl, sym, subst, ◌∙◌, append_assoc}

-- two texts, one after the other
pub two_more : (old a b one two : List ℕ) → one ≡ old ++ a → two ≡ one ++ b → two ≡ old ++ (a ++ b)
two_more old a b one two first second = second ∙ ap (λ (t : List ℕ). t ++ b) first ∙ append_assoc old a b

-- three texts, one after the other
pub three_more : (old a b c one two three : List ℕ) → one ≡ old ++ a → two ≡ one ++ b → three ≡ two ++ c → three ≡ old ++ ((a ++ b) ++ c)
three_more old a b c one two three first second third = two_more old (a ++ b) c two three (two_more old a b one two first second) third

-- a text, a mark with a number, and a text, one after the other
pub four_more : (old a b c d one two three : List ℕ) → one ≡ old ++ a → two ≡ (one ++ b) ++ c → three ≡ two ++ d → three ≡ old ++ (((a ++ b) ++ c) ++ d)
four_more old a b c d one two three first second third =
    two_more old ((a ++ b) ++ c) d two three (three_more old a b c one (one ++ b) two first refl second) third

-- what holds of a text holds of what is given, where it is that text
pub of_given : {E : Type 0} (P : List ℕ → Type 0) (text : List ℕ) → P text → (r : Result (List ℕ) E) → IfOk r (λ bytes. bytes ≡ text) → IfOk r P
of_given P text holds (Ok bytes) same = subst P (sym same) holds
of_given P text holds (Err e) same = same
