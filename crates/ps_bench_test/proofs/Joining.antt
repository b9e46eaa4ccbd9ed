-- Texts that are written one after the other.
use Rattle.std.proofs.Common.{◌≡◌, ℕ, List, ◌++◌, ap, ◌∙◌, append_assoc}

-- two texts, one after the other
pub two_more : (old a b one two : List ℕ) → one ≡ old ++ a → two ≡ one ++ b → two ≡ old ++ (a ++ b)
two_more old a b one two first second = second ∙ ap (λ (t : List ℕ). t ++ b) first ∙ append_assoc old a b

-- three texts
pub three_more : (old a b c one two three : List ℕ) → one ≡ old ++ a → two ≡ one ++ b → three ≡ two ++ c →
    three ≡ old ++ ((a ++ b) ++ c)
three_more old a b c one two three first second third =
    two_more old (a ++ b) c two three (two_more old a b one two first second) third

-- four texts
pub four_more : (old a b c d one two three four : List ℕ) → one ≡ old ++ a → two ≡ one ++ b → three ≡ two ++ c →
    four ≡ three ++ d → four ≡ old ++ (((a ++ b) ++ c) ++ d)
four_more old a b c d one two three four first second third fourth =
    two_more old ((a ++ b) ++ c) d three four (three_more old a b c one two three first second third) fourth
