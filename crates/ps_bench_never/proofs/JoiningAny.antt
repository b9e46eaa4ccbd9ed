-- Texts that are written one after the other, if the last of them is written.
use Rattle.std.proofs.Common.{◌≡◌, ℕ, List, ◌++◌, Result, Ok, Err, OnOk, ap, ◌∙◌, append_assoc}

-- two texts that are written
pub joined : (old a b one two : List ℕ) → one ≡ old ++ a → two ≡ one ++ b → two ≡ old ++ (a ++ b)
joined old a b one two first second = second ∙ ap (λ (t : List ℕ). t ++ b) first ∙ append_assoc old a b

-- two texts
pub two_more : {A E : Type 0} (r : Result A E) (old a b one two : List ℕ) → one ≡ old ++ a → OnOk r (two ≡ one ++ b) → OnOk r (two ≡ old ++ (a ++ b))
two_more (Ok v) old a b one two first second = joined old a b one two first second
two_more (Err e) old a b one two first second = tt

-- three texts
pub three_more : {A E : Type 0} (r : Result A E) (old a b c one two three : List ℕ) → one ≡ old ++ a → two ≡ one ++ b → OnOk r (three ≡ two ++ c) →
    OnOk r (three ≡ old ++ ((a ++ b) ++ c))
three_more r old a b c one two three first second third =
    two_more r old (a ++ b) c two three (joined old a b one two first second) third

-- five texts
pub five_more : {A E : Type 0} (r : Result A E) (old a b c d e one two three four five : List ℕ) → one ≡ old ++ a → two ≡ one ++ b → three ≡ two ++ c →
    four ≡ three ++ d → OnOk r (five ≡ four ++ e) → OnOk r (five ≡ old ++ ((((a ++ b) ++ c) ++ d) ++ e))
five_more r old a b c d e one two three four five first second third fourth fifth =
    three_more r old ((a ++ b) ++ c) d e three four five (joined old (a ++ b) c two three (joined old a b one two first second) third) fourth fifth
