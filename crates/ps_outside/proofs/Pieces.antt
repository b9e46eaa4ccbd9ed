-- A text that is read or written piece by piece.
use Rattle.std.proofs.Common.{◌≡◌, ◌≤◌, ◌+◌, ℕ, List, ◌++◌, length, take, drop, sym, ◌∙◌, ap, arith, append_assoc}
use Rattle.std.proofs.Math.Seq.{take-add}
use Rattle.std.proofs.lemmas.List.{take_all}
use Rattle.ps_outside.specs.Outside.{Reads}

-- one piece more was written
pub written_more : (before now then piece : List ℕ) (done n : ℕ) → now ≡ before ++ take done piece → then ≡ now ++ take n (drop done piece) →
    then ≡ before ++ take (done + n) piece
written_more before now then piece done n so_far more =
    more ∙ ap (λ (t : List ℕ). t ++ take n (drop done piece)) so_far ∙ append_assoc before (take done piece) (take n (drop done piece))
    ∙ sym (ap (λ (t : List ℕ). before ++ t) (take-add done n piece))

-- one piece more was read
pub read_more : (text read buffer : List ℕ) (at n : ℕ) → read ≡ take at text → Reads text at n buffer → read ++ take n buffer ≡ take (at + n) text
read_more text read buffer at n so_far more =
    ap (λ (t : List ℕ). t ++ take n buffer) so_far ∙ ap (λ (t : List ℕ). take at text ++ t) more.bytes ∙ sym (take-add at n text)

-- what was read is all that was asked for, or all there is
pub read_all : (text read : List ℕ) (n most : ℕ) → read ≡ take n text → n ≤ most → length text ≤ n → read ≡ take most text
read_all text read n most so_far fits whole = so_far ∙ take_all n text whole ∙ sym (take_all most text (omega arith))
