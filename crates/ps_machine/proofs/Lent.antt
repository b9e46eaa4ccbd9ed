-- Sixteen bytes that are lent to a call.
use Rattle.std.proofs.Common.{◌≡◌, ℕ, ◌+◌, ◌-◌, List, ◌++◌, length, take, drop, ap, ◌∙◌, arith}
use Rattle.std.proofs.lemmas.List.{drop-drop}
use borrow.Rule.Slice.PartMut.{put_mid}
use Rattle.ps_machine.specs.Bytes.{replaced}

-- sixteen bytes at a place that were lent, and given back as these
pub written_at : (c new : List ℕ) (p : ℕ) → length new ≡ 16 → put_mid p (p + 16 - p) c new ≡ replaced c p new
written_at c new p long =
    let k : p + 16 - p ≡ 16 = omega arith in
    let e : p + 16 ≡ p + length new = omega arith in
    (λ x. take p c ++ (new ++ drop (k x) (drop p c)))
    ∙ ap (λ l. take p c ++ (new ++ l)) (drop-drop 16 p c ∙ ap (λ n. drop n c) e)

pub part_is : (c : List ℕ) (p : ℕ) → take (p + 16 - p) (drop p c) ≡ take 16 (drop p c)
part_is c p = let k : p + 16 - p ≡ 16 = omega arith in (λ x. take (k x) (drop p c))
