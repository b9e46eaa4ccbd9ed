use Rattle.std.proofs.Common.{◌≡◌, ◌≤◌, ℕ, List, length, take, min, arith, ap, sym, ◌∙◌}
use Rattle.std.proofs.lemmas.List.{take_min, take-take, length-take}
use Rattle.ps_text.proofs.quoted.name_of.Goals as goal

-- the shorter of two beginnings
take-min : (m n : ℕ) (l : List ℕ) → n ≤ length l → take (min m n) l ≡ take m (take n l)
take-min m n l inside =
    let size : length (take n l) ≡ n = omega (arith, length-take n l) in
    sym (take-take (min m n) n l (omega arith)) ∙ ap (λ (k : ℕ). take (min m k) (take n l)) (sym size) ∙ take_min m (take n l)

pub returns : goal.returns
returns c =
    let n : ℕ = c.name_length.result in
    let bytes : List ℕ = c.args.bytes.now in
    ap (λ (k : ℕ). take k bytes) c.min.ensures
    ∙ take-min 64 n bytes c.name_length.ensures.within
    ∙ ap (λ (k : ℕ). take 64 (take k bytes)) c.name_length.ensures.length
