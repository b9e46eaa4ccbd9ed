-- Safe outputs, Ready and Error, written byte by byte.
use Rattle.std.proofs.Common.{◌≡◌, ℕ, ◌+◌, ◌<◌, ◌≤◌, Bool, List, [], ◌∷◌, ◌++◌, length, sym, ap, ◌∙◌, arith, zero-add, length-append, append_assoc}
use Rattle.std.specs.Prelude.{slice_set, map}
use Rattle.std.specs.List.{range_with_len}
use Rattle.std.proofs.lemmas.List.{length-map, map-append}
use Rattle.std.proofs.lemmas.List.FromFn.{length-map-range_with_len, map-range_with_len_more}
use Rattle.ps_machine.specs.Bytes.{bit, replaced}
use Rattle.ps_machine.proofs.Places.{replaced_more}
use Rattle.ps_model.specs.PinBits.{pin_of}

-- one more safe output
pub output_more : (now c : List ℕ) (a j b safe : ℕ) → a + j < length c → now ≡ replaced c a (map bit (map (pin_of safe) (range_with_len 0 j))) →
    b ≡ bit (pin_of safe j) → slice_set now (a + j) b ≡ replaced c a (map bit (map (pin_of safe) (range_with_len 0 (j + 1))))
output_more now c a j b safe h inv e =
    let f = pin_of safe in
    let m : List ℕ = map bit (map f (range_with_len 0 j)) in
    let len : length m ≡ j = length-map (map f (range_with_len 0 j)) bit ∙ length-map-range_with_len f 0 j in
    ap (λ l. slice_set l (a + j) b) inv
    ∙ ap (λ k. slice_set (replaced c a m) (a + k) b) (sym len)
    ∙ replaced_more c m a b (omega arith)
    ∙ ap (λ x. replaced c a (m ++ x ∷ [])) e
    ∙ ap (replaced c a) (sym (ap (map bit) (map-range_with_len_more f 0 j j (zero-add j)) ∙ map-append bit (map f (range_with_len 0 j)) (f j ∷ [])))

-- then Ready and Error
pub outputs_end : (now c : List ℕ) (a n r e safe : ℕ) (ready error : Bool) → a + n + 2 ≤ length c →
    now ≡ replaced c a (map bit (map (pin_of safe) (range_with_len 0 n))) → r ≡ bit ready → e ≡ bit error →
    slice_set (slice_set now (a + n) r) (a + n + 1) e ≡ replaced c a (map bit (map (pin_of safe) (range_with_len 0 n) ++ (ready ∷ error ∷ [])))
outputs_end now c a n r e safe ready error h inv is-ready is-error =
    let f = pin_of safe in
    let m : List ℕ = map bit (map f (range_with_len 0 n)) in
    let m' : List ℕ = m ++ r ∷ [] in
    let len : length m ≡ n = length-map (map f (range_with_len 0 n)) bit ∙ length-map-range_with_len f 0 n in
    let len' : length m' ≡ length m + 1 = length-append m (r ∷ []) in
    let at : a + n + 1 ≡ a + length m' = omega arith in
    ap (λ l. slice_set (slice_set l (a + n) r) (a + n + 1) e) inv
    ∙ ap (λ k. slice_set (slice_set (replaced c a m) (a + k) r) (a + n + 1) e) (sym len)
    ∙ ap (λ l. slice_set l (a + n + 1) e) (replaced_more c m a r (omega arith))
    ∙ ap (λ k. slice_set (replaced c a m') k e) at
    ∙ replaced_more c m' a e (omega arith)
    ∙ ap (replaced c a) (append_assoc m (r ∷ []) (e ∷ []) ∙ (λ i. m ++ (is-ready i ∷ is-error i ∷ [])) ∙ sym (map-append bit (map f (range_with_len 0 n)) (ready ∷ error ∷ [])))
