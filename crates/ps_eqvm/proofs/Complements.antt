-- Bytes and their complements.
use Rattle.std.proofs.Common.{◌≡◌, ℕ, zero, suc, ◌+◌, ◌-◌, ◌<◌, List, [], ◌∷◌, ◌++◌, length, take, drop, replicate, refl, sym, ap, ◌∙◌, arith, lit<}
use Rattle.std.specs.Prelude.{slice_index, slice_set}
use Rattle.std.proofs.lemmas.List.{map-append, take-map, drop-map, length-map, map-set}
use Rattle.ps_machine.specs.Bytes.{replaced}
use Rattle.ps_eqvm.specs.Plain.{complement}

pub complement_small : (bytes : List ℕ) (i : ℕ) → slice_index (complement bytes) i < 256
complement_small [] i = lit< tt
complement_small (b ∷ bs) zero = omega arith
complement_small (b ∷ bs) (suc i) = complement_small bs i

pub complement_index : (bytes : List ℕ) (i : ℕ) → i < length bytes → slice_index (complement bytes) i ≡ 255 - slice_index bytes i
complement_index [] i h = absurd (omega (arith, h))
complement_index (b ∷ bs) zero h = refl
complement_index (b ∷ bs) (suc i) h = complement_index bs i (omega (arith, h))

pub complement_replicate : (n byte : ℕ) → complement (replicate n byte) ≡ replicate n (255 - byte)
complement_replicate zero byte = refl
complement_replicate (suc n) byte = ap (λ l. (255 - byte) ∷ l) (complement_replicate n byte)

pub complement_part : (n at : ℕ) (bytes : List ℕ) → complement (take n (drop at bytes)) ≡ take n (drop at (complement bytes))
complement_part n at bytes = sym (take-map (λ byte. 255 - byte) n (drop at bytes)) ∙ ap (take n) (sym (drop-map (λ byte. 255 - byte) at bytes))

pub complement_replaced : (bytes : List ℕ) (at : ℕ) (new : List ℕ) → complement (replaced bytes at new) ≡ replaced (complement bytes) at (complement new)
complement_replaced bytes at new =
    let f : ℕ → ℕ = λ byte. 255 - byte in
    map-append f (take at bytes) (new ++ drop (at + length new) bytes)
    ∙ ap (λ l. l ++ complement (new ++ drop (at + length new) bytes)) (sym (take-map f at bytes))
    ∙ ap (λ l. take at (complement bytes) ++ l) (map-append f new (drop (at + length new) bytes) ∙ ap (λ l. complement new ++ l) (sym (drop-map f (at + length new) bytes)))
    ∙ ap (λ n. take at (complement bytes) ++ (complement new ++ drop (at + n) (complement bytes))) (sym (length-map new f))

pub complement_set : (bytes : List ℕ) (at byte : ℕ) → byte < 256 → complement (slice_set bytes at (255 - byte)) ≡ slice_set (complement bytes) at byte
complement_set bytes at byte small =
    let back : 255 - (255 - byte) ≡ byte = omega arith in
    map-set (λ byte. 255 - byte) bytes at (255 - byte) ∙ ap (slice_set (complement bytes) at) back
