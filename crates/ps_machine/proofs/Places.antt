-- What reads give after writes.
use Rattle.std.proofs.Common.{◌≡◌, ℕ, suc, ◌+◌, ◌^◌, ◌<◌, ◌≤◌, Bool, false, List, [], ◌∷◌, ◌++◌, length, take, drop, map, sym, ap, ◌∙◌, arith, append_assoc, length-append, drop-cons, get_or}
use Rattle.std.specs.Prelude.{slice_set, slice_index}
use Rattle.std.specs.Int.{w16, w32, to_be_bytes, from_be_bytes}
use Rattle.std.proofs.Math.Seq.{set-append_seam}
use Rattle.std.proofs.lemmas.Grind.{common_steps}
use Rattle.std.proofs.lemmas.Nat.{from_be_bytes-to_be_bytes_2, from_be_bytes-to_be_bytes_4}
use Rattle.std.proofs.lemmas.List.{map_more, length-map}
use Rattle.ps_machine.specs.Bytes.{replaced, bit, be2, be4}

pub length-replaced : (c : List ℕ) (a : ℕ) (m : List ℕ) → a + length m ≤ length c → length (replaced c a m) ≡ length c
length-replaced c a m h = grind (arith, common_steps)

pub index_before : (c : List ℕ) (a : ℕ) (m : List ℕ) (k : ℕ) → k < a → a ≤ length c → slice_index (replaced c a m) k ≡ slice_index c k
index_before c a m k h r = grind (arith, common_steps)

pub index_within : (c : List ℕ) (a : ℕ) (m : List ℕ) (j : ℕ) → j < length m → a ≤ length c → slice_index (replaced c a m) (a + j) ≡ slice_index m j
index_within c a m j h r = grind (arith, common_steps)

pub index_after : (c : List ℕ) (a : ℕ) (m : List ℕ) (k : ℕ) → a + length m ≤ k → a ≤ length c → slice_index (replaced c a m) k ≡ slice_index c k
index_after c a m k h r = grind (arith, common_steps)

-- numbers of two and four bytes, read at the place where they were written
pub be2_within : (c : List ℕ) (a n : ℕ) → a ≤ length c → n < 2 ^ 16 → be2 (replaced c a (to_be_bytes w16 n)) a ≡ n
be2_within c a n r h =
    let m : List ℕ = to_be_bytes w16 n in
    let e0 : slice_index (replaced c a m) a ≡ slice_index m 0 = let z : a ≡ a + 0 = omega arith in ap (slice_index (replaced c a m)) z ∙ index_within c a m 0 (omega arith) r in
    let e1 = index_within c a m 1 (omega arith) r in
    (λ i. from_be_bytes w16 (e0 i ∷ e1 i ∷ [])) ∙ from_be_bytes-to_be_bytes_2 n h

pub be4_within : (c : List ℕ) (a n : ℕ) → a ≤ length c → n < 2 ^ 32 → be4 (replaced c a (to_be_bytes w32 n)) a ≡ n
be4_within c a n r h =
    let m : List ℕ = to_be_bytes w32 n in
    let e0 : slice_index (replaced c a m) a ≡ slice_index m 0 = let z : a ≡ a + 0 = omega arith in ap (slice_index (replaced c a m)) z ∙ index_within c a m 0 (omega arith) r in
    let e1 = index_within c a m 1 (omega arith) r in
    let e2 = index_within c a m 2 (omega arith) r in
    let e3 = index_within c a m 3 (omega arith) r in
    (λ i. from_be_bytes w32 (e0 i ∷ e1 i ∷ e2 i ∷ e3 i ∷ [])) ∙ from_be_bytes-to_be_bytes_4 n h

-- one more byte after those that were written
pub replaced_more : (c m : List ℕ) (a v : ℕ) → a + length m < length c → slice_set (replaced c a m) (a + length m) v ≡ replaced c a (m ++ v ∷ [])
replaced_more c m a v h =
    let n = a + length m in
    let pre = take a c ++ m in
    let len : length pre ≡ a + length m = grind (arith, common_steps, length-append (take a c) m) in
    let cons = drop-cons c n 0 h in
    let one : length (m ++ v ∷ []) ≡ length m + 1 = omega (arith, length-append m (v ∷ [])) in
    let nn : suc n ≡ a + length (m ++ v ∷ []) = omega arith in
    let flat : replaced c a m ≡ pre ++ drop n c = sym (append_assoc (take a c) m (drop n c)) in
    ap (λ l. slice_set l n v) (flat ∙ ap (λ l. pre ++ l) cons)
    ∙ ap (λ k. slice_set (pre ++ (get_or c n 0 ∷ drop (suc n) c)) k v) (sym len)
    ∙ set-append_seam pre (get_or c n 0) (drop (suc n) c) v
    ∙ append_assoc (take a c) m (v ∷ drop (suc n) c)
    ∙ ap (λ l. take a c ++ l) (sym (append_assoc m (v ∷ []) (drop (suc n) c)) ∙ ap (λ k. (m ++ v ∷ []) ++ drop k c) nn)

-- the same for a loop over truth values
pub replaced_bit : (now c : List ℕ) (a i b : ℕ) (ins : List Bool) → a + length ins ≤ length c → i < length ins → now ≡ replaced c a (map bit (take i ins)) →
    b ≡ bit (get_or ins i false) → slice_set now (a + i) b ≡ replaced c a (map bit (take (i + 1) ins))
replaced_bit now c a i b ins room within inv e =
    let m = map bit (take i ins) in
    let len : length m ≡ i = grind (arith, common_steps, length-map (take i ins) bit) in
    let at : a + i ≡ a + length m = omega arith in
    let fits : a + length m < length c = omega arith in
    ap (λ l. slice_set l (a + i) b) inv
    ∙ ap (λ k. slice_set (replaced c a m) k b) at
    ∙ replaced_more c m a b fits
    ∙ ap (λ l. replaced c a l) (ap (λ x. m ++ x ∷ []) e ∙ sym (map_more bit ins i false within))
