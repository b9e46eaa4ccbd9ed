-- The sixteen bytes of each instance among those of all.
use Rattle.std.proofs.Common.{◌≡◌, ◌≢◌, ℕ, ◌+◌, ◌*◌, ◌<◌, ◌≤◌, List, length, take, drop, min, sym, ap, ◌∙◌, inl, inr, arith, length-drop, zero-add}
use Rattle.std.specs.Prelude.{slice_index}
use Rattle.std.proofs.lemmas.Bool.{cases_lt}
use Rattle.std.proofs.lemmas.List.{same_lists, get_or_default, get_or-drop, get_or-take, length-take, length-take-le, drop-drop}
use Rattle.ps_machine.specs.Bytes.{replaced, instance_bytes}
use Rattle.ps_machine.proofs.Places.{length-replaced, index_before, index_within, index_after}

-- the bytes of instance i among those of all
abbrev pub bytes_at : ℕ → List ℕ → List ℕ
bytes_at i blocks = take 16 (drop (16 * i) blocks)

pub instance_is : (i : ℕ) (blocks : List ℕ) → instance_bytes 0 i blocks ≡ bytes_at i blocks
instance_is i blocks = ap (λ place. take 16 (drop place blocks)) (zero-add (16 * i))

pub block_is : (from i : ℕ) (cells blocks : List ℕ) → drop from cells ≡ blocks → instance_bytes from i cells ≡ bytes_at i blocks
block_is from i cells blocks rest = ap (take 16) (sym (drop-drop (16 * i) from cells) ∙ ap (drop (16 * i)) rest)

-- sixteen bytes that were replaced, and those of the other instances
pub bytes_at_same : (blocks st : List ℕ) (i : ℕ) → 16 * i + 16 ≤ length blocks → length st ≡ 16 → bytes_at i (replaced blocks (16 * i) st) ≡ st
bytes_at_same blocks st i room size =
    let lr = length-replaced blocks (16 * i) st (omega arith) in
    let ld = length-drop (16 * i) (replaced blocks (16 * i) st) in
    let lt = length-take-le 16 (drop (16 * i) (replaced blocks (16 * i) st)) (omega arith) in
    same_lists (bytes_at i (replaced blocks (16 * i) st)) st (lt ∙ sym size) (λ k d low.
    let low' : k < length st = omega arith in
    let low16 : k < 16 = omega arith in
    get_or_default (bytes_at i (replaced blocks (16 * i) st)) k d 0 low
    ∙ get_or-take 16 (drop (16 * i) (replaced blocks (16 * i) st)) k 0 low16
    ∙ get_or-drop (16 * i) (replaced blocks (16 * i) st) k 0
    ∙ index_within blocks (16 * i) st k low' (omega arith)
    ∙ get_or_default st k 0 d low')

pub bytes_at_other : (blocks st : List ℕ) (i j : ℕ) → 16 * i + 16 ≤ length blocks → length st ≡ 16 → j ≢ i → bytes_at j (replaced blocks (16 * i) st) ≡ bytes_at j blocks
bytes_at_other blocks st i j room size other =
    let new = replaced blocks (16 * i) st in
    let lr = length-replaced blocks (16 * i) st (omega arith) in
    let lx = length-drop (16 * j) new in
    let ly = length-drop (16 * j) blocks in
    let same : length (drop (16 * j) new) ≡ length (drop (16 * j) blocks) = omega arith in
    let len : length (bytes_at j new) ≡ length (bytes_at j blocks) = length-take 16 (drop (16 * j) new) ∙ ap (min 16) same ∙ sym (length-take 16 (drop (16 * j) blocks)) in
    same_lists (bytes_at j new) (bytes_at j blocks) len (λ k d low.
    let low' : k < length (bytes_at j blocks) = omega arith in
    let low16 : k < 16 = omega (arith, length-take 16 (drop (16 * j) new)) in
    let mid : slice_index new (16 * j + k) ≡ slice_index blocks (16 * j + k) =
    elim (cases_lt j i) [
      | inl before ↦ index_before blocks (16 * i) st (16 * j + k) (omega arith) (omega arith)
      | inr after ↦ index_after blocks (16 * i) st (16 * j + k) (omega arith) (omega arith)
    ] in
    get_or_default (bytes_at j new) k d 0 low
    ∙ get_or-take 16 (drop (16 * j) new) k 0 low16
    ∙ get_or-drop (16 * j) new k 0
    ∙ mid
    ∙ sym (get_or-drop (16 * j) blocks k 0)
    ∙ sym (get_or-take 16 (drop (16 * j) blocks) k 0 low16)
    ∙ get_or_default (bytes_at j blocks) k 0 d low')
