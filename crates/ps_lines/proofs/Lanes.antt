-- Line feeds among sixteen bytes that are looked at at once.
use Rattle.std.proofs.Common.{◌≡◌, ◌≤◌, ◌<◌, ◌+◌, ℕ, List, false, not, eqb, length, take, get_or, ◌∙◌, arith, suc, zero, subst}
use Rattle.std.proofs.lemmas.Bool.{or_from, eqb-true}
use Rattle.std.proofs.lemmas.List.Folds.{list_any_more}
use Rattle.std.proofs.lemmas.Simd.{run_in_chunk_le, run_in_chunk_fails, run_in_chunk_stops}
use Rattle.std.specs.List.{prefix_len, list_any}
use Rattle.std.specs.Simd.Lanes.{chunk}
use Rattle.ps_lines.specs.Lines.{HasNoLineFeed}

-- bytes that are no line feeds, after others that are none
none_behind : (bytes : List ℕ) (from n : ℕ) → from + n ≤ length bytes → HasNoLineFeed (take from bytes) →
    ((k : ℕ) → from ≤ k → k < from + n → eqb (get_or bytes k 0) 10 ≡ false) → HasNoLineFeed (take (from + n) bytes)
none_behind bytes from zero within before none = subst (λ (k : ℕ). HasNoLineFeed (take k bytes)) (omega arith) before
none_behind bytes from (suc n) within before none =
    let ih : HasNoLineFeed (take (from + n) bytes) = none_behind bytes from n (omega arith) before (λ k low high. none k low (omega arith)) in
    let last : eqb (get_or bytes (from + n) 0) 10 ≡ false = none (from + n) (omega arith) (omega arith) in
    let more = list_any_more (λ b. eqb b 10) bytes (from + n) 0 (omega arith) in
    let all : list_any (λ b. eqb b 10) (take (from + n + 1) bytes) ≡ false = more ∙ or_from _ _ ih last in
    subst (λ (k : ℕ). HasNoLineFeed (take k bytes)) (omega arith) all

-- as many bytes as stand before the first line feed of sixteen are none
pub none_before : (bytes : List ℕ) (from r : ℕ) → from + 16 ≤ length bytes → r ≡ prefix_len (λ b. not (eqb b 10)) (chunk from 16 bytes) →
    HasNoLineFeed (take from bytes) → HasNoLineFeed (take (from + r) bytes)
none_before bytes from r room counted before =
    let few : r ≤ 16 = run_in_chunk_le (λ b. eqb b 10) bytes from 16 r 0 room counted in
    none_behind bytes from r (omega arith) before (run_in_chunk_fails (λ b. eqb b 10) bytes from 16 r 0 room counted)

-- and the byte after them is one, where they are fewer than sixteen
pub feed_behind : (bytes : List ℕ) (from r : ℕ) → from + 16 ≤ length bytes → r ≡ prefix_len (λ b. not (eqb b 10)) (chunk from 16 bytes) →
    r < 16 → get_or bytes (from + r) 0 ≡ 10
feed_behind bytes from r room counted few =
    eqb-true (get_or bytes (from + r) 0) 10 (run_in_chunk_stops (λ b. eqb b 10) bytes from 16 r 0 room counted few)

-- where sixteen bytes stand before it, none of them is one
pub none_among : (bytes : List ℕ) (from r : ℕ) → from + 16 ≤ length bytes → r ≡ prefix_len (λ b. not (eqb b 10)) (chunk from 16 bytes) →
    16 ≤ r → HasNoLineFeed (take from bytes) → HasNoLineFeed (take (from + 16) bytes)
none_among bytes from r room counted many before =
    let few : r ≤ 16 = run_in_chunk_le (λ b. eqb b 10) bytes from 16 r 0 room counted in
    subst (λ (k : ℕ). HasNoLineFeed (take (from + k) bytes)) (omega arith) (none_before bytes from r room counted before)
