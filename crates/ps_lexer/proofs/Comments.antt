-- Where comments end.
use Rattle.std.proofs.Common.{◌≡◌, ℕ, ◌+◌, ◌-◌, ◌<◌, ◌≤◌, true, List, length, slice_index, subst, arith, codes}
use Rattle.std.proofs.lemmas.Bool.Decides.{nat_tests}
use Rattle.ps_lexer.specs.Gaps.{HasBytesAt, IsBlockComment, IsOpenComment}
use Rattle.ps_lexer.specs.Scanning.{opens_block}
use Rattle.ps_lexer.proofs.Slices.{in_range, pair_at, at_pair}

block_bytes : (b c : ℕ) → opens_block b c ≡ true → (b ≡ 40) × (c ≡ 42)
block_bytes b c h = (grind (arith, nat_tests), grind (arith, nat_tests))

-- `(*` stands where the two bytes say so
pub block_opens : (text : List ℕ) (i : ℕ) → opens_block (slice_index text i) (slice_index text (i + 1)) ≡ true → HasBytesAt text i (codes "(*")
block_opens text i h =
    let two = block_bytes (slice_index text i) (slice_index text (i + 1)) h in
    let room = in_range text (i + 1) 41 two.1 in
    pair_at text i 40 42 (omega arith) two.0 two.1

module _ (text : List ℕ) (i k : ℕ) (opens : opens_block (slice_index text i) (slice_index text (i + 1)) ≡ true) (ahead : i + 2 ≤ k) (first : (m : ℕ) → i + 2 ≤ m → m < k → slice_index text m ≡ 42 → slice_index text (m + 1) ≡ 41 → ⊥) where
  pub block_ends_there : k + 1 < length text → slice_index text k ≡ 42 → slice_index text (k + 1) ≡ 41 → IsBlockComment text i (k + 2)
  block_ends_there room star bracket = record {
    opens = block_opens text i opens;
    room = omega arith;
    closes = let back : k ≡ k + 2 - 2 = omega arith in subst (λ m. HasBytesAt text m (codes "*)")) back (pair_at text k 42 41 (omega arith) star bracket);
    first = λ m from before stands. let two = at_pair text m 42 41 stands in first m from (omega arith) two.1 two.2;
  }

  pub never_closed : length text ≤ k + 1 → IsOpenComment text i
  never_closed past = record {
    opens = block_opens text i opens;
    never = λ m from stands. let two = at_pair text m 42 41 stands in let room = two.0 in first m from (omega arith) two.1 two.2;
  }
