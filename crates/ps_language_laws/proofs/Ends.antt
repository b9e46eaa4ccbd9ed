-- Where a run of bytes ends, and where comments do.
use Rattle.std.proofs.Common.{◌≡◌, ℕ, ◌+◌, ◌-◌, ◌<◌, ◌≤◌, ◌⊎◌, inl, inr, Bool, true, false, List, length, slice_index, codes, ap, ◌∙◌, subst, ⊎_elim, arith}
use Rattle.std.proofs.lemmas.Bool.{cases_Bool}
use Rattle.std.proofs.lemmas.Bool.Decides.{nat_tests, eqb_tells}
use Rattle.std.proofs.lemmas.List.{get_or_past}
use Rattle.ps_lexer.specs.Gaps.{HasBytesAt, line_feed, IsBlockComment, IsLineComment, IsOpenComment}
use Rattle.ps_lexer.specs.Scanning.{opens_block, opens_line}
use Rattle.ps_lexer.proofs.Comments.{block_ends_there, never_closed}
use Rattle.ps_lexer.proofs.Slices.{in_range, pair_at}
use Rattle.ps_language_laws.proofs.Searching.{FirstBelow, first_below}

-- The bytes of a text that pass a test, from a place on.
pub record IsRunTo (test : ℕ → Bool) (text : List ℕ) (i : ℕ) : Type 0 where
  pub end : ℕ
  pub from : i ≤ end
  pub within : end ≤ length text
  pub passes : (k : ℕ) → i ≤ k → k < end → test (slice_index text k) ≡ true
  pub stops : test (slice_index text end) ≡ false

-- a number from a place on is so much more
from_on : (P : ℕ → Type 0) (i k : ℕ) → i ≤ k → P (i + (k - i)) → P k
from_on P i k le p = let same : i + (k - i) ≡ k = omega arith in subst P same p

-- no byte past the end passes the test
pub run_to : (test : ℕ → Bool) (text : List ℕ) (i : ℕ) → test 0 ≡ false → i ≤ length text → IsRunTo test text i
run_to test text i past le = by (first_below P Q (λ d. cases_Bool (test (slice_index text (i + d)))) (length text - i))
  where
    P : ℕ → Type 0
    P d = test (slice_index text (i + d)) ≡ true

    Q : ℕ → Type 0
    Q d = test (slice_index text (i + d)) ≡ false

    by : FirstBelow P Q (length text - i) ⊎ ((d : ℕ) → d < length text - i → P d) → IsRunTo test text i
    by (inl f) = let below = f.below in record {
      end = i + f.at;
      from = omega arith;
      within = omega arith;
      passes = λ k from lt. from_on (λ m. test (slice_index text m) ≡ true) i k from (f.before (k - i) (omega arith));
      stops = f.holds;
    }
    by (inr all) = record {
      end = length text;
      from = le;
      within = omega arith;
      passes = λ k from lt. from_on (λ m. test (slice_index text m) ≡ true) i k from (all (k - i) (omega arith));
      stops = ap test (get_or_past text (length text) 0 (omega arith)) ∙ past;
    }

-- ---- comments

module _ (text : List ℕ) (i : ℕ) where
  -- `*)` stands at a place
  abbrev Closes : ℕ → Type 0
  Closes d = (slice_index text (i + 2 + d) ≡ 42) × (slice_index text (i + 2 + d + 1) ≡ 41)

  -- it does not
  abbrev IsInside : ℕ → Type 0
  IsInside d = slice_index text (i + 2 + d) ≡ 42 → slice_index text (i + 2 + d + 1) ≡ 41 → ⊥

  closes_or_not : (d : ℕ) → IsInside d ⊎ Closes d
  closes_or_not d =
      ⊎_elim (λ star. ⊎_elim (λ bracket. inr (star.1, bracket.1)) (λ other. inl (λ s b. other.1 b)) (eqb_tells (slice_index text (i + 2 + d + 1)) 41)) (λ other. inl (λ s b. other.1 s))
      (eqb_tells (slice_index text (i + 2 + d)) 42)

  pub block_decided : opens_block (slice_index text i) (slice_index text (i + 1)) ≡ true → ((j : ℕ) × IsBlockComment text i j) ⊎ IsOpenComment text i
  block_decided opens = by (first_below IsInside Closes closes_or_not (length text))
    where
      inside : (n : ℕ) → ((d : ℕ) → d < n → IsInside d) → (m : ℕ) → i + 2 ≤ m → m < i + 2 + n → slice_index text m ≡ 42 → slice_index text (m + 1) ≡ 41 → ⊥
      inside n all m from lt = from_on (λ k. slice_index text k ≡ 42 → slice_index text (k + 1) ≡ 41 → ⊥) (i + 2) m from (all (m - (i + 2)) (omega arith))

      by : FirstBelow IsInside Closes (length text) ⊎ ((d : ℕ) → d < length text → IsInside d) → ((j : ℕ) × IsBlockComment text i j) ⊎ IsOpenComment text i
      by (inl f) =
          let k = i + 2 + f.at in
          inl (k + 2, block_ends_there text i k opens (omega arith) (inside f.at f.before) (in_range text (k + 1) 40 f.holds.1) f.holds.0 f.holds.1)
      by (inr all) = inr (never_closed text i (i + 2 + length text) opens (omega arith) (inside (length text) all) (omega arith))

  line_bytes : (b c : ℕ) → opens_line b c ≡ true → (b ≡ 47) × (c ≡ 47)
  line_bytes b c h = (grind (arith, nat_tests), grind (arith, nat_tests))

  line_opens : opens_line (slice_index text i) (slice_index text (i + 1)) ≡ true → (i + 2 ≤ length text) × HasBytesAt text i (codes "//")
  line_opens h =
      let two = line_bytes (slice_index text i) (slice_index text (i + 1)) h in
      let room = in_range text (i + 1) 46 two.1 in
      (omega arith, pair_at text i 47 47 (omega arith) two.0 two.1)

  -- a byte is LF, or not
  abbrev IsFeed : ℕ → Type 0
  IsFeed d = slice_index text (i + 2 + d) ≡ line_feed

  abbrev IsNoFeed : ℕ → Type 0
  IsNoFeed d = slice_index text (i + 2 + d) ≡ line_feed → ⊥

  feed_or_not : (d : ℕ) → IsNoFeed d ⊎ IsFeed d
  feed_or_not d = ⊎_elim (λ feed. inr feed.1) (λ other. inl other.1) (eqb_tells (slice_index text (i + 2 + d)) line_feed)

  pub line_ends : opens_line (slice_index text i) (slice_index text (i + 1)) ≡ true → (j : ℕ) × IsLineComment text i j
  line_ends opens = by (line_opens opens) (first_below IsNoFeed IsFeed feed_or_not (length text - (i + 2)))
    where
      one_line : (n : ℕ) → ((d : ℕ) → d < n → IsNoFeed d) → (k : ℕ) → i + 2 ≤ k → k < i + 2 + n → slice_index text k ≡ line_feed → ⊥
      one_line n all k from lt = from_on (λ m. slice_index text m ≡ line_feed → ⊥) (i + 2) k from (all (k - (i + 2)) (omega arith))

      by : (i + 2 ≤ length text) × HasBytesAt text i (codes "//") → FirstBelow IsNoFeed IsFeed (length text - (i + 2)) ⊎ ((d : ℕ) → d < length text - (i + 2) → IsNoFeed d) → (j : ℕ) × IsLineComment text i j
      by begun (inl f) = let below = f.below in (
        i + 2 + f.at,
        record {
          opens = begun.1;
          ahead = omega arith;
          within = omega arith;
          one_line = one_line f.at f.before;
          ends = λ lt. f.holds;
        },
      )
      by begun (inr all) = let room = begun.0 in (
        length text,
        record {
          opens = begun.1;
          ahead = room;
          within = omega arith;
          one_line = λ k from lt. one_line (length text - (i + 2)) all k from (omega arith);
          ends = λ lt. absurd (omega arith);
        },
      )
