-- The beginning of a text is read by the tokens by which the text is read so far.
use Rattle.std.proofs.Common.{◌≡◌, ℕ, ◌+◌, ◌-◌, ◌<◌, ◌≤◌, true, List, length, take, drop, slice_index, ap, sym, ◌∙◌, subst, inl, inr, arith, length-take-le}
use Rattle.std.proofs.lemmas.Bool.{cases_lt}
use Rattle.std.proofs.lemmas.List.{get_or-take, take-take, drop-take, get_or_past}
use Rattle.std.specs.List.{slice_range}
use Rattle.ps_lexer.specs.declared.token.Token.{Token}
use Rattle.ps_lexer.specs.Gaps.{is_blank, IsBlockComment, IsLineComment, place_after}
use Rattle.ps_lexer.specs.Shapes.{IsShape, Spells}
use Rattle.ps_lexer.specs.Reading.{IsToken, Reads, nothing, blank, block, line, token}
use Rattle.ps_lexer.proofs.Pieces.{block_within}

-- a reading goes on from where it began
reads_on : {text : List ℕ} {i j : ℕ} {ts : List Token} → Reads text i ts j → i ≤ j
reads_on nothing = omega arith
reads_on (blank b r) = let on = reads_on r in omega arith
reads_on (block c r) = let room = c.room in let on = reads_on r in omega arith
reads_on (line c r) = let ahead = c.ahead in let on = reads_on r in omega arith
reads_on (token t e p r) = let ahead = p.longest.ahead in let on = reads_on r in omega arith

-- a blank stands within the text
blank_within : (text : List ℕ) (i : ℕ) → is_blank (slice_index text i) ≡ true → i < length text
blank_within text i b = elim (cases_lt i (length text)) [
  | inl inside ↦ inside
  | inr past ↦ let e = ap is_blank (get_or_past text i 0 past) in absurd (cc)
]

-- a reading that begins within the text ends within it
pub reads_within : {text : List ℕ} {i j : ℕ} {ts : List Token} → Reads text i ts j → i ≤ length text → j ≤ length text
reads_within nothing h = h
reads_within {text} {i} (blank b r) h = reads_within r (let inside = blank_within text i b in omega arith)
reads_within {text} {i} (block {k = m} c r) h = reads_within r (block_within text i m c)
reads_within (line c r) h = reads_within r c.within
reads_within (token t e p r) h = reads_within r p.longest.within

module _ (text : List ℕ) (n : ℕ) (room : n ≤ length text) where
  size : length (take n text) ≡ n
  size = length-take-le n text room

  byte : (i : ℕ) → i < n → slice_index (take n text) i ≡ slice_index text i
  byte i h = get_or-take n text i 0 h

  part : (i j : ℕ) → i ≤ j → j ≤ n → slice_range (take n text) i j ≡ slice_range text i j
  part i j order h = from (n - i) (omega arith)
    where
      from : (m : ℕ) → i + m ≡ n → slice_range (take n text) i j ≡ slice_range text i j
      from m e =
          ap (λ (k : ℕ). take (j - i) (drop i (take k text))) (sym e)
          ∙ ap (λ (l : List ℕ). take (j - i) l) (drop-take i m text)
          ∙ take-take (j - i) m (drop i text) (omega arith)

  block_cut : (i k : ℕ) → IsBlockComment text i k → k ≤ n → IsBlockComment (take n text) i k
  block_cut i k c h = let room = c.room in record {
    opens = part i (i + 2) (omega arith) (omega arith) ∙ c.opens;
    room = c.room;
    closes = part (k - 2) (k - 2 + 2) (omega arith) (omega arith) ∙ c.closes;
    first = λ m a b e. c.first m a b (sym (part m (m + 2) (omega arith) (omega arith)) ∙ e);
  }

  line_cut : (i k : ℕ) → IsLineComment text i k → k ≤ n → IsLineComment (take n text) i k
  line_cut i k c h = let ahead = c.ahead in record {
    opens = part i (i + 2) (omega arith) (omega arith) ∙ c.opens;
    ahead = c.ahead;
    within = let s = size in omega arith;
    one_line = λ m a b e. c.one_line m a b (sym (byte m (omega arith)) ∙ e);
    ends = λ less. let s = size in byte k (omega arith) ∙ c.ends (omega arith);
  }

  token_cut : (t : Token) → IsToken text t → t.upto ≤ n → IsToken (take n text) t
  token_cut t p h = let ahead = p.longest.ahead in let s = size in record {
    longest = record {
      ahead = p.longest.ahead;
      within = omega arith;
      shape = subst IsShape (sym (part t.from t.upto (omega arith) h)) p.longest.shape;
      none_longer = λ k longer within shape. p.longest.none_longer k longer (omega arith) (subst IsShape (part t.from k (omega arith) (omega arith)) shape);
    };
    spells = subst (Spells t.form) (sym (part t.from t.upto (omega arith) h)) p.spells;
    place = p.place ∙ ap place_after (sym (take-take t.from n text (omega arith)));
  }

  -- what reads the text up to a place within its beginning reads the beginning so far
  pub reads_cut : {i j : ℕ} {ts : List Token} → Reads text i ts j → j ≤ n → Reads (take n text) i ts j
  reads_cut nothing h = nothing
  reads_cut {i} (blank b r) h = let on = reads_on r in blank (ap is_blank (byte i (omega arith)) ∙ b) (reads_cut r h)
  reads_cut {i} (block {k = m} c r) h = let on = reads_on r in block (block_cut i m c (omega arith)) (reads_cut r h)
  reads_cut {i} (line {k = m} c r) h = let on = reads_on r in line (line_cut i m c (omega arith)) (reads_cut r h)
  reads_cut (token t e p r) h = let on = reads_on r in token t e (token_cut t p (omega arith)) (reads_cut r h)
