-- What stands between tokens, and the places of a text.
use Rattle.std.specs.Prelude.{◌≡◌, ◌==◌, ℕ, ◌+◌, ◌-◌, ◌<◌, ◌≤◌, Bool, ◌||◌, not, List, length, reverse, count_by, codes}
use Rattle.std.specs.Prelude.{slice_index}
use Rattle.std.specs.List.{slice_range, take_while}
use Rattle.ps_base.specs.declared.failing.Place.{Place}

-- the byte LF
abbrev pub line_feed : ℕ
line_feed = 10

-- space, tab, CR or LF
abbrev pub is_blank : ℕ → Bool
is_blank b = b == 32 || (b == 9 || (b == 13 || b == line_feed))

-- these bytes stand at i
abbrev pub HasBytesAt : List ℕ → ℕ → List ℕ → Type 0
HasBytesAt text i bytes = slice_range text i (i + length bytes) ≡ bytes

-- a comment from `(*` at i to the first `*)` after it, which ends at j
pub record IsBlockComment (text : List ℕ) (i j : ℕ) : Type 0 where
  pub opens : HasBytesAt text i (codes "(*")
  pub room : i + 4 ≤ j
  pub closes : HasBytesAt text (j - 2) (codes "*)")
  pub first : (k : ℕ) → i + 2 ≤ k → k + 2 < j → HasBytesAt text k (codes "*)") → ⊥

-- a comment from `//` at i to the first LF after it, at j, or to the end of the text
pub record IsLineComment (text : List ℕ) (i j : ℕ) : Type 0 where
  pub opens : HasBytesAt text i (codes "//")
  pub ahead : i + 2 ≤ j
  pub within : j ≤ length text
  pub one_line : (k : ℕ) → i + 2 ≤ k → k < j → slice_index text k ≡ line_feed → ⊥
  pub ends : j < length text → slice_index text j ≡ line_feed

-- `(*` at i with no `*)` after it
pub record IsOpenComment (text : List ℕ) (i : ℕ) : Type 0 where
  pub opens : HasBytesAt text i (codes "(*")
  pub never : (k : ℕ) → i + 2 ≤ k → HasBytesAt text k (codes "*)") → ⊥

-- whether a byte is LF
abbrev pub is_line_feed : ℕ → Bool
is_line_feed b = b == line_feed

-- the place after these bytes: one more than their LFs, and one more than the bytes after the last LF
abbrev pub place_after : List ℕ → Place
place_after before = record {
  line = 1 + count_by is_line_feed before;
  column = 1 + length (take_while (λ b. not (is_line_feed b)) (reverse before));
}
