-- Parts of a text, byte by byte.
use Rattle.std.proofs.Common.{◌≡◌, ℕ, suc, ◌+◌, ◌-◌, ◌<◌, ◌≤◌, List, [], ◌∷◌, ◌++◌, length, take, drop, slice_index, refl, ap, ◌∙◌, ⊎_elim, arith, length-take, length-take-le, length-drop, add-one}
use Rattle.std.proofs.lemmas.Bool.{cases_lt}
use Rattle.std.proofs.lemmas.List.{get_or-take, get_or-drop, get_or_past, drop-drop}
use Rattle.std.proofs.Math.Seq.{drop-cons, take-add}
use Rattle.std.specs.List.{slice_range}
use Rattle.ps_lexer.specs.Gaps.{HasBytesAt}

-- the byte at k of a part of the text
pub slice_index-slice_range : (text : List ℕ) (i j k : ℕ) → i + k < j → slice_index (slice_range text i j) k ≡ slice_index text (i + k)
slice_index-slice_range text i j k h = get_or-take (j - i) (drop i text) k 0 (omega arith) ∙ get_or-drop i text k 0

pub length-slice_range : (text : List ℕ) (i j : ℕ) → i ≤ j → j ≤ length text → length (slice_range text i j) ≡ j - i
length-slice_range text i j h w = length-take-le (j - i) (drop i text) (omega (arith, length-drop i text))

-- the first byte of a part
pub slice_first : (text : List ℕ) (i j : ℕ) → i < j → slice_index (slice_range text i j) 0 ≡ slice_index text i
slice_first text i j h = slice_index-slice_range text i j 0 (omega arith) ∙ ap (slice_index text) (omega arith)

-- a part of the text is its first byte, and the part after it
pub slice_cons : (text : List ℕ) (i j : ℕ) → i < j → j ≤ length text → slice_range text i j ≡ slice_index text i ∷ slice_range text (i + 1) j
slice_cons text i j h w =
    let d : drop i text ≡ slice_index text i ∷ drop (i + 1) text = rw add-one (drop-cons text i 0 (omega arith)) in
    let n : j - i ≡ suc (j - (i + 1)) = omega arith in
    (λ t. take (n t) (d t))

pub slice_none : (text : List ℕ) (i j : ℕ) → j ≡ i → slice_range text i j ≡ []
slice_none text i j e = let n : j - i ≡ 0 = omega arith in ap (λ m. take m (drop i text)) n

pub slice_one : (text : List ℕ) (i j : ℕ) → j ≡ i + 1 → j ≤ length text → slice_range text i j ≡ slice_index text i ∷ []
slice_one text i j e w = slice_cons text i j (omega arith) w ∙ ap (λ l. slice_index text i ∷ l) (slice_none text (i + 1) j e)

pub slice_two : (text : List ℕ) (i j : ℕ) → j ≡ i + 2 → j ≤ length text → slice_range text i j ≡ slice_index text i ∷ slice_index text (i + 1) ∷ []
slice_two text i j e w = slice_cons text i j (omega arith) w ∙ ap (λ l. slice_index text i ∷ l) (slice_one text (i + 1) j (omega arith) w)

-- two parts that follow each other
pub slice_join : (text : List ℕ) (i j k : ℕ) → i ≤ j → j ≤ k → slice_range text i k ≡ slice_range text i j ++ slice_range text j k
slice_join text i j k h w =
    let n : k - i ≡ j - i + (k - j) = omega arith in
    let m : i + (j - i) ≡ j = omega arith in
    ap (λ l. take l (drop i text)) n ∙ take-add (j - i) (k - j) (drop i text)
    ∙ ap (λ l. slice_range text i j ++ take (k - j) l) (drop-drop (j - i) i text ∙ ap (λ l. drop l text) m)

-- a byte that is not 0 lies within the text
pub in_range : (text : List ℕ) (k b : ℕ) → slice_index text k ≡ suc b → k < length text
in_range text k b e = ⊎_elim (λ h. h) (λ past. let z : slice_index text k ≡ 0 = get_or_past text k 0 past in absurd (omega arith)) (cases_lt k (length text))

-- a part of one byte, and of two
pub one_long : (text : List ℕ) (i j b : ℕ) → i < j → j ≤ length text → slice_range text i j ≡ b ∷ [] → (j ≡ i + 1) × (slice_index text i ≡ b)
one_long text i j b h w e =
    let n : j ≡ i + 1 = omega (arith, length-slice_range text i j (omega arith) w, ap length e) in
    let s = slice_one text i j n w in
    (n, cc)

pub two_long : (text : List ℕ) (i j b c : ℕ) → i < j → j ≤ length text → slice_range text i j ≡ b ∷ c ∷ [] → (j ≡ i + 2) × (slice_index text i ≡ b) × (slice_index text (i + 1) ≡ c)
two_long text i j b c h w e =
    let n : j ≡ i + 2 = omega (arith, length-slice_range text i j (omega arith) w, ap length e) in
    let s = slice_two text i j n w in
    (n, cc, cc)

-- two bytes stand at a place
pub pair_at : (text : List ℕ) (i b c : ℕ) → i + 2 ≤ length text → slice_index text i ≡ b → slice_index text (i + 1) ≡ c → HasBytesAt text i (b ∷ c ∷ [])
pair_at text i b c room first second = slice_two text i (i + 2) refl room ∙ (λ t. first t ∷ second t ∷ [])

pub at_pair : (text : List ℕ) (i b c : ℕ) → HasBytesAt text i (b ∷ c ∷ []) → (i + 2 ≤ length text) × (slice_index text i ≡ b) × (slice_index text (i + 1) ≡ c)
at_pair text i b c e =
    let room : i + 2 ≤ length text = omega (arith, length-take (i + 2 - i) (drop i text), length-drop i text, ap length e) in
    let s = two_long text i (i + 2) b c (omega arith) room e in
    (room, s.1, s.2)
