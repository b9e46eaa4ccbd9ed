-- Rows stand at places of the code, as the machine reads them.
use Rattle.std.proofs.Common.{◌≡◌, ℕ, zero, suc, ◌+◌, ◌*◌, ◌^◌, ◌<◌, List, [], ◌∷◌, ◌++◌, length, map, refl, sym, ap, ◌∙◌, subst, arith, append_assoc, length-append, zero-add, add_assoc, get_or, Ok, lit<}
use Rattle.std.specs.Prelude.{slice_index}
use Rattle.std.specs.List.{flat_map, range_with_len}
use Rattle.std.specs.Int.{w16, w32, to_be_bytes, from_be_bytes}
use Rattle.std.proofs.lemmas.List.{same_lists, get_or_default}
use Rattle.std.proofs.lemmas.List.FromFn.{length-map-range_with_len, get_or-map-range_with_len}
use Rattle.std.proofs.lemmas.Nat.{from_be_bytes-to_be_bytes_2, from_be_bytes-to_be_bytes_4}
use Rattle.ps_machine.specs.Bytes.{be2, be4}
use Rattle.ps_machine.proofs.Opcodes.{index_there, has_opcode}
use Rattle.ps_eqvm.specs.Rows.{EquationRow, last_row, set_row, all_row, any_row, block_row, size_of, fetched, whole, operands}
use Rattle.ps_eqvm.specs.Code.{encoded, bytes_of}

-- how many bytes the rows have
abbrev pub size_all : List EquationRow → ℕ
size_all [] = 0
size_all (r ∷ rs) = size_of r + size_all rs

pub size_all-append : (a b : List EquationRow) → size_all (a ++ b) ≡ size_all a + size_all b
size_all-append [] b = sym (zero-add (size_all b))
size_all-append (r ∷ a) b = ap (λ k. size_of r + k) (size_all-append a b) ∙ sym (add_assoc (size_of r) (size_all a) (size_all b))

-- the code has these rows from an offset on
abbrev pub HasAt : List ℕ → ℕ → List EquationRow → Type 0
HasAt code at [] = Unit {0}
HasAt code at (r ∷ rs) = (fetched code at ≡ Ok r) × HasAt code (at + size_of r) rs

pub has_front : (code : List ℕ) (at : ℕ) (a b : List EquationRow) → HasAt code at (a ++ b) → HasAt code at a
has_front code at [] b h = tt
has_front code at (r ∷ a) b h = (h.0, has_front code (at + size_of r) a b h.1)

pub has_back : (code : List ℕ) (at : ℕ) (a b : List EquationRow) → HasAt code at (a ++ b) → HasAt code (at + size_all a) b
has_back code at [] b h = let e : at ≡ at + 0 = omega arith in subst (λ n. HasAt code n b) e h
has_back code at (r ∷ a) b h =
    let e : at + size_of r + size_all a ≡ at + (size_of r + size_all a) = omega arith in
    subst (λ n. HasAt code n b) e (has_back code (at + size_of r) a b h.1)

-- each is a number of two bytes
abbrev pub Words : List ℕ → Type 0
Words [] = Unit {0}
Words (x ∷ xs) = (x < 2 ^ 16) × Words xs

-- the parts of a row are numbers of their bytes
abbrev pub IsShort : EquationRow → Type 0
IsShort last_row = Unit {0}
IsShort (set_row t c) = (t < 2 ^ 16) × (c < 2 ^ 16)
IsShort (all_row t c) = (t < 2 ^ 16) × (c < 2 ^ 16)
IsShort (any_row t c) = (t < 2 ^ 16) × (c < 2 ^ 16)
IsShort (block_row i k o limit pins) = (i < 2 ^ 16) × (o < 2 ^ 16) × (limit < 2 ^ 32) × Words pins

abbrev pub AreShort : List EquationRow → Type 0
AreShort [] = Unit {0}
AreShort (r ∷ rs) = IsShort r × AreShort rs

pub short-append : (a b : List EquationRow) → AreShort a → AreShort b → AreShort (a ++ b)
short-append [] b x y = y
short-append (r ∷ a) b x y = (x.0, short-append a b x.1 y)

length-words : (pins : List ℕ) → length (flat_map (to_be_bytes w16) pins) ≡ 2 * length pins
length-words [] = refl
length-words (x ∷ xs) =
    let e = length-words xs in
    let s : suc (suc (length (flat_map (to_be_bytes w16) xs))) ≡ 2 * suc (length xs) = omega arith in
    s

pub length-encoded : (r : EquationRow) → length (encoded r) ≡ size_of r
length-encoded last_row = refl
length-encoded (set_row t c) = refl
length-encoded (all_row t c) = refl
length-encoded (any_row t c) = refl
length-encoded (block_row i k o limit pins) =
    let e = length-words pins in
    let s : suc (suc (suc (suc (suc (suc (suc (suc (suc (suc (suc (length (flat_map (to_be_bytes w16) pins)))))))))))) ≡ 11 + 2 * length pins = omega arith in
    s

record TwoOperands (code : List ℕ) (at t c : ℕ) : Type 0 where
  first : be2 code (at + 1) ≡ t
  second : be2 code (at + 3) ≡ c

two_operands : (pre post : List ℕ) (op t c : ℕ) → t < 2 ^ 16 → c < 2 ^ 16 → TwoOperands (pre ++ ((op ∷ (to_be_bytes w16 t ++ to_be_bytes w16 c)) ++ post)) (length pre) t c
two_operands pre post op t c ht hc =
    let bs = to_be_bytes w16 t ++ to_be_bytes w16 c in
    let code = pre ++ ((op ∷ bs) ++ post) in
    let p = length pre in
    let at : (j a : ℕ) → a ≡ p + j → j < 5 → slice_index code a ≡ slice_index (op ∷ bs) j = λ j a e low. ap (slice_index code) e ∙ index_there pre (op ∷ bs) post j low in
    let i1 = at 1 (p + 1) refl (lit< tt) in
    let i2 = at 2 (p + 1 + 1) (omega arith) (lit< tt) in
    let i3 = at 3 (p + 3) refl (lit< tt) in
    let i4 = at 4 (p + 3 + 1) (omega arith) (lit< tt) in
    record { first = rw (i1, i2) (from_be_bytes-to_be_bytes_2 t ht); second = rw (i3, i4) (from_be_bytes-to_be_bytes_2 c hc) }

-- the bytes of word j
high_byte : (pins : List ℕ) (j : ℕ) → slice_index (flat_map (to_be_bytes w16) pins) (2 * j) ≡ slice_index (to_be_bytes w16 (get_or pins j 0)) 0
high_byte [] j = refl
high_byte (x ∷ xs) zero = refl
high_byte (x ∷ xs) (suc j) =
    let e : 2 * suc j ≡ suc (suc (2 * j)) = omega arith in
    ap (slice_index (flat_map (to_be_bytes w16) (x ∷ xs))) e ∙ high_byte xs j

low_byte : (pins : List ℕ) (j : ℕ) → slice_index (flat_map (to_be_bytes w16) pins) (2 * j + 1) ≡ slice_index (to_be_bytes w16 (get_or pins j 0)) 1
low_byte [] j = refl
low_byte (x ∷ xs) zero = refl
low_byte (x ∷ xs) (suc j) =
    let e : 2 * suc j + 1 ≡ suc (suc (2 * j + 1)) = omega arith in
    ap (slice_index (flat_map (to_be_bytes w16) (x ∷ xs))) e ∙ low_byte xs j

word_short : (pins : List ℕ) (j : ℕ) → Words pins → get_or pins j 0 < 2 ^ 16
word_short [] j h = lit< tt
word_short (x ∷ xs) zero h = h.0
word_short (x ∷ xs) (suc j) h = word_short xs j h.1

found_at : (pre post : List ℕ) (r : EquationRow) → IsShort r → fetched (pre ++ (encoded r ++ post)) (length pre) ≡ Ok r
found_at pre post last_row h =
    let s = has_opcode pre [] post 240 1 refl in
    rw (s.in_code, s.is_op, s.room) refl
found_at pre post (set_row t c) h =
    let s = has_opcode pre (to_be_bytes w16 t ++ to_be_bytes w16 c) post 241 5 refl in
    let o = two_operands pre post 241 t c h.0 h.1 in
    rw (s.in_code, s.is_op, s.room, o.first, o.second) refl
found_at pre post (all_row t c) h =
    let s = has_opcode pre (to_be_bytes w16 t ++ to_be_bytes w16 c) post 242 5 refl in
    let o = two_operands pre post 242 t c h.0 h.1 in
    rw (s.in_code, s.is_op, s.room, o.first, o.second) refl
found_at pre post (any_row t c) h =
    let s = has_opcode pre (to_be_bytes w16 t ++ to_be_bytes w16 c) post 243 5 refl in
    let o = two_operands pre post 243 t c h.0 h.1 in
    rw (s.in_code, s.is_op, s.room, o.first, o.second) refl
found_at pre post (block_row i k o limit pins) h =
    let words = flat_map (to_be_bytes w16) pins in
    let n = length pins in
    let bs = to_be_bytes w16 i ++ (k ∷ (to_be_bytes w16 o ++ (to_be_bytes w32 limit ++ (n ∷ words)))) in
    let code = pre ++ ((244 ∷ bs) ++ post) in
    let p = length pre in
    let size : length (244 ∷ bs) ≡ 11 + 2 * n = length-encoded (block_row i k o limit pins) in
    let s = has_opcode pre bs post 244 (11 + 2 * n) size in
    let at : (j a : ℕ) → a ≡ p + j → j < 11 + 2 * n → slice_index code a ≡ slice_index (244 ∷ bs) j = λ j a e low. ap (slice_index code) e ∙ index_there pre (244 ∷ bs) post j (omega arith) in
    let i1 = at 1 (p + 1) refl (omega arith) in
    let i2 = at 2 (p + 1 + 1) (omega arith) (omega arith) in
    let i3 = at 3 (p + 3) refl (omega arith) in
    let i4 = at 4 (p + 4) refl (omega arith) in
    let i5 = at 5 (p + 4 + 1) (omega arith) (omega arith) in
    let i6 = at 6 (p + 6) refl (omega arith) in
    let i7 = at 7 (p + 6 + 1) (omega arith) (omega arith) in
    let i8 = at 8 (p + 6 + 2) (omega arith) (omega arith) in
    let i9 = at 9 (p + 6 + 3) (omega arith) (omega arith) in
    let i10 = at 10 (p + 10) refl (omega arith) in
    let ni : be2 code (p + 1) ≡ i = rw (i1, i2) (from_be_bytes-to_be_bytes_2 i h.0) in
    let no : be2 code (p + 4) ≡ o = rw (i4, i5) (from_be_bytes-to_be_bytes_2 o h.1) in
    let nl : be4 code (p + 6) ≡ limit = rw (i6, i7, i8, i9) (from_be_bytes-to_be_bytes_4 limit h.2) in
    let word : (j : ℕ) → j < n → be2 code (p + 11 + 2 * j) ≡ get_or pins j 0 =
    λ j low.
    let b1 = at (11 + 2 * j) (p + 11 + 2 * j) (omega arith) (omega arith) in
    let b2 = at (11 + (2 * j + 1)) (p + 11 + 2 * j + 1) (omega arith) (omega arith) in
    let e1 : 11 + 2 * j ≡ suc (suc (suc (suc (suc (suc (suc (suc (suc (suc (suc (2 * j))))))))))) = omega arith in
    let e2 : 11 + (2 * j + 1) ≡ suc (suc (suc (suc (suc (suc (suc (suc (suc (suc (suc (2 * j + 1))))))))))) = omega arith in
    let c1 : slice_index code (p + 11 + 2 * j) ≡ slice_index (to_be_bytes w16 (get_or pins j 0)) 0 = b1 ∙ ap (slice_index (244 ∷ bs)) e1 ∙ high_byte pins j in
    let c2 : slice_index code (p + 11 + 2 * j + 1) ≡ slice_index (to_be_bytes w16 (get_or pins j 0)) 1 = b2 ∙ ap (slice_index (244 ∷ bs)) e2 ∙ low_byte pins j in
    ap (λ x. from_be_bytes w16 (x ∷ slice_index code (p + 11 + 2 * j + 1) ∷ [])) c1
    ∙ ap (λ x. from_be_bytes w16 (slice_index (to_be_bytes w16 (get_or pins j 0)) 0 ∷ x ∷ [])) c2
    ∙ from_be_bytes-to_be_bytes_2 (get_or pins j 0) (word_short pins j h.3) in
    let f = λ (j : ℕ). be2 code (p + 11 + 2 * j) in
    let len : length (map f (range_with_len 0 n)) ≡ n = length-map-range_with_len f 0 n in
    let ops : operands code (p + 11) n ≡ pins =
    same_lists (map f (range_with_len 0 n)) pins len (λ j d low.
    let low' : j < n = omega arith in
    get_or-map-range_with_len f 0 n j j d low' (omega arith) ∙ word j low' ∙ get_or_default pins j 0 d low') in
    rw (s.in_code, s.is_op) (ap (λ x. whole code p (block_row x (slice_index code (p + 3)) (be2 code (p + 4)) (be4 code (p + 6)) (operands code (p + 11) (slice_index code (p + 10))))) ni
    ∙ ap (λ x. whole code p (block_row i x (be2 code (p + 4)) (be4 code (p + 6)) (operands code (p + 11) (slice_index code (p + 10))))) i3
    ∙ ap (λ x. whole code p (block_row i k x (be4 code (p + 6)) (operands code (p + 11) (slice_index code (p + 10))))) no
    ∙ ap (λ x. whole code p (block_row i k o x (operands code (p + 11) (slice_index code (p + 10))))) nl
    ∙ ap (λ x. whole code p (block_row i k o limit (operands code (p + 11) x))) i10
    ∙ ap (λ x. whole code p (block_row i k o limit x)) ops
    ∙ rw s.room refl)

-- code that was written is there
pub has_written : (rs : List EquationRow) (pre : List ℕ) → AreShort rs → HasAt (pre ++ bytes_of rs) (length pre) rs
has_written [] pre h = tt
has_written (r ∷ rs) pre h =
    let here = found_at pre (bytes_of rs) r h.0 in
    let next : length (pre ++ encoded r) ≡ length pre + size_of r = length-append pre (encoded r) ∙ ap (λ k. length pre + k) (length-encoded r) in
    let flat = append_assoc pre (encoded r) (bytes_of rs) in
    let rest = has_written rs (pre ++ encoded r) h.1 in (
      here,
      subst (λ m. HasAt (pre ++ (encoded r ++ bytes_of rs)) m rs) next (subst (λ l. HasAt l (length (pre ++ encoded r)) rs) flat rest),
    )
