-- Rows stand at places of the code, as the machine reads them.
use Rattle.std.proofs.Common.{◌≡◌, ℕ, ◌+◌, ◌*◌, ◌^◌, ◌<◌, ◌≤◌, List, [], ◌∷◌, ◌++◌, length, refl, sym, ap, ◌∙◌, subst, arith, append_assoc, length-append, zero-add, add_assoc, Ok, lit<}
use Rattle.std.specs.Prelude.{slice_index}
use Rattle.std.specs.Int.{w16, w32, to_be_bytes}
use Rattle.std.proofs.lemmas.Grind.{flat_map-append}
use Rattle.std.proofs.lemmas.Nat.{from_be_bytes-to_be_bytes_2, from_be_bytes-to_be_bytes_4}
use Rattle.ps_machine.specs.Bytes.{be2, be4}
use Rattle.ps_machine.proofs.Opcodes.{index_there, has_opcode}
use Rattle.ps_decision.specs.declared.row.Row.{Row}
use Rattle.ps_decision.specs.declared.row.Row.TheVariants.{Decide, Set, Call, End}
use Rattle.ps_decision.specs.Rows.{size_of, encoded, bytes_of, fetched}
use Rattle.ps_decision.specs.Code.{size_all}

-- each number fits its bytes
abbrev pub IsShort : Row → Type 0
IsShort (Decide c yes_at no_at) = (c < 2 ^ 16) × (yes_at < 2 ^ 32) × (no_at < 2 ^ 32)
IsShort (Set t b next) = (t < 2 ^ 16) × (b < 256) × (next < 2 ^ 32)
IsShort (Call i k o limit) = (i < 2 ^ 16) × (k < 256) × (o < 2 ^ 16) × (limit < 2 ^ 32)
IsShort End = Unit {0}

abbrev pub AreShort : List Row → Type 0
AreShort [] = Unit {0}
AreShort (row ∷ rows) = IsShort row × AreShort rows

pub short-append : (a b : List Row) → AreShort a → AreShort b → AreShort (a ++ b)
short-append [] b x y = y
short-append (row ∷ a) b x y = (x.0, short-append a b x.1 y)

-- the code has this row at a place
pub record Has (code : List ℕ) (at : ℕ) (row : Row) : Type 0 where
  pub found : fetched code at ≡ Ok row
  pub small : at + size_of row < 2 ^ 32
  pub short : IsShort row

pub size_all-append : (a b : List Row) → size_all (a ++ b) ≡ size_all a + size_all b
size_all-append [] b = sym (zero-add (size_all b))
size_all-append (row ∷ a) b = ap (λ k. size_of row + k) (size_all-append a b) ∙ sym (add_assoc (size_of row) (size_all a) (size_all b))

-- the code has these rows from a place on
abbrev pub HasAt : List ℕ → ℕ → List Row → Type 0
HasAt code at [] = Unit {0}
HasAt code at (row ∷ rows) = Has code at row × HasAt code (at + size_of row) rows

pub has_front : (code : List ℕ) (at : ℕ) (a b : List Row) → HasAt code at (a ++ b) → HasAt code at a
has_front code at [] b h = tt
has_front code at (row ∷ a) b h = (h.0, has_front code (at + size_of row) a b h.1)

pub has_back : (code : List ℕ) (at : ℕ) (a b : List Row) → HasAt code at (a ++ b) → HasAt code (at + size_all a) b
has_back code at [] b h = let e : at ≡ at + 0 = omega arith in subst (λ n. HasAt code n b) e h
has_back code at (row ∷ a) b h =
    let e : at + size_of row + size_all a ≡ at + (size_of row + size_all a) = omega arith in
    subst (λ n. HasAt code n b) e (has_back code (at + size_of row) a b h.1)

pub length-encoded : (row : Row) → length (encoded row) ≡ size_of row
length-encoded (Decide c yes_at no_at) = refl
length-encoded (Set t b next) = refl
length-encoded (Call i k o limit) = refl
length-encoded End = refl

pub bytes-append : (a b : List Row) → bytes_of (a ++ b) ≡ bytes_of a ++ bytes_of b
bytes-append a b = flat_map-append encoded a b

pub length-bytes : (rows : List Row) → length (bytes_of rows) ≡ size_all rows
length-bytes [] = refl
length-bytes (row ∷ rows) = omega (arith, length-append (encoded row) (bytes_of rows), length-encoded row, length-bytes rows)

-- no row has more than eleven bytes
pub size_at_most : (row : Row) → size_of row ≤ 11
size_at_most (Decide c yes_at no_at) = omega arith
size_at_most (Set t b next) = omega arith
size_at_most (Call i k o limit) = omega arith
size_at_most End = omega arith

pub sizes_at_most : (rows : List Row) → size_all rows ≤ 11 * length rows
sizes_at_most [] = omega arith
sizes_at_most (row ∷ rows) = omega (arith, size_at_most row, sizes_at_most rows)

found_at : (pre post : List ℕ) (row : Row) → IsShort row → fetched (pre ++ (encoded row ++ post)) (length pre) ≡ Ok row
found_at pre post (Decide c yes_at no_at) h =
    let bs = to_be_bytes w16 c ++ (to_be_bytes w32 yes_at ++ to_be_bytes w32 no_at) in
    let code = pre ++ ((1 ∷ bs) ++ post) in
    let s = has_opcode pre bs post 1 11 refl in
    let at : (j a : ℕ) → a ≡ length pre + j → j < 11 → slice_index code a ≡ slice_index (1 ∷ bs) j = λ j a e low. ap (slice_index code) e ∙ index_there pre (1 ∷ bs) post j low in
    let p = length pre in
    let e1 : p + 1 + 1 ≡ p + 2 = omega arith in
    let e2 : p + 3 + 1 ≡ p + 4 = omega arith in
    let e3 : p + 3 + 2 ≡ p + 5 = omega arith in
    let e4 : p + 3 + 3 ≡ p + 6 = omega arith in
    let e5 : p + 7 + 1 ≡ p + 8 = omega arith in
    let e6 : p + 7 + 2 ≡ p + 9 = omega arith in
    let e7 : p + 7 + 3 ≡ p + 10 = omega arith in
    let i1 = at 1 (p + 1) refl (lit< tt) in
    let i2 = at 2 (p + 1 + 1) e1 (lit< tt) in
    let i3 = at 3 (p + 3) refl (lit< tt) in
    let i4 = at 4 (p + 3 + 1) e2 (lit< tt) in
    let i5 = at 5 (p + 3 + 2) e3 (lit< tt) in
    let i6 = at 6 (p + 3 + 3) e4 (lit< tt) in
    let i7 = at 7 (p + 7) refl (lit< tt) in
    let i8 = at 8 (p + 7 + 1) e5 (lit< tt) in
    let i9 = at 9 (p + 7 + 2) e6 (lit< tt) in
    let i10 = at 10 (p + 7 + 3) e7 (lit< tt) in
    let nc : be2 code (p + 1) ≡ c = rw (i1, i2) (from_be_bytes-to_be_bytes_2 c h.0) in
    let ny : be4 code (p + 3) ≡ yes_at = rw (i3, i4, i5, i6) (from_be_bytes-to_be_bytes_4 yes_at h.1) in
    let nn : be4 code (p + 7) ≡ no_at = rw (i7, i8, i9, i10) (from_be_bytes-to_be_bytes_4 no_at h.2) in
    rw (s.in_code, s.is_op, s.room, nc, ny, nn) refl
found_at pre post (Set t b next) h =
    let bs = to_be_bytes w16 t ++ (b ∷ to_be_bytes w32 next) in
    let code = pre ++ ((2 ∷ bs) ++ post) in
    let s = has_opcode pre bs post 2 8 refl in
    let at : (j a : ℕ) → a ≡ length pre + j → j < 8 → slice_index code a ≡ slice_index (2 ∷ bs) j = λ j a e low. ap (slice_index code) e ∙ index_there pre (2 ∷ bs) post j low in
    let p = length pre in
    let e1 : p + 1 + 1 ≡ p + 2 = omega arith in
    let e2 : p + 4 + 1 ≡ p + 5 = omega arith in
    let e3 : p + 4 + 2 ≡ p + 6 = omega arith in
    let e4 : p + 4 + 3 ≡ p + 7 = omega arith in
    let i1 = at 1 (p + 1) refl (lit< tt) in
    let i2 = at 2 (p + 1 + 1) e1 (lit< tt) in
    let i3 = at 3 (p + 3) refl (lit< tt) in
    let i4 = at 4 (p + 4) refl (lit< tt) in
    let i5 = at 5 (p + 4 + 1) e2 (lit< tt) in
    let i6 = at 6 (p + 4 + 2) e3 (lit< tt) in
    let i7 = at 7 (p + 4 + 3) e4 (lit< tt) in
    let nt : be2 code (p + 1) ≡ t = rw (i1, i2) (from_be_bytes-to_be_bytes_2 t h.0) in
    let nn : be4 code (p + 4) ≡ next = rw (i4, i5, i6, i7) (from_be_bytes-to_be_bytes_4 next h.2) in
    rw (s.in_code, s.is_op, s.room, nt, i3, nn) refl
found_at pre post (Call i k o limit) h =
    let bs = to_be_bytes w16 i ++ (k ∷ (to_be_bytes w16 o ++ to_be_bytes w32 limit)) in
    let code = pre ++ ((3 ∷ bs) ++ post) in
    let s = has_opcode pre bs post 3 10 refl in
    let at : (j a : ℕ) → a ≡ length pre + j → j < 10 → slice_index code a ≡ slice_index (3 ∷ bs) j = λ j a e low. ap (slice_index code) e ∙ index_there pre (3 ∷ bs) post j low in
    let p = length pre in
    let e0 : p + 1 + 1 ≡ p + 2 = omega arith in
    let e1 : p + 4 + 1 ≡ p + 5 = omega arith in
    let e2 : p + 6 + 1 ≡ p + 7 = omega arith in
    let e3 : p + 6 + 2 ≡ p + 8 = omega arith in
    let e4 : p + 6 + 3 ≡ p + 9 = omega arith in
    let i1 = at 1 (p + 1) refl (lit< tt) in
    let i2 = at 2 (p + 1 + 1) e0 (lit< tt) in
    let i3 = at 3 (p + 3) refl (lit< tt) in
    let i4 = at 4 (p + 4) refl (lit< tt) in
    let i5 = at 5 (p + 4 + 1) e1 (lit< tt) in
    let i6 = at 6 (p + 6) refl (lit< tt) in
    let i7 = at 7 (p + 6 + 1) e2 (lit< tt) in
    let i8 = at 8 (p + 6 + 2) e3 (lit< tt) in
    let i9 = at 9 (p + 6 + 3) e4 (lit< tt) in
    let ni : be2 code (p + 1) ≡ i = rw (i1, i2) (from_be_bytes-to_be_bytes_2 i h.0) in
    let no : be2 code (p + 4) ≡ o = rw (i4, i5) (from_be_bytes-to_be_bytes_2 o h.2) in
    let nl : be4 code (p + 6) ≡ limit = rw (i6, i7, i8, i9) (from_be_bytes-to_be_bytes_4 limit h.3) in
    rw (s.in_code, s.is_op, s.room, ni, i3, no, nl) refl
found_at pre post End h =
    let s = has_opcode pre [] post 4 1 refl in
    rw (s.in_code, s.is_op, s.room) refl

-- code that was written is there
pub has_written : (rows : List Row) (pre : List ℕ) → AreShort rows → length (pre ++ bytes_of rows) < 2 ^ 32 → HasAt (pre ++ bytes_of rows) (length pre) rows
has_written [] pre h small = tt
has_written (row ∷ rows) pre h small =
    let here = found_at pre (bytes_of rows) row h.0 in
    let all = length-append pre (encoded row ++ bytes_of rows) in
    let more = length-append (encoded row) (bytes_of rows) in
    let size = length-encoded row in
    let next : length (pre ++ encoded row) ≡ length pre + size_of row = length-append pre (encoded row) ∙ ap (λ k. length pre + k) size in
    let flat = append_assoc pre (encoded row) (bytes_of rows) in
    let small' : length ((pre ++ encoded row) ++ bytes_of rows) < 2 ^ 32 = rw flat small in
    let rest = has_written rows (pre ++ encoded row) h.1 small' in (
      record { found = here; small = omega arith; short = h.0 },
      subst (λ m. HasAt (pre ++ (encoded row ++ bytes_of rows)) m rows) next (subst (λ l. HasAt l (length (pre ++ encoded row)) rows) flat rest),
    )
