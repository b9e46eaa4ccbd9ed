-- Instructions stand at places of the code, as the machine reads them.
use Rattle.std.proofs.Common.{◌≡◌, ℕ, ◌+◌, ◌^◌, ◌<◌, List, [], ◌∷◌, ◌++◌, length, refl, sym, ap, ◌∙◌, subst, arith, append_assoc, length-append, zero-add, add_assoc, Ok, lit<}
use Rattle.std.specs.Prelude.{slice_index}
use Rattle.std.specs.Int.{w16, w32, to_be_bytes, from_be_bytes}
use Rattle.std.proofs.lemmas.Nat.{from_be_bytes-to_be_bytes_2, from_be_bytes-to_be_bytes_4}
use Rattle.ps_machine.specs.Bytes.{be2, be4}
use Rattle.ps_machine.proofs.Opcodes.{index_there, has_opcode}
use Rattle.ps_stackvm.specs.declared.instruction.Instruction.{Instruction}
use Rattle.ps_stackvm.specs.declared.instruction.Instruction.TheVariants.{Load, Store, Const, And, Or, Call, End}
use Rattle.ps_stackvm.specs.Instructions.{size_of, fetched}
use Rattle.ps_stackvm.specs.Code.{encoded, bytes_of}

-- the code has this instruction at pc
pub record Has (code : List ℕ) (pc : ℕ) (i : Instruction) : Type 0 where
  pub found : fetched code pc ≡ Ok i
  pub small : pc + size_of i < 2 ^ 32

-- how many bytes the instructions have
abbrev pub size_all : List Instruction → ℕ
size_all [] = 0
size_all (i ∷ is) = size_of i + size_all is

pub size_all-append : (a b : List Instruction) → size_all (a ++ b) ≡ size_all a + size_all b
size_all-append [] b = sym (zero-add (size_all b))
size_all-append (i ∷ a) b = ap (λ k. size_of i + k) (size_all-append a b) ∙ sym (add_assoc (size_of i) (size_all a) (size_all b))

-- the code has these instructions from pc on
abbrev pub HasAt : List ℕ → ℕ → List Instruction → Type 0
HasAt code pc [] = Unit {0}
HasAt code pc (i ∷ is) = Has code pc i × HasAt code (pc + size_of i) is

pub has_front : (code : List ℕ) (pc : ℕ) (a b : List Instruction) → HasAt code pc (a ++ b) → HasAt code pc a
has_front code pc [] b h = tt
has_front code pc (i ∷ a) b h = (h.0, has_front code (pc + size_of i) a b h.1)

pub has_back : (code : List ℕ) (pc : ℕ) (a b : List Instruction) → HasAt code pc (a ++ b) → HasAt code (pc + size_all a) b
has_back code pc [] b h = let e : pc ≡ pc + 0 = omega arith in subst (λ n. HasAt code n b) e h
has_back code pc (i ∷ a) b h =
    let e : pc + size_of i + size_all a ≡ pc + (size_of i + size_all a) = omega arith in
    subst (λ n. HasAt code n b) e (has_back code (pc + size_of i) a b h.1)

-- the operand is a number of its bytes
abbrev pub IsShort : Instruction → Type 0
IsShort (Load c) = c < 2 ^ 16
IsShort (Store c) = c < 2 ^ 16
IsShort (Const b) = b < 256
IsShort And = Unit {0}
IsShort Or = Unit {0}
IsShort (Call i k o limit) = (i < 2 ^ 16) × (k < 256) × (o < 2 ^ 16) × (limit < 2 ^ 32)
IsShort End = Unit {0}

abbrev pub AreShort : List Instruction → Type 0
AreShort [] = Unit {0}
AreShort (i ∷ is) = IsShort i × AreShort is

pub short-append : (a b : List Instruction) → AreShort a → AreShort b → AreShort (a ++ b)
short-append [] b x y = y
short-append (i ∷ a) b x y = (x.0, short-append a b x.1 y)

pub length-encoded : (i : Instruction) → length (encoded i) ≡ size_of i
length-encoded (Load c) = refl
length-encoded (Store c) = refl
length-encoded (Const b) = refl
length-encoded And = refl
length-encoded Or = refl
length-encoded (Call i k o limit) = refl
length-encoded End = refl

-- the operand of two bytes after the opcode
operand : (pre post : List ℕ) (op c : ℕ) → c < 2 ^ 16 → be2 (pre ++ ((op ∷ to_be_bytes w16 c) ++ post)) (length pre + 1) ≡ c
operand pre post op c h =
    let code = pre ++ ((op ∷ to_be_bytes w16 c) ++ post) in
    let i1 = index_there pre (op ∷ to_be_bytes w16 c) post 1 (lit< tt) in
    let i2 = index_there pre (op ∷ to_be_bytes w16 c) post 2 (lit< tt) in
    let e : length pre + 1 + 1 ≡ length pre + 2 = omega arith in
    ap (λ x. from_be_bytes w16 (x ∷ slice_index code (length pre + 1 + 1) ∷ [])) i1
    ∙ ap (λ x. from_be_bytes w16 (slice_index (to_be_bytes w16 c) 0 ∷ x ∷ [])) (ap (slice_index code) e ∙ i2)
    ∙ from_be_bytes-to_be_bytes_2 c h

found_at : (pre post : List ℕ) (i : Instruction) → IsShort i → fetched (pre ++ (encoded i ++ post)) (length pre) ≡ Ok i
found_at pre post (Load c) h =
    let s = has_opcode pre (to_be_bytes w16 c) post 1 3 refl in
    rw (s.in_code, s.is_op, s.room, operand pre post 1 c h) refl
found_at pre post (Store c) h =
    let s = has_opcode pre (to_be_bytes w16 c) post 2 3 refl in
    rw (s.in_code, s.is_op, s.room, operand pre post 2 c h) refl
found_at pre post (Const b) h =
    let s = has_opcode pre (b ∷ []) post 3 2 refl in
    let o = index_there pre (3 ∷ b ∷ []) post 1 (lit< tt) in
    rw (s.in_code, s.is_op, s.room, o) refl
found_at pre post And h =
    let s = has_opcode pre [] post 4 1 refl in
    rw (s.in_code, s.is_op, s.room) refl
found_at pre post Or h =
    let s = has_opcode pre [] post 5 1 refl in
    rw (s.in_code, s.is_op, s.room) refl
found_at pre post (Call i k o limit) h =
    let bs = to_be_bytes w16 i ++ (k ∷ (to_be_bytes w16 o ++ to_be_bytes w32 limit)) in
    let code = pre ++ ((6 ∷ bs) ++ post) in
    let s = has_opcode pre bs post 6 10 refl in
    let at : (j a : ℕ) → a ≡ length pre + j → j < 10 → slice_index code a ≡ slice_index (6 ∷ bs) j = λ j a e low. ap (slice_index code) e ∙ index_there pre (6 ∷ bs) post j low in
    let p = length pre in
    let e0 : p + 1 + 1 ≡ p + 2 = omega arith in
    let e1 : p + 4 + 1 ≡ p + 5 = omega arith in
    let e2 : p + 6 + 1 ≡ p + 7 = omega arith in
    let e3 : p + 6 + 2 ≡ p + 8 = omega arith in
    let e4 : p + 6 + 3 ≡ p + 9 = omega arith in
    let i1 = at 1 (p + 1) refl (lit< tt) in
    let i2 = at 2 (p + 1 + 1) e0 (lit< tt) in
    let i3 = at 3 (p + 3) refl (lit< tt) in
    let i4 = at 4 (p + 4) refl (lit< tt) in
    let i5 = at 5 (p + 4 + 1) e1 (lit< tt) in
    let i6 = at 6 (p + 6) refl (lit< tt) in
    let i7 = at 7 (p + 6 + 1) e2 (lit< tt) in
    let i8 = at 8 (p + 6 + 2) e3 (lit< tt) in
    let i9 = at 9 (p + 6 + 3) e4 (lit< tt) in
    let ni : be2 code (p + 1) ≡ i = rw (i1, i2) (from_be_bytes-to_be_bytes_2 i h.0) in
    let no : be2 code (p + 4) ≡ o = rw (i4, i5) (from_be_bytes-to_be_bytes_2 o h.2) in
    let nl : be4 code (p + 6) ≡ limit = rw (i6, i7, i8, i9) (from_be_bytes-to_be_bytes_4 limit h.3) in
    rw (s.in_code, s.is_op, s.room, ni, i3, no, nl) refl
found_at pre post End h =
    let s = has_opcode pre [] post 7 1 refl in
    rw (s.in_code, s.is_op, s.room) refl

-- code that was written is there
pub has_written : (is : List Instruction) (pre : List ℕ) → AreShort is → length (pre ++ bytes_of is) < 2 ^ 32 → HasAt (pre ++ bytes_of is) (length pre) is
has_written [] pre h small = tt
has_written (i ∷ is) pre h small =
    let here = found_at pre (bytes_of is) i h.0 in
    let all = length-append pre (encoded i ++ bytes_of is) in
    let more = length-append (encoded i) (bytes_of is) in
    let size = length-encoded i in
    let next : length (pre ++ encoded i) ≡ length pre + size_of i = length-append pre (encoded i) ∙ ap (λ k. length pre + k) size in
    let flat = append_assoc pre (encoded i) (bytes_of is) in
    let small' : length ((pre ++ encoded i) ++ bytes_of is) < 2 ^ 32 = rw flat small in
    let rest = has_written is (pre ++ encoded i) h.1 small' in (
      record { found = here; small = omega arith },
      subst (λ m. HasAt (pre ++ (encoded i ++ bytes_of is)) m is) next (subst (λ l. HasAt l (length (pre ++ encoded i)) is) flat rest),
    )
