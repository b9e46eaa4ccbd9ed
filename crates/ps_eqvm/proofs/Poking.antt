-- One byte of the cells is new.
use Rattle.std.proofs.Common.{◌≡◌, ℕ, suc, ◌+◌, ◌-◌, ◌<◌, ◌≤◌, List, [], ◌∷◌, ◌++◌, length, take, replicate, refl, sym, ap, ◌∙◌, arith, length-append}
use Rattle.std.specs.Prelude.{slice_index, slice_set}
use Rattle.std.specs.Int.{w16, w32, to_be_bytes, from_be_bytes}
use Rattle.std.proofs.lemmas.List.{set-append_left, set-append_right, map-set, length-map, get_or-drop, get_or_append_left, get_or-append-add, length-take-le, take_more, replicate-append-replicate}
use Rattle.ps_machine.specs.Bytes.{be2, replaced}
use Rattle.ps_machine.proofs.Places.{replaced_more}
use Rattle.ps_eqvm.specs.declared.layout.TheConstants.{PASSED_AT, WORK_AT, WORK_CELLS, SIGNALS_AT}
use Rattle.ps_eqvm.specs.Plain.{Plain, complement, plain_bytes, laid_out, blank}
use Rattle.ps_eqvm.proofs.Complements.{complement_replicate}

-- how many bytes are laid out
pub length-plain : (p : Plain) → length (plain_bytes p) ≡ WORK_AT + (length p.cells + length p.blocks)
length-plain p = let both = length-append p.cells p.blocks in omega (arith, both)

pub length-laid : (p : Plain) → length (laid_out p) ≡ WORK_AT + (length p.cells + length p.blocks)
length-laid p = length-map (plain_bytes p) (λ byte. 255 - byte) ∙ length-plain p

-- where one plain byte is new, one stored byte is
pub stored_set : (p p' : Plain) (at stored : ℕ) → stored < 256 → plain_bytes p' ≡ slice_set (plain_bytes p) at (255 - stored) → laid_out p' ≡ slice_set (laid_out p) at stored
stored_set p p' at stored small h =
    let back : 255 - (255 - stored) ≡ stored = omega arith in
    ap complement h ∙ map-set (λ byte. 255 - byte) (plain_bytes p) at (255 - stored) ∙ ap (slice_set (laid_out p) at) back

-- a byte of a list after another
behind : (xs ys : List ℕ) (i v : ℕ) → xs ++ slice_set ys i v ≡ slice_set (xs ++ ys) (length xs + i) v
behind xs ys i v =
    let e : length xs + i - length xs ≡ i = omega arith in
    sym (set-append_right xs ys (length xs) (length xs + i) v refl (omega arith) ∙ ap (λ k. xs ++ slice_set ys k v) e)

numbers : Plain → List ℕ
numbers p = to_be_bytes w32 p.offset ++ (p.progress ∷ (to_be_bytes w32 p.last ++ to_be_bytes w32 p.passed))

-- after the numbers
pub set_behind : (p : Plain) (l l' : List ℕ) (at v : ℕ) → l' ≡ slice_set l at v →
    to_be_bytes w32 p.offset ++ (p.progress ∷ (to_be_bytes w32 p.last ++ (to_be_bytes w32 p.passed ++ l')))
    ≡ slice_set (to_be_bytes w32 p.offset ++ (p.progress ∷ (to_be_bytes w32 p.last ++ (to_be_bytes w32 p.passed ++ l)))) (WORK_AT + at) v
unfolding numbers
set_behind p l l' at v h = ap (λ x. numbers p ++ x) h ∙ behind (numbers p) l at v

pub cell_set : (cells blocks : List ℕ) (at v : ℕ) → at < length cells → slice_set cells at v ++ blocks ≡ slice_set (cells ++ blocks) at v
cell_set cells blocks at v low = sym (set-append_left cells blocks at v low)

pub block_set : (cells blocks : List ℕ) (at v : ℕ) → length cells ≤ at → cells ++ slice_set blocks (at - length cells) v ≡ slice_set (cells ++ blocks) at v
block_set cells blocks at v high = sym (set-append_right cells blocks (length cells) at v refl high)

-- reads after the numbers
pub signal_at : (p : Plain) (s : ℕ) → WORK_CELLS + s < length p.cells → slice_index (plain_bytes p) (SIGNALS_AT + s) ≡ slice_index p.cells (WORK_CELLS + s)
signal_at p s low =
    let e : SIGNALS_AT + s ≡ WORK_AT + (WORK_CELLS + s) = omega arith in
    ap (slice_index (plain_bytes p)) e ∙ sym (get_or-drop WORK_AT (plain_bytes p) (WORK_CELLS + s) 0) ∙ get_or_append_left p.cells p.blocks 0 (WORK_CELLS + s) low

block_byte : (p : Plain) (j : ℕ) → slice_index (plain_bytes p) (WORK_AT + (length p.cells + j)) ≡ slice_index p.blocks j
block_byte p j = sym (get_or-drop WORK_AT (plain_bytes p) (length p.cells + j) 0) ∙ get_or-append-add p.cells p.blocks j 0

pub code_at : (p : Plain) (signals j : ℕ) → length p.cells ≡ WORK_CELLS + signals → be2 (plain_bytes p) (SIGNALS_AT + signals + j) ≡ be2 p.blocks j
code_at p signals j size =
    let e0 : SIGNALS_AT + signals + j ≡ WORK_AT + (length p.cells + j) = omega (arith, size) in
    let e1 : SIGNALS_AT + signals + j + 1 ≡ WORK_AT + (length p.cells + (j + 1)) = omega (arith, size) in
    let b0 = ap (slice_index (plain_bytes p)) e0 ∙ block_byte p j in
    let b1 = ap (slice_index (plain_bytes p)) e1 ∙ block_byte p (j + 1) in
    λ x. from_be_bytes w16 (b0 x ∷ b1 x ∷ [])

-- one byte of the time passed
pub passed_set : (p : Plain) (n i v : ℕ) → i < 4 → to_be_bytes w32 n ≡ slice_set (to_be_bytes w32 p.passed) i v →
    plain_bytes (record { offset = p.offset; progress = p.progress; last = p.last; passed = n; cells = p.cells; blocks = p.blocks }) ≡ slice_set (plain_bytes p) (PASSED_AT + i) v
passed_set p n i v low h =
    let before : List ℕ = to_be_bytes w32 p.offset ++ (p.progress ∷ to_be_bytes w32 p.last) in
    let rest : List ℕ = p.cells ++ p.blocks in
    let four : List ℕ = to_be_bytes w32 p.passed in
    let within : i < length four = omega arith in
    ap (λ l. before ++ (l ++ rest)) h
    ∙ ap (λ l. before ++ l) (sym (set-append_left four rest i v within))
    ∙ behind before (four ++ rest) i v

-- one more byte of those that are written
pub write_more : (now c : List ℕ) (a i : ℕ) (bytes : List ℕ) → a + length bytes ≤ length c → i < length bytes → now ≡ replaced c a (take i bytes) →
    slice_set now (a + i) (slice_index bytes i) ≡ replaced c a (take (i + 1) bytes)
write_more now c a i bytes room within inv =
    let part = length-take-le i bytes (omega arith) in
    let at : a + i ≡ a + length (take i bytes) = omega (arith, part) in
    ap (λ l. slice_set l (a + i) (slice_index bytes i)) inv
    ∙ ap (λ k. slice_set (replaced c a (take i bytes)) k (slice_index bytes i)) at
    ∙ replaced_more c (take i bytes) a (slice_index bytes i) (omega (arith, part))
    ∙ ap (replaced c a) (sym (take_more bytes i 0 within))

-- blank cells
pub blank_laid : (c b : ℕ) → laid_out (blank c b) ≡ replicate (WORK_AT + (c + b)) 255
blank_laid c b =
    let zeros : List ℕ = replicate c 0 ++ replicate b 0 in
    let e : suc (suc (suc (suc (suc (suc (suc (suc (suc (suc (suc (suc (suc (c + b))))))))))))) ≡ WORK_AT + (c + b) = omega arith in
    let all : complement zeros ≡ replicate (c + b) 255 = ap complement (replicate-append-replicate c b 0) ∙ complement_replicate (c + b) 0 in
    ap (λ (l : List ℕ). 255 ∷ 255 ∷ 255 ∷ 255 ∷ 255 ∷ 255 ∷ 255 ∷ 255 ∷ 255 ∷ 255 ∷ 255 ∷ 255 ∷ 255 ∷ l) all ∙ ap (λ (n : ℕ). replicate n 255) e
