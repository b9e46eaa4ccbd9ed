-- What was laid out is read again.
use Rattle.std.proofs.Common.{◌≡◌, ℕ, zero, suc, ◌+◌, ◌-◌, ◌<◌, Bool, List, [], ◌∷◌, ◌++◌, take, drop, refl, sym, ap, ◌∙◌, arith, lit<}
use Rattle.std.specs.Prelude.{slice_index}
use Rattle.std.specs.Int.{w32, to_be_bytes}
use Rattle.std.proofs.lemmas.Nat.{from_be_bytes-to_be_bytes_4}
use Rattle.std.proofs.lemmas.List.{take_at, drop_at, drop-drop}
use Rattle.ps_model.specs.declared.sizes.Sizes.{Sizes}
use Rattle.ps_machine.specs.Bytes.{be4}
use Rattle.ps_eqvm.specs.declared.layout.TheConstants.{OFFSET_AT, PROGRESS_AT, LAST_AT, PASSED_AT, WORK_AT, WORK_CELLS, SIGNALS_AT}
use Rattle.ps_eqvm.specs.Plain.{Plain, IsPlain, IsSized, complement, plain_bytes, laid_out, parsed}
use Rattle.ps_eqvm.specs.Turn.{turn_plain, turn_b, begin_plain, begin_b}

-- twice 255 less a byte is the byte
pub twice : (bytes : List ℕ) → ((i : ℕ) → slice_index bytes i < 256) → complement (complement bytes) ≡ bytes
twice [] h = refl
twice (b ∷ bs) h =
    let here : b < 256 = h 0 in
    let e : 255 - (255 - b) ≡ b = omega arith in
    let rest = twice bs (λ i. h (suc i)) in
    ap (λ x. x ∷ complement (complement bs)) e ∙ ap (λ l. b ∷ l) rest

-- a byte of joined lists is a byte of one of them
pub bytes-append : (xs ys : List ℕ) → ((i : ℕ) → slice_index xs i < 256) → ((i : ℕ) → slice_index ys i < 256) → (i : ℕ) → slice_index (xs ++ ys) i < 256
bytes-append [] ys h g i = g i
bytes-append (x ∷ xs) ys h g zero = h 0
bytes-append (x ∷ xs) ys h g (suc i) = bytes-append xs ys (λ k. h (suc k)) g i

-- the bytes of a number
pub four : (n i : ℕ) → slice_index (to_be_bytes w32 n) i < 256
four n zero = omega arith
four n (suc zero) = omega arith
four n (suc (suc zero)) = omega arith
four n (suc (suc (suc zero))) = omega arith
four n (suc (suc (suc (suc i)))) = lit< tt

pub one : (b : ℕ) → b < 256 → (i : ℕ) → slice_index (b ∷ []) i < 256
one b h zero = h
one b h (suc i) = lit< tt

pub all_bytes : (p : Plain) → IsPlain p → (i : ℕ) → slice_index (plain_bytes p) i < 256
all_bytes p is =
    let l4 = p.cells ++ p.blocks in
    let l3 = to_be_bytes w32 p.passed ++ l4 in
    let l2 = to_be_bytes w32 p.last ++ l3 in
    let h4 = bytes-append p.cells p.blocks is.cells is.blocks in
    let h3 = bytes-append (to_be_bytes w32 p.passed) l4 (four p.passed) h4 in
    let h2 = bytes-append (to_be_bytes w32 p.last) l3 (four p.last) h3 in
    let h1 = bytes-append (p.progress ∷ []) l2 (one p.progress is.progress) h2 in
    bytes-append (to_be_bytes w32 p.offset) (p.progress ∷ l2) (four p.offset) h1

-- the plain bytes of what was laid out
pub plain_again : (p : Plain) → IsPlain p → complement (laid_out p) ≡ plain_bytes p
plain_again p is = twice (plain_bytes p) (all_bytes p is)

-- the parts of plain bytes
parts : ℕ → List ℕ → Plain
parts n bytes = record {
  offset = be4 bytes OFFSET_AT;
  progress = slice_index bytes PROGRESS_AT;
  last = be4 bytes LAST_AT;
  passed = be4 bytes PASSED_AT;
  cells = take (WORK_CELLS + n) (drop WORK_AT bytes);
  blocks = drop (SIGNALS_AT + n) bytes;
}

pub again : (n k : ℕ) (p : Plain) → IsPlain p → IsSized n k p → parsed n (laid_out p) ≡ p
unfolding parts
again n k p is sized =
    let bytes = plain_bytes p in
    let e1 : be4 bytes OFFSET_AT ≡ p.offset = from_be_bytes-to_be_bytes_4 p.offset is.offset in
    let e2 : be4 bytes LAST_AT ≡ p.last = from_be_bytes-to_be_bytes_4 p.last is.last in
    let e3 : be4 bytes PASSED_AT ≡ p.passed = from_be_bytes-to_be_bytes_4 p.passed is.passed in
    let e4 : take (WORK_CELLS + n) (drop WORK_AT bytes) ≡ p.cells = take_at p.cells p.blocks (WORK_CELLS + n) sized.cells in
    let sum : WORK_AT + (WORK_CELLS + n) ≡ SIGNALS_AT + n = omega arith in
    let e5 : drop (SIGNALS_AT + n) bytes ≡ p.blocks = ap (λ k. drop k bytes) (sym sum) ∙ sym (drop-drop (WORK_CELLS + n) WORK_AT bytes) ∙ drop_at p.cells p.blocks (WORK_CELLS + n) sized.cells in
    ap (parts n) (plain_again p is)
    ∙ ap (λ x. record { offset = x; progress = p.progress; last = be4 bytes LAST_AT; passed = be4 bytes PASSED_AT; cells = take (WORK_CELLS + n) (drop WORK_AT bytes); blocks = drop (SIGNALS_AT + n) bytes }) e1
    ∙ ap (λ x. record { offset = p.offset; progress = p.progress; last = x; passed = be4 bytes PASSED_AT; cells = take (WORK_CELLS + n) (drop WORK_AT bytes); blocks = drop (SIGNALS_AT + n) bytes }) e2
    ∙ ap (λ x. record { offset = p.offset; progress = p.progress; last = p.last; passed = x; cells = take (WORK_CELLS + n) (drop WORK_AT bytes); blocks = drop (SIGNALS_AT + n) bytes }) e3
    ∙ ap (λ x. record { offset = p.offset; progress = p.progress; last = p.last; passed = p.passed; cells = x; blocks = drop (SIGNALS_AT + n) bytes }) e4
    ∙ ap (λ x. record { offset = p.offset; progress = p.progress; last = p.last; passed = p.passed; cells = p.cells; blocks = x }) e5

pub turn_again : (sizes : Sizes) (code : List ℕ) (p : Plain) → IsPlain p → IsSized sizes.signals sizes.instances p →
    turn_b sizes code (laid_out p) ≡ laid_out (turn_plain sizes.signals sizes.instances code p)
turn_again sizes code p is sized = ap (λ q. laid_out (turn_plain sizes.signals sizes.instances code q)) (again sizes.signals sizes.instances p is sized)

pub begin_again : (sizes : Sizes) (now : ℕ) (ins : List Bool) (p : Plain) → IsPlain p → IsSized sizes.signals sizes.instances p →
    begin_b sizes now ins (laid_out p) ≡ laid_out (begin_plain now ins p)
begin_again sizes now ins p is sized = ap (λ q. laid_out (begin_plain now ins q)) (again sizes.signals sizes.instances p is sized)
