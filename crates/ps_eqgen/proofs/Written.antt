-- The rows of a group as the loop over its operands writes them, and the bytes of a call part by part.
use Rattle.std.proofs.Common.{◌≡◌, ℕ, ◌+◌, List, [], ◌∷◌, ◌++◌, length, map, refl, sym, ap, ◌∙◌, arith, append-nil, append_assoc}
use Rattle.std.specs.List.{flat_map, range_with_len}
use Rattle.std.specs.Int.{w16, to_be_bytes}
use Rattle.std.proofs.lemmas.List.FromFn.{map-range_with_len_more}
use Rattle.std.proofs.lemmas.Grind.{flat_map-append}
use Rattle.ps_model.specs.Formula.{Formulas, no_operand, operand}
use Rattle.ps_eqvm.specs.Rows.{EquationRow, set_row, block_row}
use Rattle.ps_eqvm.specs.Code.{bytes_of, encoded, work, operand_at, expression_rows, group_rows, later_rows}
use Rattle.ps_eqvm.specs.declared.opcode.Gate.{Gate}
use Rattle.ps_eqvm.specs.declared.opcode.Gate.TheVariants.{Set, All, Any}
use Rattle.ps_eqvm.specs.declared.opcode.Opcode.TheVariants.{Target}
use Rattle.ps_eqvm.specs.Opcodes.{byte_of_opcode}
use Rattle.ps_eqvm.specs.Gates.{gate_row}
use Rattle.ps_eqgen.specs.Written.{rows_left, block_head}

later_left : (d : ℕ) (join : Gate) (es : Formulas) → rows_left d join join es ≡ later_rows d (gate_row join) es
later_left d join no_operand = refl
later_left d join (operand e es) =
    ap (λ l. expression_rows (d + 1) e ++ (gate_row join (work d) (operand_at (d + 1) e) ∷ l)) (later_left d join es)

pub all_left : (d : ℕ) (join : Gate) (es : Formulas) → rows_left d Set join es ≡ group_rows d (gate_row join) es
all_left d join no_operand = refl
all_left d join (operand e es) =
    ap (λ l. expression_rows (d + 1) e ++ (set_row (work d) (operand_at (d + 1) e) ∷ l)) (later_left d join es)

-- the bytes of a row with a target
pub gate_bytes : (gate : Gate) (t c : ℕ) → byte_of_opcode (Target gate) ∷ (to_be_bytes w16 t ++ to_be_bytes w16 c) ≡ encoded (gate_row gate t c)
gate_bytes Set t c = refl
gate_bytes All t c = refl
gate_bytes Any t c = refl

pub bytes-append : (a b : List EquationRow) → bytes_of (a ++ b) ≡ bytes_of a ++ bytes_of b
bytes-append a b = flat_map-append encoded a b

-- one more operand of a call
pub word_next : (f : ℕ → ℕ) (j : ℕ) →
    flat_map (to_be_bytes w16) (map f (range_with_len 0 (j + 1))) ≡ flat_map (to_be_bytes w16) (map f (range_with_len 0 j)) ++ to_be_bytes w16 (f j)
word_next f j =
    ap (flat_map (to_be_bytes w16)) (map-range_with_len_more f 0 j j (omega arith))
    ∙ flat_map-append (to_be_bytes w16) (map f (range_with_len 0 j)) (f j ∷ [])
    ∙ ap (λ l. flat_map (to_be_bytes w16) (map f (range_with_len 0 j)) ++ l) (append-nil (to_be_bytes w16 (f j)))

-- a BLOCK row is its head and its operands
pub block_whole : (before : List ℕ) (instance kind first limit count : ℕ) (pins : List ℕ) → length pins ≡ count →
    (before ++ block_head instance kind first limit count) ++ flat_map (to_be_bytes w16) pins ≡ before ++ encoded (block_row instance kind first limit pins)
block_whole before instance kind first limit count pins many =
    append_assoc before (block_head instance kind first limit count) (flat_map (to_be_bytes w16) pins)
    ∙ ap (λ n. before ++ (block_head instance kind first limit n ++ flat_map (to_be_bytes w16) pins)) (sym many)

-- a call is its pins and its BLOCK
pub call_whole : (before : List ℕ) (pins : List EquationRow) (row : EquationRow) → (before ++ bytes_of pins) ++ encoded row ≡ before ++ bytes_of (pins ++ row ∷ [])
call_whole before pins row =
    append_assoc before (bytes_of pins) (encoded row)
    ∙ ap (λ l. before ++ (bytes_of pins ++ l)) (sym (append-nil (encoded row)))
    ∙ ap (λ l. before ++ l) (sym (bytes-append pins (row ∷ [])))
