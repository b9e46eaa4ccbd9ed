-- The texts that a load runs over: an application with eight emergency stops, and a trace of it.
use Rattle.std.specs.Prelude.{ℕ, ◌*◌, ◌+◌, ◌/◌, ◌%◌, ◌^◌, Bool, not, ◌&&◌, ◌==◌, if◌then◌else◌, List, [], ◌∷◌, ◌++◌}
use Rattle.std.specs.Prelude.{map, flat_map, codes, decimal}
use Rattle.std.specs.List.{join_by, range_with_len}

-- the numbers of the blocks, each of which has an input of its own
abbrev pub blocks : List ℕ
blocks = range_with_len 0 8

-- ---- The application.

-- the call of a block, as `E_0(Activate := TRUE, S_EStopIn := S_0, Reset := Ack);`
abbrev pub call_line : ℕ → List ℕ
call_line j = codes "E_" ++ decimal j ++ codes "(Activate := TRUE, S_EStopIn := S_" ++ decimal j ++ codes ", Reset := Ack);\n"

-- the output is TRUE where that of each block is
abbrev pub output_line : List ℕ
output_line = codes "S_Out := " ++ join_by (λ j. codes "E_" ++ decimal j ++ codes ".S_EStopOut") (codes " AND ") blocks ++ codes ";\n"

-- the text `app`
unfoldable pub app_text : List ℕ
app_text =
    codes "PROGRAM Load\n"
    ++ codes "VAR_INPUT S_0, S_1, S_2, S_3, S_4, S_5, S_6, S_7 : SAFEBOOL; Ack : BOOL; END_VAR\n"
    ++ codes "VAR_OUTPUT S_Out : SAFEBOOL; END_VAR\n"
    ++ codes "VAR E_0, E_1, E_2, E_3, E_4, E_5, E_6, E_7 : SF_EmergencyStop; END_VAR\n"
    ++ flat_map call_line blocks
    ++ output_line
    ++ codes "END_PROGRAM\n"

-- ---- The trace.

-- the header, with the inputs' names
abbrev pub header_line : List ℕ
header_line = codes "time S_0 S_1 S_2 S_3 S_4 S_5 S_6 S_7 Ack\n"

-- the digit of a number at a place, counted from the last one
abbrev pub digit_at : ℕ → ℕ → ℕ
digit_at number place = 48 + number / 10 ^ place % 10

-- a number in eight digits, with zeros in front
abbrev pub eight_digits : ℕ → List ℕ
eight_digits number = map (digit_at number) (7 ∷ 6 ∷ 5 ∷ 4 ∷ 3 ∷ 2 ∷ 1 ∷ 0 ∷ [])

-- TRUE as `1`, and FALSE as `0`
abbrev pub value_digit : Bool → ℕ
value_digit value = if value then 49 else 48

-- in scan k the input of block j is FALSE: in the ninth scan of each ten, and there of one block after another
abbrev pub is_stopped : (k j : ℕ) → Bool
is_stopped k j = (k % 10 == 8) && (k / 10 % 8 == j)

-- in scan k the stops are acknowledged: in the fourth scan of each ten
abbrev pub is_acknowledged : (k : ℕ) → Bool
is_acknowledged k = k % 10 == 3

-- the values of scan k, in the order of the header
abbrev pub values : (k : ℕ) → List Bool
values k = map (λ j. not (is_stopped k j)) blocks ++ is_acknowledged k ∷ []

-- the line of scan k, counted from 0, at 10 k ms
abbrev pub scan_line : (k : ℕ) → List ℕ
scan_line k = eight_digits (10 * k) ++ flat_map (λ value. 32 ∷ value_digit value ∷ []) (values k) ++ 10 ∷ []

-- the text `trace` of a load n: the header, and a line for each of 1000 n scans
unfoldable pub trace_text : (n : ℕ) → List ℕ
trace_text n = header_line ++ flat_map scan_line (range_with_len 0 (1000 * n))
