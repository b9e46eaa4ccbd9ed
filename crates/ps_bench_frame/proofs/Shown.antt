-- Names as they stand in a line.
use Rattle.std.proofs.Common.{◌≡◌, ℕ, ◌==◌, ◌+◌, ◌*◌, ◌<◌, ◌≤◌, ◌/◌, ◌%◌, nat_lt, List, [], ◌∷◌, ◌++◌, All, Bool, true, false, not, ◌&&◌}
use Rattle.std.proofs.Common.{IsUtf8, if◌then◌else◌, codes, chars, encode_utf8, encode_utf8_all, flat_map, lit<, refl, sym, ap, ◌∙◌, arith}
use Rattle.std.specs.Char.{IsScalar}
use Rattle.std.specs.List.{list_all}
use Rattle.std.specs.Str.{all_scalars}
use Rattle.std.proofs.Math.Nat.{div-add-mod}
use Rattle.std.proofs.lemmas.List.Elements.{All-head, All-tail}
use Rattle.std.proofs.lemmas.Str.{IsUtf8-append, IsUtf8-encode, IsUtf8-nil, chars-nil, encode_ascii}
use Rattle.std.proofs.str.Laws as laws
use lib.Utf8.{scalar}
use Rattle.ps_text.proofs.Digits.{digit_value-hex_digit, first_small, second_small}
use Rattle.ps_text.specs.Escaping.{hex_digit}
use Rattle.ps_bench_frame.proofs.Characters.{ascii_chars, ascii_utf8, both_true, bytes_of, each_byte, first_char, not_true, shape_of}
use Rattle.ps_bench_frame.specs.Pieces.{coded, is_of_line, shown_char}
use Rattle.ps_bench_frame.specs.Reading.{read_from}
use Rattle.ps_bench_frame.specs.Reading.At.{behind_backslash, outside}
use Rattle.ps_text.specs.Unescaping.{digit_value}

-- the halves of a byte make it
halves : (b : ℕ) → 16 * (b / 16) + b % 16 ≡ b
halves b = grind (arith, div-add-mod b 16)

-- two digits are read
digits_read : (h l : ℕ) (rest : List ℕ) → h < 16 → l < 16 →
    read_from (92 ∷ 120 ∷ hex_digit h ∷ hex_digit l ∷ rest) outside ≡ (16 * h + l) ∷ read_from rest outside
digits_read h l rest high low =
    ap (λ (n : ℕ). (16 * n + digit_value (hex_digit l)) ∷ read_from rest outside) (digit_value-hex_digit h high)
    ∙ ap (λ (n : ℕ). (16 * h + n) ∷ read_from rest outside) (digit_value-hex_digit l low)

-- a byte by its digits is read back
coded_read : (b : ℕ) (rest : List ℕ) → b < 256 → read_from (coded b ++ rest) outside ≡ b ∷ read_from rest outside
coded_read b rest byte =
    digits_read (b / 16) (b % 16) rest (first_small b byte) (second_small b)
    ∙ ap (λ (n : ℕ). n ∷ read_from rest outside) (halves b)

-- so are bytes
all_coded_read : (bs rest : List ℕ) → All (λ b. b < 256) bs →
    read_from (flat_map coded bs ++ rest) outside ≡ bs ++ read_from rest outside
all_coded_read [] rest bytes = refl
all_coded_read (b ∷ bs) rest bytes =
    coded_read b (flat_map coded bs ++ rest) (All-head (λ x. x < 256) b bs bytes)
    ∙ ap (λ (t : List ℕ). b ∷ t) (all_coded_read bs rest (All-tail (λ x. x < 256) b bs bytes))

-- a byte is no backslash
abbrev IsNoBackslash : ℕ → Type 0
IsNoBackslash b = (b == 92) ≡ false

-- a byte that is no backslash is read as it is
passes : (b : ℕ) (rest : List ℕ) (back : Bool) → back ≡ false →
    (if back then read_from rest behind_backslash else b ∷ read_from rest outside) ≡ b ∷ read_from rest outside
passes b rest back none = ap (λ (x : Bool). if x then read_from rest behind_backslash else b ∷ read_from rest outside) none

-- bytes without a backslash are read as they are
passed : (bs rest : List ℕ) → All IsNoBackslash bs → read_from (bs ++ rest) outside ≡ bs ++ read_from rest outside
passed [] rest none = refl
passed (b ∷ bs) rest none =
    passes b (bs ++ rest) (b == 92) (All-head IsNoBackslash b bs none)
    ∙ ap (λ (t : List ℕ). b ∷ t) (passed bs rest (All-tail IsNoBackslash b bs none))

-- no byte from 128 on is a backslash
high_byte : (b : ℕ) → 128 ≤ b → IsNoBackslash b
high_byte b high = grind arith

-- a character is a backslash
is_backslash : (c : ℕ) → (c == 92) ≡ true → c ≡ 92
is_backslash c is = grind arith

-- a character is read back, by whether it is a backslash and may stand in a line
char_read : (c : ℕ) (rest : List ℕ) (back line : Bool) → (c == 92) ≡ back → laws.Shape c →
    read_from ((if back then codes "\\\\" else if line then encode_utf8 c else flat_map coded (encode_utf8 c)) ++ rest) outside
    ≡ encode_utf8 c ++ read_from rest outside
char_read c rest true line is shape =
    ap (λ (bs : List ℕ). bs ++ read_from rest outside) (sym (ap encode_utf8 (is_backslash c is) ∙ encode_ascii 92 (lit< tt)))
char_read c rest false true is shape = passed (encode_utf8 c) rest (each_byte IsNoBackslash high_byte c shape is)
char_read c rest false false is shape = all_coded_read (encode_utf8 c) rest (bytes_of c shape)

-- a name is read back
pub shown_read : (cs : List ℕ) → all_scalars cs ≡ true → read_from (flat_map shown_char cs) outside ≡ encode_utf8_all cs
shown_read [] are = refl
shown_read (c ∷ cs) are =
    let parts = laws.both (scalar c) (all_scalars cs) are in
    char_read c (flat_map shown_char cs) (c == 92) (is_of_line c) refl (shape_of c parts.0)
    ∙ ap (λ (t : List ℕ). encode_utf8 c ++ t) (shown_read cs parts.1)

-- a digit may stand in a line, and is ASCII
digit_of_line : (n : ℕ) → n < 16 → is_of_line (hex_digit n) ≡ true
digit_of_line n small = grind arith

digit_is_ascii : (n : ℕ) → n < 16 → nat_lt (hex_digit n) 128 ≡ true
digit_is_ascii n small = grind arith

-- a byte by its digits is ASCII
coded_ascii : (b : ℕ) → b < 256 → list_all (λ x. nat_lt x 128) (coded b) ≡ true
coded_ascii b byte =
    both_true (nat_lt (hex_digit (b / 16)) 128) (nat_lt (hex_digit (b % 16)) 128 && true) (digit_is_ascii (b / 16) (first_small b byte))
    (both_true (nat_lt (hex_digit (b % 16)) 128) true (digit_is_ascii (b % 16) (second_small b)) refl)

-- the characters of a byte by its digits
coded_chars : (b : ℕ) (rest : List ℕ) → b < 256 → chars (coded b ++ rest) ≡ coded b ++ chars rest
coded_chars b rest byte = ascii_chars (coded b) rest (coded_ascii b byte)

-- what may stand in a line behind a byte by its digits may stand there with it
coded_line : (b : ℕ) (rest : List ℕ) → b < 256 → list_all is_of_line (chars rest) ≡ true →
    list_all is_of_line (chars (coded b ++ rest)) ≡ true
coded_line b rest byte line =
    ap (list_all is_of_line) (coded_chars b rest byte)
    ∙ both_true (is_of_line (hex_digit (b / 16))) (is_of_line (hex_digit (b % 16)) && list_all is_of_line (chars rest))
    (digit_of_line (b / 16) (first_small b byte))
    (both_true (is_of_line (hex_digit (b % 16))) (list_all is_of_line (chars rest)) (digit_of_line (b % 16) (second_small b)) line)

-- so behind bytes by their digits
all_coded_line : (bs rest : List ℕ) → All (λ b. b < 256) bs → list_all is_of_line (chars rest) ≡ true →
    list_all is_of_line (chars (flat_map coded bs ++ rest)) ≡ true
all_coded_line [] rest bytes line = line
all_coded_line (b ∷ bs) rest bytes line =
    coded_line b (flat_map coded bs ++ rest) (All-head (λ x. x < 256) b bs bytes)
    (all_coded_line bs rest (All-tail (λ x. x < 256) b bs bytes) line)

-- so behind a character, by whether it is a backslash and may stand in a line
char_line : (c : ℕ) (rest : List ℕ) (back line : Bool) → is_of_line c ≡ line → IsScalar c →
    list_all is_of_line (chars rest) ≡ true →
    list_all is_of_line (chars ((if back then codes "\\\\" else if line then encode_utf8 c else flat_map coded (encode_utf8 c)) ++ rest)) ≡ true
char_line c rest true line is scalar rest_line = ap (list_all is_of_line) (ascii_chars (codes "\\\\") rest refl) ∙ rest_line
char_line c rest false true is scalar rest_line = ap (list_all is_of_line) (first_char c rest scalar) ∙ both_true (is_of_line c) (list_all is_of_line (chars rest)) is rest_line
char_line c rest false false is scalar rest_line = all_coded_line (encode_utf8 c) rest (bytes_of c (shape_of c scalar)) rest_line

-- a name may stand in a line
pub shown_line : (cs : List ℕ) → all_scalars cs ≡ true → list_all is_of_line (chars (flat_map shown_char cs)) ≡ true
shown_line [] are = ap (list_all is_of_line) chars-nil
shown_line (c ∷ cs) are =
    let parts = laws.both (scalar c) (all_scalars cs) are in
    char_line c (flat_map shown_char cs) (c == 92) (is_of_line c) refl parts.0 (shown_line cs parts.1)

-- bytes by their digits are a text
all_coded_utf8 : (bs : List ℕ) → All (λ b. b < 256) bs → IsUtf8 (flat_map coded bs)
all_coded_utf8 [] bytes = IsUtf8-nil
all_coded_utf8 (b ∷ bs) bytes =
    let byte = All-head (λ x. x < 256) b bs bytes in
    IsUtf8-append (coded b) (flat_map coded bs) (ascii_utf8 (coded b) (coded_ascii b byte))
    (all_coded_utf8 bs (All-tail (λ x. x < 256) b bs bytes))

-- what stands for a character is a text, by whether it is a backslash and may stand in a line
char_utf8 : (c : ℕ) (back line : Bool) → IsScalar c →
    IsUtf8 (if back then codes "\\\\" else if line then encode_utf8 c else flat_map coded (encode_utf8 c))
char_utf8 c true line scalar = ascii_utf8 (codes "\\\\") refl
char_utf8 c false true scalar = IsUtf8-encode c scalar
char_utf8 c false false scalar = all_coded_utf8 (encode_utf8 c) (bytes_of c (shape_of c scalar))

-- what stands for a name is a text
pub shown_utf8 : (cs : List ℕ) → all_scalars cs ≡ true → IsUtf8 (flat_map shown_char cs)
shown_utf8 [] are = IsUtf8-nil
shown_utf8 (c ∷ cs) are =
    let parts = laws.both (scalar c) (all_scalars cs) are in
    IsUtf8-append (shown_char c) (flat_map shown_char cs) (char_utf8 c (c == 92) (is_of_line c) parts.0) (shown_utf8 cs parts.1)

-- a plain character stands as it is, by whether it is a backslash and may stand in a line
char_stays : (c : ℕ) (back line : Bool) → back ≡ false → line ≡ true →
    (if back then codes "\\\\" else if line then encode_utf8 c else flat_map coded (encode_utf8 c)) ≡ encode_utf8 c
char_stays c back line other stands =
    ap (λ (x : Bool). if x then codes "\\\\" else if line then encode_utf8 c else flat_map coded (encode_utf8 c)) other
    ∙ ap (λ (x : Bool). if x then encode_utf8 c else flat_map coded (encode_utf8 c)) stands

-- a plain name stands as it is
pub shown_stays : (cs : List ℕ) → list_all (λ c. is_of_line c && not (c == 92)) cs ≡ true →
    flat_map shown_char cs ≡ encode_utf8_all cs
shown_stays [] plain = refl
shown_stays (c ∷ cs) plain =
    let parts = laws.both (is_of_line c && not (c == 92)) (list_all (λ x. is_of_line x && not (x == 92)) cs) plain in
    let first = laws.both (is_of_line c) (not (c == 92)) parts.0 in
    ap (λ (t : List ℕ). t ++ flat_map shown_char cs) (char_stays c (c == 92) (is_of_line c) (not_true (c == 92) first.1) first.0)
    ∙ ap (λ (t : List ℕ). encode_utf8 c ++ t) (shown_stays cs parts.1)
