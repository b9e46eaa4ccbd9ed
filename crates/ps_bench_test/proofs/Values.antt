-- What a reader of XML makes of a value.
use Rattle.std.proofs.Common.{◌≡◌, ℕ, ◌==◌, ◌<◌, ◌≤◌, List, [], ◌∷◌, ◌++◌, All, Bool, true, false, nat_lt}
use Rattle.std.proofs.Common.{IsUtf8, if◌then◌else◌, codes, chars, encode_utf8, encode_utf8_all, append-nil, ◌⊎◌, inl, inr, ne_eqb, refl, sym, ap, ◌∙◌, arith}
use Rattle.std.specs.Char.{IsScalar}
use Rattle.std.specs.List.{list_all}
use Rattle.std.specs.Str.{all_scalars}
use Rattle.std.proofs.lemmas.Grind.{flat_map-append}
use Rattle.std.proofs.lemmas.List.Elements.{All-head, All-tail}
use Rattle.std.proofs.lemmas.List.Folds.{list_all-append}
use Rattle.std.proofs.lemmas.Str.{chars-nil, encode_ascii, encodes-chars, scalars-chars}
use Rattle.std.proofs.str.Laws as laws
use Rattle.ps_bench_frame.proofs.Characters.{ascii_chars, both_true, each_byte, first_ascii, first_char, shape_of}
use Rattle.ps_bench_frame.specs.Pieces.{is_of_line}
use Rattle.ps_bench_test.proofs.Descriptions.{same_byte}
use Rattle.ps_bench_test.specs.Junit.{xml_byte, xml_escaped}
use Rattle.ps_bench_test.specs.Reading.{is_no_mark, is_text, is_xml_character, value_from}
use Rattle.ps_bench_test.specs.Reading.At.{outside, within}
use lib.Utf8.{scalar, scalar_cases}

-- what is written of a byte, by what it is
abbrev written : (b : ℕ) (and less more quote apostrophe feed control : Bool) → List ℕ
written b and less more quote apostrophe feed control =
    if and then codes "&amp;"
    else if less then codes "&lt;"
    else if more then codes "&gt;"
    else if quote then codes "&quot;"
    else if apostrophe then codes "&apos;"
    else if feed then codes "\n"
    else if control then codes "?"
    else b ∷ []

-- a byte of text that is no line feed is no control byte
no_control : (b : ℕ) → is_text b ≡ true → (b == 10) ≡ false → nat_lt b 32 ≡ false
no_control b text feed = grind arith

-- what is written of a byte is read back, by what it is
byte_read : (b : ℕ) (rest : List ℕ) (and less more quote apostrophe feed control : Bool) → (b == 38) ≡ and → (b == 60) ≡ less →
    (b == 62) ≡ more → (b == 34) ≡ quote → (b == 39) ≡ apostrophe → (b == 10) ≡ feed → (feed ≡ false → control ≡ false) →
    value_from (written b and less more quote apostrophe feed control ++ rest) outside ≡ b ∷ value_from rest outside
byte_read b rest true less more quote apostrophe feed control e0 e1 e2 e3 e4 e5 none =
    ap (λ (n : ℕ). n ∷ value_from rest outside) (sym (same_byte b 38 e0))
byte_read b rest false true more quote apostrophe feed control e0 e1 e2 e3 e4 e5 none =
    ap (λ (n : ℕ). n ∷ value_from rest outside) (sym (same_byte b 60 e1))
byte_read b rest false false true quote apostrophe feed control e0 e1 e2 e3 e4 e5 none =
    ap (λ (n : ℕ). n ∷ value_from rest outside) (sym (same_byte b 62 e2))
byte_read b rest false false false true apostrophe feed control e0 e1 e2 e3 e4 e5 none =
    ap (λ (n : ℕ). n ∷ value_from rest outside) (sym (same_byte b 34 e3))
byte_read b rest false false false false true feed control e0 e1 e2 e3 e4 e5 none =
    ap (λ (n : ℕ). n ∷ value_from rest outside) (sym (same_byte b 39 e4))
byte_read b rest false false false false false true control e0 e1 e2 e3 e4 e5 none =
    ap (λ (n : ℕ). n ∷ value_from rest outside) (sym (same_byte b 10 e5))
byte_read b rest false false false false false false control e0 e1 e2 e3 e4 e5 none =
    ap (λ (x : Bool). value_from ((if x then codes "?" else b ∷ []) ++ rest) outside) (none refl)
    ∙ ap (λ (x : Bool). if x then value_from rest (within []) else b ∷ value_from rest outside) e0

-- what is written of a value is read back
pub escaped_value_read : (value : List ℕ) → list_all is_text value ≡ true → value_from (xml_escaped value) outside ≡ value
escaped_value_read [] text = refl
escaped_value_read (b ∷ bs) text =
    let parts = laws.both (is_text b) (list_all is_text bs) text in
    byte_read b (xml_escaped bs) (b == 38) (b == 60) (b == 62) (b == 34) (b == 39) (b == 10) (nat_lt b 32) refl refl refl refl refl refl
    (no_control b parts.0)
    ∙ ap (λ (t : List ℕ). b ∷ t) (escaped_value_read bs parts.1)

-- what is written of a byte has no mark, by what it is
byte_no_mark : (b : ℕ) (and less more quote apostrophe feed control : Bool) → (b == 60) ≡ less → (b == 62) ≡ more →
    (b == 34) ≡ quote → (b == 39) ≡ apostrophe →
    list_all is_no_mark (written b and less more quote apostrophe feed control) ≡ true
byte_no_mark b true less more quote apostrophe feed control e1 e2 e3 e4 = refl
byte_no_mark b false true more quote apostrophe feed control e1 e2 e3 e4 = refl
byte_no_mark b false false true quote apostrophe feed control e1 e2 e3 e4 = refl
byte_no_mark b false false false true apostrophe feed control e1 e2 e3 e4 = refl
byte_no_mark b false false false false true feed control e1 e2 e3 e4 = refl
byte_no_mark b false false false false false true control e1 e2 e3 e4 = refl
byte_no_mark b false false false false false false true e1 e2 e3 e4 = refl
byte_no_mark b false false false false false false false e1 e2 e3 e4 = rw (e1, e2, e3, e4) refl

-- what is written of a value has no mark
pub escaped_no_mark : (value : List ℕ) → list_all is_no_mark (xml_escaped value) ≡ true
escaped_no_mark [] = refl
escaped_no_mark (b ∷ bs) =
    list_all-append is_no_mark (xml_byte b) (xml_escaped bs)
    ∙ both_true (list_all is_no_mark (xml_byte b)) (list_all is_no_mark (xml_escaped bs))
    (byte_no_mark b (b == 38) (b == 60) (b == 62) (b == 34) (b == 39) (b == 10) (nat_lt b 32) refl refl refl refl)
    (escaped_no_mark bs)

-- what is written of an ASCII byte has characters of XML, by what it is
byte_xml : (b : ℕ) (rest : List ℕ) (and less more quote apostrophe feed control : Bool) → b < 128 → is_xml_character b ≡ true →
    list_all is_xml_character (chars rest) ≡ true →
    list_all is_xml_character (chars (written b and less more quote apostrophe feed control ++ rest)) ≡ true
byte_xml b rest true less more quote apostrophe feed control small is rest_xml =
    ap (list_all is_xml_character) (ascii_chars (codes "&amp;") rest refl) ∙ rest_xml
byte_xml b rest false true more quote apostrophe feed control small is rest_xml =
    ap (list_all is_xml_character) (ascii_chars (codes "&lt;") rest refl) ∙ rest_xml
byte_xml b rest false false true quote apostrophe feed control small is rest_xml =
    ap (list_all is_xml_character) (ascii_chars (codes "&gt;") rest refl) ∙ rest_xml
byte_xml b rest false false false true apostrophe feed control small is rest_xml =
    ap (list_all is_xml_character) (ascii_chars (codes "&quot;") rest refl) ∙ rest_xml
byte_xml b rest false false false false true feed control small is rest_xml =
    ap (list_all is_xml_character) (ascii_chars (codes "&apos;") rest refl) ∙ rest_xml
byte_xml b rest false false false false false true control small is rest_xml =
    ap (list_all is_xml_character) (ascii_chars (codes "\n") rest refl) ∙ rest_xml
byte_xml b rest false false false false false false true small is rest_xml =
    ap (list_all is_xml_character) (ascii_chars (codes "?") rest refl) ∙ rest_xml
byte_xml b rest false false false false false false false small is rest_xml =
    ap (list_all is_xml_character) (first_ascii b rest small)
    ∙ both_true (is_xml_character b) (list_all is_xml_character (chars rest)) is rest_xml

-- a byte is written as it is
abbrev StaysAsItIs : ℕ → Type 0
StaysAsItIs b = xml_byte b ≡ b ∷ []

-- a byte from 128 on is no control byte
high_control : (b : ℕ) → 128 ≤ b → nat_lt b 32 ≡ false
high_control b high = grind arith

-- a byte that is none of those that are written otherwise
written_plain : (b : ℕ) (and less more quote apostrophe feed control : Bool) → and ≡ false → less ≡ false → more ≡ false →
    quote ≡ false → apostrophe ≡ false → feed ≡ false → control ≡ false →
    written b and less more quote apostrophe feed control ≡ b ∷ []
written_plain b and less more quote apostrophe feed control e0 e1 e2 e3 e4 e5 e6 = rw (e0, e1, e2, e3, e4, e5, e6) refl

-- a byte from 128 on is
high_byte : (b : ℕ) → 128 ≤ b → StaysAsItIs b
high_byte b high =
    written_plain b (b == 38) (b == 60) (b == 62) (b == 34) (b == 39) (b == 10) (nat_lt b 32) (ne_eqb b 38 (omega arith))
    (ne_eqb b 60 (omega arith)) (ne_eqb b 62 (omega arith)) (ne_eqb b 34 (omega arith)) (ne_eqb b 39 (omega arith))
    (ne_eqb b 10 (omega arith)) (high_control b high)

-- bytes that are written as they are
high_bytes : (bs : List ℕ) → All StaysAsItIs bs → xml_escaped bs ≡ bs
high_bytes [] stay = refl
high_bytes (b ∷ bs) stay =
    ap (λ (t : List ℕ). t ++ xml_escaped bs) (All-head StaysAsItIs b bs stay)
    ∙ ap (λ (t : List ℕ). b ∷ t) (high_bytes bs (All-tail StaysAsItIs b bs stay))

-- what is written of a character has characters of XML, by whether it is ASCII
char_xml : (c : ℕ) (rest : List ℕ) → (c < 128) ⊎ (128 ≤ c) → IsScalar c → is_xml_character c ≡ true →
    list_all is_xml_character (chars rest) ≡ true →
    list_all is_xml_character (chars (xml_escaped (encode_utf8 c) ++ rest)) ≡ true
char_xml c rest (inl small) scalar is rest_xml =
    ap (λ (bs : List ℕ). list_all is_xml_character (chars (xml_escaped bs ++ rest))) (encode_ascii c small)
    ∙ ap (λ (bs : List ℕ). list_all is_xml_character (chars (bs ++ rest))) (append-nil (xml_byte c))
    ∙ byte_xml c rest (c == 38) (c == 60) (c == 62) (c == 34) (c == 39) (c == 10) (nat_lt c 32) small is rest_xml
char_xml c rest (inr high) scalar is rest_xml =
    ap (λ (bs : List ℕ). list_all is_xml_character (chars (bs ++ rest)))
    (high_bytes (encode_utf8 c) (each_byte StaysAsItIs high_byte c (shape_of c scalar) (high_byte c high)))
    ∙ ap (list_all is_xml_character) (first_char c rest scalar)
    ∙ both_true (is_xml_character c) (list_all is_xml_character (chars rest)) is rest_xml

-- what is written of characters has characters of XML
pub escaped_xml : (cs : List ℕ) → all_scalars cs ≡ true → list_all is_xml_character cs ≡ true →
    list_all is_xml_character (chars (xml_escaped (encode_utf8_all cs))) ≡ true
escaped_xml [] are xml = ap (list_all is_xml_character) chars-nil
escaped_xml (c ∷ cs) are xml =
    let parts = laws.both (scalar c) (all_scalars cs) are in
    let each = laws.both (is_xml_character c) (list_all is_xml_character cs) xml in
    ap (λ (bs : List ℕ). list_all is_xml_character (chars bs)) (flat_map-append xml_byte (encode_utf8 c) (encode_utf8_all cs))
    ∙ char_xml c (xml_escaped (encode_utf8_all cs)) (laws.order c 128) parts.0 each.0 (escaped_xml cs parts.1 each.1)

-- a character that may stand in a line is one of XML
line_xml : (c : ℕ) → (c < 55296) ⊎ ((57344 ≤ c) × (c < 1114112)) → is_of_line c ≡ true → is_xml_character c ≡ true
line_xml c (inl low) line = grind arith
line_xml c (inr high) line = grind (arith, high.0, high.1)

-- so are characters
pub lines_xml : (cs : List ℕ) → all_scalars cs ≡ true → list_all is_of_line cs ≡ true → list_all is_xml_character cs ≡ true
lines_xml [] are line = refl
lines_xml (c ∷ cs) are line =
    let parts = laws.both (scalar c) (all_scalars cs) are in
    let each = laws.both (is_of_line c) (list_all is_of_line cs) line in
    both_true (is_xml_character c) (list_all is_xml_character cs) (line_xml c (scalar_cases c parts.0) each.0) (lines_xml cs parts.1 each.1)

-- what is written of a value has characters of XML, if the value has
pub value_xml : (value : List ℕ) → IsUtf8 value → list_all is_xml_character (chars value) ≡ true →
    list_all is_xml_character (chars (xml_escaped value)) ≡ true
value_xml value utf8 xml =
    ap (λ (bs : List ℕ). list_all is_xml_character (chars (xml_escaped bs))) (sym (encodes-chars value utf8))
    ∙ escaped_xml (chars value) (scalars-chars value utf8) xml
