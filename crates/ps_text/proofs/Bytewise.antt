-- What is written of a value, byte by byte.
use Rattle.std.proofs.Common.{◌≡◌, ℕ, ◌==◌, ◌+◌, ◌*◌, ◌<◌, ◌/◌, ◌%◌, List, [], ◌∷◌, ◌++◌, All, Bool, true, false}
use Rattle.std.proofs.Common.{if◌then◌else◌, refl, ap, ◌∙◌, arith}
use Rattle.std.specs.List.{list_all}
use Rattle.std.proofs.lemmas.List.Elements.{All-head, All-tail}
use Rattle.std.proofs.lemmas.List.Folds.{list_all-append}
use Rattle.ps_text.proofs.Digits.{both_halves, digit_value-hex_digit, first_small, hex_digit-no_end, hex_digit-quiet}
use Rattle.ps_text.proofs.Digits.{second_small}
use Rattle.ps_text.specs.Escaping.{escaped, escaped_byte, hex_digit, is_plain, is_quiet, reference}
use Rattle.ps_text.specs.Unescaping.{read_from, unescaped}
use Rattle.ps_text.specs.Unescaping.At.{in_number, outside}

-- a byte by its number is quiet
reference-quiet : (b : ℕ) → b < 256 → list_all is_quiet (reference b) ≡ true
reference-quiet b byte =
    rw (hex_digit-quiet (b / 16) (first_small b byte)) (rw (hex_digit-quiet (b % 16) (second_small b)) refl)

-- a plain byte is quiet
plain-quiet : (b : ℕ) → is_plain b ≡ true → list_all is_quiet (b ∷ []) ≡ true
plain-quiet b plain = rw plain refl

-- what is written of a byte is quiet, by whether it is plain
byte_quiet : (b : ℕ) (plain : Bool) → is_plain b ≡ plain → b < 256 →
    list_all is_quiet (if plain then b ∷ [] else reference b) ≡ true
byte_quiet b true is byte = plain-quiet b is
byte_quiet b false is byte = reference-quiet b byte

-- what is written of a value is quiet
pub value_quiet : (value : List ℕ) → All (λ b. b < 256) value → list_all is_quiet (escaped value) ≡ true
value_quiet [] bytes = refl
value_quiet (b ∷ bs) bytes =
    let first : list_all is_quiet (escaped_byte b) ≡ true = byte_quiet b (is_plain b) refl (All-head (λ x. x < 256) b bs bytes) in
    rw (list_all-append is_quiet (escaped_byte b) (escaped bs))
    (rw first (value_quiet bs (All-tail (λ x. x < 256) b bs bytes)))

-- a digit goes into the number
digit_read : (n h : ℕ) (rest : List ℕ) → h < 16 →
    read_from (hex_digit h ∷ rest) (in_number n) ≡ read_from rest (in_number (16 * n + h))
digit_read n h rest small = rw (hex_digit-no_end h small) (rw (digit_value-hex_digit h small) refl)

-- a byte by its number is read back
reference_read : (b : ℕ) (rest : List ℕ) → b < 256 →
    read_from (reference b ++ rest) outside ≡ b ∷ read_from rest outside
reference_read b rest byte =
    digit_read 0 (b / 16) (hex_digit (b % 16) ∷ 59 ∷ rest) (first_small b byte)
    ∙ digit_read (16 * 0 + b / 16) (b % 16) (59 ∷ rest) (second_small b)
    ∙ ap (λ n. n ∷ read_from rest outside) (both_halves b)

-- a plain byte is no `&`
plain_no_and : (b : ℕ) → is_plain b ≡ true → (b == 38) ≡ false
plain_no_and b plain = grind arith

-- what is written of a byte is read back, by whether it is plain
byte_read : (b : ℕ) (plain : Bool) (rest : List ℕ) → is_plain b ≡ plain → b < 256 →
    read_from ((if plain then b ∷ [] else reference b) ++ rest) outside ≡ b ∷ read_from rest outside
byte_read b true rest is byte = rw (plain_no_and b is) refl
byte_read b false rest is byte = reference_read b rest byte

-- what is written of a value is read back
pub value_read : (value : List ℕ) → All (λ b. b < 256) value → unescaped (escaped value) ≡ value
value_read [] bytes = refl
value_read (b ∷ bs) bytes =
    byte_read b (is_plain b) (escaped bs) refl (All-head (λ x. x < 256) b bs bytes)
    ∙ ap (λ (t : List ℕ). b ∷ t) (value_read bs (All-tail (λ x. x < 256) b bs bytes))
