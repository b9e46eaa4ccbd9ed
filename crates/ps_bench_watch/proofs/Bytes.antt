-- The bytes of the fields of a log: none of them ends a field or a line.
use Rattle.std.proofs.Common.{◌≡◌, ◌∙◌, ◌+◌, ◌/◌, ◌%◌, ◌<◌, ◌^◌, ◌&&◌, ◌||◌, ◌==◌, not, ℕ, zero, suc, Bool, true, false, List, [], ◌∷◌, codes, cond, decimal, get_or, length, map, nat_lt, if◌then◌else◌, refl, sym, ap, arith}
use Rattle.std.specs.Char.{is_ascii_digit, to_ascii_lowercase, to_ascii_uppercase}
use Rattle.std.specs.List.{list_all, list_any}
use Rattle.std.proofs.lemmas.Bool.Decides.{nat_tests}
use Rattle.std.proofs.lemmas.Fmt.{digits_decimal}
use Rattle.std.proofs.lemmas.Slice.Eq.{bytes_eq-Decides}
use Rattle.std.specs.Int.{to_be_bytes, w16}
use Rattle.csv.specs.Writing as csv
use Rattle.csv.specs.Writing.{default_writer, needs_byte, needs_quotes, quoted}
use Rattle.hex.specs.Hex.{encode_with, lower_digits}
use Rattle.ps_base.specs.LetterCase.{folded, is_same_name}
use Rattle.ps_bench_cases.proofs.ReadBack.{both_hold, digits_of_traces}
use Rattle.ps_report.specs.Lines.{code_text}
use Rattle.ps_bench_watch.specs.Logged.{is_name_byte}
use Rattle.ps_bench_waves.specs.Shown.{digit}

-- a byte ends no line
abbrev pub is_line_byte : ℕ → Bool
is_line_byte b = not (b == 10) && not (b == 13)

-- nor a field
abbrev pub is_bare_byte : ℕ → Bool
is_bare_byte b = not (b == 44) && (not (b == 34) && is_line_byte b)

abbrev pub is_bare : List ℕ → Bool
is_bare field = list_all is_bare_byte field

-- what holds by one test holds by another
pub all_more : (p q : ℕ → Bool) → ((b : ℕ) → p b ≡ true → q b ≡ true) → (bytes : List ℕ) → list_all p bytes ≡ true → list_all q bytes ≡ true
all_more p q more [] all = refl
all_more p q more (b ∷ bytes) all =
    let both = both_hold (p b) (list_all p bytes) all in
    λ i. more b both.0 i && all_more p q more bytes both.1 i

bare_name : (b : ℕ) → is_name_byte b ≡ true → is_bare_byte b ≡ true
bare_name b is = grind (arith, nat_tests)

bare_digit : (b : ℕ) → is_ascii_digit b ≡ true → is_bare_byte b ≡ true
bare_digit b is = grind (arith, nat_tests)

pub line_of_bare : (b : ℕ) → is_bare_byte b ≡ true → is_line_byte b ≡ true
line_of_bare b is = grind (arith, nat_tests)

pub bare_names : (name : List ℕ) → list_all is_name_byte name ≡ true → is_bare name ≡ true
bare_names name is = all_more is_name_byte is_bare_byte bare_name name is

pub bare_decimal : (n : ℕ) → n < 2 ^ 64 → is_bare (decimal n) ≡ true
bare_decimal n small = all_more is_ascii_digit is_bare_byte bare_digit (decimal n) (digits_decimal digits_of_traces n small)

pub bare_truth : (v : ℕ) → is_bare (digit v) ≡ true
bare_truth v = chosen (v == 0)
  where
    chosen : (is_none : Bool) → is_bare (if is_none then codes "0" else codes "1") ≡ true
    chosen true = refl
    chosen false = refl

-- ---- DiagCodes.

-- an element passes a test that all and 0 pass
pick : (test : ℕ → Bool) (xs : List ℕ) → list_all test xs ≡ true → test 0 ≡ true → (k : ℕ) → test (get_or xs k 0) ≡ true
pick test [] all none k = none
pick test (x ∷ xs) all none zero = (both_hold (test x) (list_all test xs) all).0
pick test (x ∷ xs) all none (suc k) = pick test xs (both_hold (test x) (list_all test xs) all).1 none k

abbrev is_bare_digit : ℕ → Bool
is_bare_digit b = is_bare_byte (to_ascii_uppercase b)

hex_bare : (k : ℕ) → is_bare_digit (get_or lower_digits k 0) ≡ true
hex_bare k = pick is_bare_digit lower_digits refl refl k

bare_encoded : (bytes : List ℕ) → is_bare (map to_ascii_uppercase (encode_with lower_digits bytes)) ≡ true
unfolding encode_with
bare_encoded [] = refl
bare_encoded (b ∷ bytes) = λ i. hex_bare (b / 16) i && (hex_bare (b % 16) i && bare_encoded bytes i)

pub bare_code : (n : ℕ) → is_bare (code_text n) ≡ true
bare_code n = bare_encoded (to_be_bytes w16 n)

pub code_length : (n : ℕ) → length (code_text n) ≡ 4
unfolding encode_with
code_length n = refl

-- ---- Fields that the writer of CSV writes as they are.

plain_byte : (b : ℕ) → is_bare_byte b ≡ true → needs_byte default_writer b ≡ false
plain_byte b is = grind (arith, nat_tests)

plain_bytes : (field : List ℕ) → is_bare field ≡ true → needs_quotes default_writer field ≡ false
plain_bytes [] is = refl
plain_bytes (b ∷ field) is =
    let both = both_hold (is_bare_byte b) (is_bare field) is in
    λ i. plain_byte b both.0 i || plain_bytes field both.1 i

pub written_plain : (field : List ℕ) → is_bare field ≡ true → csv.field_text default_writer field ≡ field
written_plain field is = ap (λ (needs : Bool). if needs then quoted default_writer field else field) (plain_bytes field is)

-- ---- Names that differ by a byte.

pub differs : (t : Bool) → (t ≡ true → ⊥) → t ≡ false
differs true never = absurd (never refl)
differs false never = refl

-- a test that does not see letter case
abbrev IsBlind : (ℕ → Bool) → Type 0
IsBlind test = (b : ℕ) → test (to_ascii_lowercase b) ≡ test b

seen_folded : (test : ℕ → Bool) → IsBlind test → (bytes : List ℕ) → list_any test (folded bytes) ≡ list_any test bytes
seen_folded test blind [] = refl
seen_folded test blind (b ∷ bytes) = λ i. blind b i || seen_folded test blind bytes i

apart : (test : ℕ → Bool) → IsBlind test → (t : Bool) (a b : List ℕ) → list_any test a ≡ t → list_any test b ≡ not t → is_same_name a b ≡ false
apart test blind t a b first second =
    differs (is_same_name a b) (λ is.
    let same : folded a ≡ folded b = (bytes_eq-Decides (folded a) (folded b)).0 is in
    never t (sym first ∙ sym (seen_folded test blind a) ∙ ap (list_any test) same ∙ seen_folded test blind b ∙ second))
  where
    never : (t : Bool) → t ≡ not t → ⊥
    never true is = cc
    never false is = cc

abbrev pub is_dot : ℕ → Bool
is_dot b = b == 46

abbrev pub is_at : ℕ → Bool
is_at b = b == 64

blind_dot : IsBlind is_dot
blind_dot b = lowered b (nat_lt b 65) (nat_lt b 91) refl refl
  where
    lowered : (b : ℕ) (s t : Bool) → nat_lt b 65 ≡ s → nat_lt b 91 ≡ t → (cond s b (cond t (b + 32) b) == 46) ≡ (b == 46)
    lowered b true t is_low is_capital = refl
    lowered b false true is_low is_capital =
        let over : (b + 32 == 46) ≡ false = grind (arith, nat_tests) in
        let here : (b == 46) ≡ false = grind (arith, nat_tests) in
        over ∙ sym here
    lowered b false false is_low is_capital = refl

blind_at : IsBlind is_at
blind_at b = lowered b (nat_lt b 65) (nat_lt b 91) refl refl
  where
    lowered : (b : ℕ) (s t : Bool) → nat_lt b 65 ≡ s → nat_lt b 91 ≡ t → (cond s b (cond t (b + 32) b) == 64) ≡ (b == 64)
    lowered b true t is_low is_capital = refl
    lowered b false true is_low is_capital =
        let over : (b + 32 == 64) ≡ false = grind (arith, nat_tests) in
        let here : (b == 64) ≡ false = grind (arith, nat_tests) in
        over ∙ sym here
    lowered b false false is_low is_capital = refl

pub dot_apart : (t : Bool) (a b : List ℕ) → list_any is_dot a ≡ t → list_any is_dot b ≡ not t → is_same_name a b ≡ false
dot_apart t a b first second = apart is_dot blind_dot t a b first second

pub at_apart : (t : Bool) (a b : List ℕ) → list_any is_at a ≡ t → list_any is_at b ≡ not t → is_same_name a b ≡ false
at_apart t a b first second = apart is_at blind_at t a b first second

no_at_byte : (b : ℕ) → is_name_byte b ≡ true → is_at b ≡ false
no_at_byte b is = grind (arith, nat_tests)

no_mark_byte : (b : ℕ) → is_name_byte b ≡ true → (b == 34) ≡ false
no_mark_byte b is = grind (arith, nat_tests)

none_of : (test : ℕ → Bool) → ((b : ℕ) → is_name_byte b ≡ true → test b ≡ false) → (name : List ℕ) → list_all is_name_byte name ≡ true → list_any test name ≡ false
none_of test off [] is = refl
none_of test off (b ∷ name) is =
    let both = both_hold (is_name_byte b) (list_all is_name_byte name) is in
    λ i. off b both.0 i || none_of test off name both.1 i

pub no_at : (name : List ℕ) → list_all is_name_byte name ≡ true → list_any is_at name ≡ false
no_at name is = none_of is_at no_at_byte name is

pub no_mark : (name : List ℕ) → list_all is_name_byte name ≡ true → list_any (λ b. b == 34) name ≡ false
no_mark name is = none_of (λ b. b == 34) no_mark_byte name is

-- a name is the same as itself
pub same_self : (name : List ℕ) → is_same_name name name ≡ true
same_self name = (bytes_eq-Decides (folded name) (folded name)).1 refl
