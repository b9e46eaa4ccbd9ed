-- Texts and their characters, one after the other.
use Rattle.std.proofs.Common.{◌≡◌, ℕ, ◌<◌, ◌≤◌, List, [], ◌∷◌, ◌++◌, All, Bool, true, false, not, ◌&&◌, nat_lt}
use Rattle.std.proofs.Common.{IsUtf8, chars, encode_utf8, refl, sym, ap, subst, ◌∙◌, arith, append-nil}
use Rattle.std.specs.Char.{IsScalar}
use Rattle.std.specs.List.{list_all}
use Rattle.std.proofs.lemmas.List.Elements.{All-cons, All-nil}
use Rattle.std.proofs.lemmas.Str.{IsUtf8-append, IsUtf8-encode, IsUtf8-nil, chars-append, chars-encodes, encode_ascii}
use Rattle.std.proofs.str.Laws as laws
use lib.Utf8.{low_scalar, scalar, scalar_cases}

-- two tests that are passed
pub both_true : (x y : Bool) → x ≡ true → y ≡ true → (x && y) ≡ true
both_true x y first second = ap (λ (t : Bool). t && y) first ∙ second

-- a denial that is TRUE
pub not_true : (x : Bool) → not x ≡ true → x ≡ false
not_true true denied = sym denied
not_true false denied = refl

-- an ASCII byte is a character
pub ascii_scalar : (c : ℕ) → c < 128 → IsScalar c
ascii_scalar c small = low_scalar c (omega arith)

-- how the bytes of a character are made up
pub shape_of : (c : ℕ) → IsScalar c → laws.Shape c
shape_of c is = laws.shape c (scalar_cases c is)

-- the first character of a text
pub first_char : (c : ℕ) (rest : List ℕ) → IsScalar c → chars (encode_utf8 c ++ rest) ≡ c ∷ chars rest
first_char c rest is =
    let alone : chars (encode_utf8 c) ≡ c ∷ [] = ap chars (sym (append-nil (encode_utf8 c))) ∙ chars-encodes (c ∷ []) (both_true (scalar c) true is refl) in
    chars-append (encode_utf8 c) rest (IsUtf8-encode c is) ∙ ap (λ (cs : List ℕ). cs ++ chars rest) alone

-- the first character of a text that begins with an ASCII byte
pub first_ascii : (b : ℕ) (rest : List ℕ) → b < 128 → chars (b ∷ rest) ≡ b ∷ chars rest
first_ascii b rest small =
    ap (λ (bs : List ℕ). chars (bs ++ rest)) (sym (encode_ascii b small)) ∙ first_char b rest (ascii_scalar b small)

-- the characters of ASCII bytes before a text
pub ascii_chars : (bs rest : List ℕ) → list_all (λ b. nat_lt b 128) bs ≡ true → chars (bs ++ rest) ≡ bs ++ chars rest
ascii_chars [] rest small = refl
ascii_chars (b ∷ bs) rest small =
    let parts = laws.both (nat_lt b 128) (list_all (λ x. nat_lt x 128) bs) small in
    let first : b < 128 = grind (arith, parts.0) in
    first_ascii b (bs ++ rest) first ∙ ap (λ (cs : List ℕ). b ∷ cs) (ascii_chars bs rest parts.1)

-- ASCII bytes are a text
pub ascii_utf8 : (bs : List ℕ) → list_all (λ b. nat_lt b 128) bs ≡ true → IsUtf8 bs
ascii_utf8 [] small = IsUtf8-nil
ascii_utf8 (b ∷ bs) small =
    let parts = laws.both (nat_lt b 128) (list_all (λ x. nat_lt x 128) bs) small in
    let first : b < 128 = grind (arith, parts.0) in
    IsUtf8-append (b ∷ []) bs (subst IsUtf8 (encode_ascii b first) (IsUtf8-encode b (ascii_scalar b first))) (ascii_utf8 bs parts.1)

-- the bytes of a character are bytes
pub bytes_of : (c : ℕ) → laws.Shape c → All (λ b. b < 256) (encode_utf8 c)
bytes_of c (laws.of1 h e) = subst (All (λ b. b < 256)) (sym e) (All-cons (λ b. b < 256) c [] (omega arith) (All-nil (λ b. b < 256)))
bytes_of c (laws.of2 a b l h f s e) =
    subst (All (λ x. x < 256)) (sym e)
    (All-cons (λ x. x < 256) a (b ∷ []) (omega arith)
    (All-cons (λ x. x < 256) b [] (omega (arith, f.1)) (All-nil (λ x. x < 256))))
bytes_of c (laws.of3 a b d l h f g s e) =
    subst (All (λ x. x < 256)) (sym e)
    (All-cons (λ x. x < 256) a (b ∷ d ∷ []) (omega arith)
    (All-cons (λ x. x < 256) b (d ∷ []) (omega (arith, f.1))
    (All-cons (λ x. x < 256) d [] (omega (arith, g.1)) (All-nil (λ x. x < 256)))))
bytes_of c (laws.of4 a b d x l h f g k s e) =
    subst (All (λ y. y < 256)) (sym e)
    (All-cons (λ y. y < 256) a (b ∷ d ∷ x ∷ []) (omega arith)
    (All-cons (λ y. y < 256) b (d ∷ x ∷ []) (omega (arith, f.1))
    (All-cons (λ y. y < 256) d (x ∷ []) (omega (arith, g.1))
    (All-cons (λ y. y < 256) x [] (omega (arith, k.1)) (All-nil (λ y. y < 256))))))

-- the bytes of a character have what each byte from 128 on has, and the character if it is one byte
pub each_byte : (P : ℕ → Type 0) → ((b : ℕ) → 128 ≤ b → P b) → (c : ℕ) → laws.Shape c → P c → All P (encode_utf8 c)
each_byte P high c (laws.of1 h e) is = subst (All P) (sym e) (All-cons P c [] is (All-nil P))
each_byte P high c (laws.of2 a b l h f s e) is =
    subst (All P) (sym e) (All-cons P a (b ∷ []) (high a (omega arith)) (All-cons P b [] (high b f.0) (All-nil P)))
each_byte P high c (laws.of3 a b d l h f g s e) is =
    subst (All P) (sym e)
    (All-cons P a (b ∷ d ∷ []) (high a (omega arith))
    (All-cons P b (d ∷ []) (high b f.0) (All-cons P d [] (high d g.0) (All-nil P))))
each_byte P high c (laws.of4 a b d x l h f g k s e) is =
    subst (All P) (sym e)
    (All-cons P a (b ∷ d ∷ x ∷ []) (high a (omega arith))
    (All-cons P b (d ∷ x ∷ []) (high b f.0)
    (All-cons P d (x ∷ []) (high d g.0) (All-cons P x [] (high x k.0) (All-nil P)))))
