-- The lines of changes, one wire after another.
use Rattle.std.proofs.Common.{◌≡◌, ◌<◌, ◌+◌, ◌-◌, ◌*◌, ◌/◌, ◌%◌, ◌++◌, ◌∙◌, ℕ, zero, suc, Bool, List, [], ◌∷◌, codes, length, drop, flat_map, get_or, map, refl, ap, sym, append-nil, append_assoc, arith}
use Rattle.std.proofs.lemmas.List.{drop_more}
use Rattle.ps_bench_waves.specs.declared.value.Value.{Value}
use Rattle.ps_bench_waves.specs.Values.{held}
use Rattle.ps_bench_waves.specs.Text.{bits, changed_text, changes}
use Rattle.ps_bench_waves.specs.Declarations.{opening_byte, opening}

-- the lines from a wire on are its own and those of the wires after it
pub changes-drop : (all : Bool) (last values : List Value) (wire : ℕ) (before value : Value) → wire < length last → wire < length values →
    changes all wire (map held (drop wire last)) (map held (drop wire values))
    ≡ changed_text all wire (held (get_or last wire before)) (held (get_or values wire value)) ++ changes all (wire + 1) (map held (drop (wire + 1) last)) (map held (drop (wire + 1) values))
changes-drop all last values wire before value inside within =
    ap (λ (vs : List Value). changes all wire (map held vs) (map held (drop wire values))) (drop_more last wire before inside)
    ∙ ap (λ (vs : List Value). changes all wire (map held (get_or last wire before ∷ drop (wire + 1) last)) (map held vs)) (drop_more values wire value within)

-- the last binary digit stands after the others
bits_some : (count n : ℕ) → 0 < count → bits count n ≡ bits (count - 1) (n / 2) ++ (48 + n % 2) ∷ []
bits_some zero n some = absurd (omega (arith, some))
bits_some (suc count) n some = let less : suc count - 1 ≡ count = omega arith in ap (λ (k : ℕ). bits k (n / 2) ++ (48 + n % 2) ∷ []) (sym less)

-- a number without so many of its last binary digits
abbrev without : (count n : ℕ) → ℕ
without zero n = n
without (suc count) n = without count (n / 2)

-- so many digits stand after others
bits_behind : (k count n : ℕ) → bits (count + k) n ≡ bits k (without count n) ++ bits count n
bits_behind k zero n =
    let none : zero + k ≡ k = omega arith in
    ap (λ (c : ℕ). bits c n) none ∙ sym (append-nil (bits k n))
bits_behind k (suc count) n =
    let last = (48 + n % 2) ∷ [] in
    let less : suc count + k - 1 ≡ count + k = omega arith in
    bits_some (suc count + k) n (omega arith)
    ∙ ap (λ (c : ℕ). bits c (n / 2) ++ last) less
    ∙ ap (λ (digits : List ℕ). digits ++ last) (bits_behind k count (n / 2))
    ∙ append_assoc (bits k (without count (n / 2))) (bits count (n / 2)) last

-- a number divided by powers of two
fourth : (n : ℕ) → n / 2 / 2 ≡ n / 4
fourth n = omega arith

eighth : (n : ℕ) → n / 2 / 2 / 2 ≡ n / 8
eighth n = ap (λ (m : ℕ). m / 2) (fourth n) ∙ omega arith

by_16 : (n : ℕ) → n / 2 / 2 / 2 / 2 ≡ n / 16
by_16 n = ap (λ (m : ℕ). m / 2) (eighth n) ∙ omega arith

by_32 : (n : ℕ) → n / 2 / 2 / 2 / 2 / 2 ≡ n / 32
by_32 n = ap (λ (m : ℕ). m / 2) (by_16 n) ∙ omega arith

by_64 : (n : ℕ) → n / 2 / 2 / 2 / 2 / 2 / 2 ≡ n / 64
by_64 n = ap (λ (m : ℕ). m / 2) (by_32 n) ∙ omega arith

by_128 : (n : ℕ) → n / 2 / 2 / 2 / 2 / 2 / 2 / 2 ≡ n / 128
by_128 n = ap (λ (m : ℕ). m / 2) (by_64 n) ∙ omega arith

by_256 : (n : ℕ) → n / 2 / 2 / 2 / 2 / 2 / 2 / 2 / 2 ≡ n / 256
by_256 n = ap (λ (m : ℕ). m / 2) (by_128 n) ∙ omega arith

-- the eight last binary digits
pub octet_is : (n : ℕ) →
    bits 8 n
    ≡ (48 + n / 128 % 2) ∷ (48 + n / 64 % 2) ∷ (48 + n / 32 % 2) ∷ (48 + n / 16 % 2) ∷ (48 + n / 8 % 2) ∷ (48 + n / 4 % 2)
    ∷ (48 + n / 2 % 2) ∷ (48 + n % 2) ∷ []
octet_is n = λ i. (48 + by_128 n i % 2) ∷ (48 + by_64 n i % 2) ∷ (48 + by_32 n i % 2) ∷ (48 + by_16 n i % 2)
    ∷ (48 + eighth n i % 2) ∷ (48 + fourth n i % 2) ∷ (48 + n / 2 % 2) ∷ (48 + n % 2) ∷ []

-- they stand after the others
pub octets_some : (octets n : ℕ) → 0 < octets → bits (8 * octets) n ≡ bits (8 * (octets - 1)) (n / 256) ++ bits 8 n
octets_some octets n some =
    let more : 8 * octets ≡ 8 + 8 * (octets - 1) = omega (arith, some) in
    ap (λ (c : ℕ). bits c n) more ∙ bits_behind (8 * (octets - 1)) 8 n
    ∙ ap (λ (m : ℕ). bits (8 * (octets - 1)) m ++ bits 8 n) (by_256 n)

-- a scope with a name is opened
pub opening_some : (scope : List ℕ) → 0 < length scope → opening scope ≡ codes "$scope module " ++ (flat_map opening_byte scope ++ codes " $end\n")
opening_some [] some = absurd (omega (arith, some))
opening_some (b ∷ names) some = refl
