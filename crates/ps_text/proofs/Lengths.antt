-- How long what is shown and quoted is.
use Rattle.std.proofs.Common.{◌≡◌, ℕ, ◌+◌, ◌-◌, ◌*◌, ◌^◌, ◌<◌, ◌≤◌, Bool, true, false, not, ◌==◌, nat_lt, ◌&&◌, if◌then◌else◌, List, [], ◌∷◌, ◌++◌, length, take, drop, replicate, codes, decimal, arith, length-append, length-drop, lit≤}
use Rattle.std.proofs.lemmas.List.{length-take, length-replicate}
use Rattle.std.specs.List.{before_first}
use Rattle.std.proofs.lemmas.Fmt.{length-decimal-le}
use Rattle.hex.specs.Hex.{encode_lower}
use Rattle.hex.proofs.HexLemmas.{length-encode_with}
use Rattle.ps_text.specs.Shown.{is_printable, shown_byte, shown, dots, first_shown, last_shown}
use Rattle.ps_text.specs.Quoted.{before, behind, is_of_name, name_at, window, caret, quoted}

-- a byte is shown by at most four
length-shown_byte : (b : ℕ) → length (shown_byte b) ≤ 4
length-shown_byte b =
    elim (is_printable b) as (λ v. length (if v then b ∷ [] else codes "\\x" ++ encode_lower (b ∷ [])) ≤ 4) [ true ↦ lit≤ tt | false ↦ omega (arith, length-encode_with (codes "0123456789abcdef") (b ∷ [])) ]

pub length-shown : (bytes : List ℕ) → length (shown bytes) ≤ 4 * length bytes
length-shown [] = lit≤ tt
length-shown (b ∷ bytes) = omega (arith, length-append (shown_byte b) (shown bytes), length-shown_byte b, length-shown bytes)

length-dots : (left_out : Bool) → length (dots left_out) ≤ 3
length-dots true = lit≤ tt
length-dots false = lit≤ tt

pub length-first_shown : (most : ℕ) (bytes : List ℕ) → length (first_shown most bytes) ≤ 4 * most + 3
length-first_shown most bytes =
    let cut : Bool = nat_lt most (length bytes) in
    omega (arith, length-append (shown (take most bytes)) (dots cut), length-dots cut, length-shown (take most bytes), length-take most bytes)

pub length-last_shown : (most : ℕ) (bytes : List ℕ) → length (last_shown most bytes) ≤ 4 * most + 3
length-last_shown most bytes =
    let cut : Bool = nat_lt most (length bytes) in
    let start : ℕ = length bytes - most in
    omega (arith, length-append (dots cut) (shown (drop start bytes)), length-dots cut, length-shown (drop start bytes), length-drop start bytes)

-- a number of a place
pub length-number : (n : ℕ) → n < 2 ^ 32 → length (decimal n) ≤ 10
length-number n small = length-decimal-le 10 n (omega arith) (omega arith) (omega arith)

-- the column of a heading
pub length-column : (column : ℕ) → column < 2 ^ 32 → length (if column == 0 then [] else codes ":" ++ decimal column) ≤ 11
length-column column small =
    let digits : length (decimal column) ≤ 10 = length-number column small in
    elim (column == 0) as (λ v. length (if v then [] else codes ":" ++ decimal column) ≤ 11) [ true ↦ lit≤ tt | false ↦ omega (arith, length-append (codes ":") (decimal column)) ]

pub length-name_at : (bytes : List ℕ) → length (name_at bytes) ≤ 64
length-name_at bytes = omega (arith, length-take 64 (before_first (λ b. not (is_of_name b)) bytes))

-- the parts of a window
window-size : (front back : List ℕ) → length front ≤ 163 → length back ≤ 243 → length (codes "    " ++ front ++ back ++ codes "\n") ≤ 411
window-size front back f b = simp length-append (omega arith)

-- the parts of a caret
caret-size : (n : ℕ) → n ≤ 163 → length (codes "    " ++ replicate n 32 ++ codes "^\n") ≤ 169
caret-size n few = simp (length-append, length-replicate) (omega arith)

length-window : (front back : List ℕ) → length (window front back) ≤ 411
length-window front back = window-size (last_shown 40 front) (first_shown 60 back) (length-last_shown 40 front) (length-first_shown 60 back)

length-caret : (front : List ℕ) → length (caret front) ≤ 169
length-caret front = caret-size (length (last_shown 40 front)) (length-last_shown 40 front)

-- the caret of a column
column-size : (column : ℕ) (mark : List ℕ) → length mark ≤ 169 → length (if column == 0 then [] else mark) ≤ 169
column-size column mark few = elim (column == 0) as (λ v. length (if v then [] else mark) ≤ 169) [ true ↦ lit≤ tt | false ↦ few ]

-- what is quoted, of any line
line-size : (n : ℕ) (shown mark : List ℕ) → length shown ≤ 411 → length mark ≤ 169 → length (if n == 0 then [] else shown ++ mark) ≤ 580
line-size n shown mark s m =
    elim (n == 0) as (λ v. length (if v then [] else shown ++ mark) ≤ 580) [ true ↦ lit≤ tt | false ↦ omega (arith, length-append shown mark) ]

pub length-quoted : (line : List ℕ) (column : ℕ) → length (quoted line column) ≤ 580
length-quoted line column =
    line-size (length line) (window (before line column) (behind line column)) (if column == 0 then [] else caret (before line column))
    (length-window (before line column) (behind line column)) (column-size column (caret (before line column)) (length-caret (before line column)))
