-- What a line of a head says.
use Rattle.std.proofs.Common.{◌≡◌, ◌∙◌, ◌<◌, ◌≤◌, ◌^◌, ℕ, List, [], ◌∷◌, ◌++◌, Option, Some, None, IfSome, IfNone, codes, length, map, sym, ap, subst, arith, inl, inr, ◌≢◌}
use Rattle.std.specs.Char.{to_ascii_lowercase}
use Rattle.std.specs.Str.{IsTrimAscii, IsUtf8}
use Rattle.std.specs.Str.Parse.{AllDigits, IsNumeral, digits_value, without_leading_plus}
use Rattle.std.proofs.lemmas.Bool.{cases_order}
use Rattle.std.proofs.lemmas.Fmt.{IsAscii-from_digits}
use Rattle.std.proofs.lemmas.List.{length-append, length-map}
use Rattle.std.proofs.lemmas.Str.{IsUtf8-from_ascii}
use Rattle.std.proofs.lemmas.Str.Ascii.{IsAscii-nil, IsAscii-cons}
use Rattle.std.proofs.lemmas.Str.Parse.{without_leading_plus_none, without_leading_plus_plus}
use Rattle.ps_lsp_rpc.specs.Frames.{SaysLength}
use Rattle.ps_lsp_rpc.proofs.Lengths.{same_front, same_trimmed}

-- the bytes of a numeral, after a plus or none, are a text
pub numeral_is_text : (word : List ℕ) → IsNumeral 10 (without_leading_plus word) → IsUtf8 word
numeral_is_text [] numeral = IsUtf8-from_ascii [] IsAscii-nil
numeral_is_text (c ∷ cs) numeral = elim (cases_order c 43) [
  | inl plus ↦
      let rest : AllDigits 10 cs = subst (AllDigits 10) (without_leading_plus_plus (c ∷ cs) plus) numeral.1 in
      IsUtf8-from_ascii (c ∷ cs) (IsAscii-cons c cs (omega arith) (IsAscii-from_digits cs rest))
  | inr other ↦
      let differs : c ≢ 43 = λ e. elim other [ inl less ↦ absurd (omega arith) | inr more ↦ absurd (omega arith) ] in
      let all : AllDigits 10 (c ∷ cs) = subst (AllDigits 10) (without_leading_plus_none (c ∷ cs) differs) numeral.1 in
      IsUtf8-from_ascii (c ∷ cs) (IsAscii-from_digits (c ∷ cs) all)
]

-- the line of a name, blanks and a number says the length
pub said : (line name rest digits : List ℕ) (number : Option ℕ) → line ≡ name ++ rest → map to_ascii_lowercase name ≡ codes "content-length:" →
    IsTrimAscii rest digits →
    IfSome number (λ n. IsNumeral 10 (without_leading_plus digits) × (n ≡ digits_value 10 (without_leading_plus digits))) →
    IfSome number (λ n. n < 2 ^ 32) →
    IfSome number (SaysLength line)
said line name rest digits None split named trimmed value small = tt
said line name rest digits (Some n) split named trimmed value small = record {
  name = name;
  rest = rest;
  digits = digits;
  is = split;
  named = named;
  trimmed = trimmed;
  numeral = value.0;
  small = subst (λ (m : ℕ). m < 2 ^ 32) value.1 small;
  value = value.1;
}

-- a line whose name is that of the length, with no number after it, says none
pub says_none : (line name rest digits : List ℕ) (number : Option ℕ) → line ≡ name ++ rest → map to_ascii_lowercase name ≡ codes "content-length:" →
    IsTrimAscii rest digits →
    IfNone number (IsNumeral 10 (without_leading_plus digits) → ¬ (digits_value 10 (without_leading_plus digits) < 2 ^ 32)) →
    IfNone number ((n : ℕ) → ¬ (SaysLength line n))
says_none line name rest digits (Some m) split named trimmed refutes = tt
says_none line name rest digits None split named trimmed refutes = λ n says.
    let size : length name ≡ length says.name =
    sym (length-map name to_ascii_lowercase) ∙ ap length named ∙ sym (ap length says.named) ∙ length-map says.name to_ascii_lowercase in
    let same = same_front name rest says.name says.rest (sym split ∙ says.is) size in
    let digits : says.digits ≡ digits = same_trimmed says.rest rest says.digits digits (sym same.1) says.trimmed trimmed in
    refutes (subst (λ (w : List ℕ). IsNumeral 10 (without_leading_plus w)) digits says.numeral)
    (subst (λ (w : List ℕ). digits_value 10 (without_leading_plus w) < 2 ^ 32) digits says.small)

-- a line with another name says none
pub not_named : (line name rest : List ℕ) (n : ℕ) → line ≡ name ++ rest → (15 ≤ length line → length name ≡ 15) →
    ¬ (map to_ascii_lowercase name ≡ codes "content-length:") → ¬ (SaysLength line n)
not_named line name rest n split long other says =
    let size : length says.name ≡ 15 = sym (length-map says.name to_ascii_lowercase) ∙ ap length says.named in
    let sizes = ap length says.is ∙ length-append says.name says.rest in
    let full : length name ≡ 15 = long (omega arith) in
    let same = same_front name rest says.name says.rest (sym split ∙ says.is) (full ∙ sym size) in
    other (ap (map to_ascii_lowercase) same.0 ∙ says.named)
