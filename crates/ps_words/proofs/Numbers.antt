-- The number of `load`, as `parse` reads it.
use Rattle.std.proofs.Common.{◌≡◌, ◌<◌, ◌≤◌, ◌^◌, ℕ, Bool, true, false, List, Result, [], ◌∷◌, refl, arith, length, get_or, ap, cond}
use Rattle.std.specs.Str.{all_ascii_digits}
use Rattle.std.specs.Str.Parse.{ParsesUnsigned, digits_value}
use Rattle.std.specs.Result.{OkIff}
use Rattle.std.proofs.lemmas.Str.Parse.{numerals_by_value, tells_all_ascii_digits, IsNumeralModel, parse_plain}
use Rattle.ps_words.specs.Command.{is_load_number, load}
use Rattle.ps_words.specs.Command.Command.{Load, NotTaken}

own : IsNumeralModel (λ ds. all_ascii_digits ds ≡ true) (digits_value 10)
own = numerals_by_value _ tells_all_ascii_digits

-- what `parse` reads of a text that begins with a digit above 0
pub reads : {E : Type 0} (text : List ℕ) (r : Result ℕ E) → 49 ≤ get_or text 0 0 → get_or text 0 0 ≤ 57 → ParsesUnsigned 32 10 text r →
    OkIff r ((all_ascii_digits text ≡ true) × (0 < length text) × (digits_value 10 text < 2 ^ 32)) (digits_value 10 text)
reads text r least most parses = parse_plain own 32 text r parses (λ e. omega arith)

-- the number is taken
pub read_taken : (text : List ℕ) (n : ℕ) → 49 ≤ get_or text 0 0 → 1 ≤ n → n ≤ 1000 → (all_ascii_digits text ≡ true) × (n ≡ digits_value 10 text) → Load n ≡ load text
read_taken [] n first least most r = absurd (omega arith)
read_taken (b ∷ rest) n first least most r =
    let taken : is_load_number (b ∷ rest) ≡ true = grind arith in
    rw taken (ap Load r.1)

-- what is not read is not taken
pub not_read : (text : List ℕ) → 49 ≤ get_or text 0 0 → ¬ ((all_ascii_digits text ≡ true) × (0 < length text) × (digits_value 10 text < 2 ^ 32)) → NotTaken ≡ load text
not_read [] first not = absurd (omega arith)
not_read (b ∷ rest) first not = go (is_load_number (b ∷ rest)) refl
  where
    go : (r : Bool) → is_load_number (b ∷ rest) ≡ r → NotTaken ≡ cond r (Load (digits_value 10 (b ∷ rest))) NotTaken
    go false e = refl
    go true e = absurd (let digits : all_ascii_digits (b ∷ rest) ≡ true = grind arith in let small : digits_value 10 (b ∷ rest) ≤ 1000 = grind arith in not (digits, omega arith, omega arith))
