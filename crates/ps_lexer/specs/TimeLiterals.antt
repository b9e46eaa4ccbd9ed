-- TIME literals, after IEC 61131-3. That a part may pass the next larger unit is the profile's own choice.
use Rattle.std.specs.Prelude.{◌≡◌, ℕ, suc, ◌+◌, ◌-◌, ◌*◌, ◌<◌, ◌≤◌, ◌⊎◌, Bool, true, ◌||◌, ◌==◌, List, [], ◌∷◌, ◌++◌}
use Rattle.std.specs.Prelude.{length, codes, slice_index}
use Rattle.std.specs.List.{AllByRecursion}
use Rattle.std.specs.Char.{is_ascii_digit}
use Rattle.ps_base.specs.declared.limits.TheConstants.{LARGEST_TIME}
use Rattle.ps_lexer.specs.Spelling.{folded, continues_name}
use Rattle.ps_lexer.specs.declared.time.TimeUnit.{TimeUnit}
use Rattle.ps_lexer.specs.declared.time.TimeUnit.TheVariants.{Day, Hour, Minute, Second, Millisecond}

-- a unit in lower case
abbrev pub unit_spelling : TimeUnit → List ℕ
unit_spelling Day = codes "d"
unit_spelling Hour = codes "h"
unit_spelling Minute = codes "m"
unit_spelling Second = codes "s"
unit_spelling Millisecond = codes "ms"

-- how many ms a unit has
abbrev pub milliseconds : TimeUnit → ℕ
milliseconds Day = 86400000
milliseconds Hour = 3600000
milliseconds Minute = 60000
milliseconds Second = 1000
milliseconds Millisecond = 1

-- the order of the units
abbrev pub rank : TimeUnit → ℕ
rank Day = 0
rank Hour = 1
rank Minute = 2
rank Second = 3
rank Millisecond = 4

-- the number that n and then these digits write
abbrev pub number_from : ℕ → List ℕ → ℕ
number_from n [] = n
number_from n (d ∷ ds) = number_from (10 * n + (d - 48)) ds

-- the number that digits write
abbrev pub number_of : List ℕ → ℕ
number_of digits = number_from 0 digits

-- one or more digits, and a unit in any letter case
pub record IsPart (digits letters : List ℕ) (unit : TimeUnit) : Type 0 where
  pub some : 0 < length digits
  pub only_digits : AllByRecursion (λ b. is_ascii_digit b ≡ true) digits
  pub spells : folded letters ≡ unit_spelling unit

-- The bytes are one or more parts, and their sum is v ms. Units come in order from the rank `least` on, each at most
-- once, and one `_` (95) may stand between two parts.
pub data PartsGive : ℕ → List ℕ → ℕ → Type 0 where
  last : {least v : ℕ} {bytes : List ℕ} (digits letters : List ℕ) (unit : TimeUnit)
      → IsPart digits letters unit → least ≤ rank unit → bytes ≡ digits ++ letters
      → v ≡ number_of digits * milliseconds unit → PartsGive least bytes v
  more : {least v w : ℕ} {bytes : List ℕ} (digits letters rest : List ℕ) (unit : TimeUnit)
      → IsPart digits letters unit → least ≤ rank unit
      → (bytes ≡ digits ++ (letters ++ rest)) ⊎ (bytes ≡ digits ++ (letters ++ 95 ∷ rest))
      → PartsGive (suc (rank unit)) rest w → v ≡ number_of digits * milliseconds unit + w → PartsGive least bytes v

-- the sum of the parts, which has its limit
abbrev pub IsTimeValue : List ℕ → ℕ → Type 0
IsTimeValue parts v = PartsGive 0 parts v × (v ≤ LARGEST_TIME)

-- `T#` or `TIME#` in any letter case
abbrev pub IsTimeHead : List ℕ → Type 0
IsTimeHead bytes = (folded bytes ≡ codes "t#") ⊎ (folded bytes ≡ codes "time#")

-- a letter, `_`, a digit or `.`
abbrev pub continues_time : ℕ → Bool
continues_time b = continues_name b || b == 46

-- the text of a TIME literal, right or wrong: `T#` or `TIME#`, and then letters, `_`, digits and `.`
pub record IsTimeText (bytes : List ℕ) : Type 0 where
  pub head : List ℕ
  pub run : List ℕ
  pub whole : bytes ≡ head ++ run
  pub begins : IsTimeHead head
  pub continues : (k : ℕ) → k < length run → continues_time (slice_index run k) ≡ true

-- a TIME literal of v ms
pub record IsTimeLiteral (bytes : List ℕ) (v : ℕ) : Type 0 where
  pub head : List ℕ
  pub parts : List ℕ
  pub whole : bytes ≡ head ++ parts
  pub begins : IsTimeHead head
  pub value : IsTimeValue parts v
