-- What is told of the first field in which the reports of the channels differ.
use Rattle.std.specs.Prelude.{◌≡◌, ℕ, ◌+◌, ◌-◌, ◌/◌, ◌%◌, ◌==◌, ◌&&◌, Bool, not, List, [], ◌∷◌, ◌++◌}
use Rattle.std.specs.Prelude.{Option, Some, None, codes, drop, if◌then◌else◌, length, nat_lt, slice_index}
use Rattle.ps_accepted.specs.Answering.{IsFrontOf}
use Rattle.ps_accepted.specs.Source.{IsResolvedAs, Reading, stands_for, is_refused}
use Rattle.ps_model.specs.Network.{Network, declared_count, input_count, instance_count, instance_name, signal_name}
use Rattle.ps_model.specs.declared.channel.Cause.{Cause}
use Rattle.ps_model.specs.declared.channel.Cause.TheVariants.{Differ, Stuck, Trap, NoReport}

-- ---- values

-- the hexadecimal digit of a number up to 15
abbrev pub digit : ℕ → ℕ
digit n = slice_index (codes "0123456789ABCDEF") n

-- a code in four hexadecimal digits, or a Boolean as 0 or 1
abbrev pub value_text : (is_code : Bool) → ℕ → List ℕ
value_text is_code value =
    if is_code then digit (value / 4096) ∷ digit (value / 256 % 16) ∷ digit (value / 16 % 16) ∷ digit (value % 16) ∷ []
    else digit (value % 16) ∷ []

-- the values of channel A and of channel B, as ` (A 8000, B C002)`; nothing where they are not known
abbrev pub values_text : (is_code : Bool) → Option (ℕ × ℕ) → List ℕ
values_text is_code None = []
values_text is_code (Some values) =
    codes " (A " ++ value_text is_code values.0 ++ codes ", B " ++ value_text is_code values.1 ++ codes ")"

-- ---- names

-- a name; of a longer one the last 160 bytes, after dots
abbrev pub name_told : List ℕ → List ℕ
name_told name = (if nat_lt 160 (length name) then codes "..." else []) ++ drop (length name - 160) name

-- what is reported of an instance: whether it is ready, whether it has an error, and its diagnosis
abbrev pub reported : ℕ → List ℕ
reported n = if n == 0 then codes ".Ready" else if n == 1 then codes ".Error" else codes ".DiagCode"

module _ (net : Network) where
  -- an output by its number
  abbrev pub output_told : ℕ → List ℕ
  output_told n =
      if nat_lt (input_count net + n) (declared_count net) then name_told (signal_name net (input_count net + n))
      else []

  -- a field after those of the outputs: each instance has three
  abbrev pub diagnosis_told : ℕ → List ℕ
  diagnosis_told n =
      if nat_lt (n / 3) (instance_count net) then name_told (instance_name net (n / 3)) ++ reported (n % 3) else []

  -- the name of a field by its number
  abbrev pub field_name : ℕ → List ℕ
  field_name field =
      if nat_lt field (length net.outputs) then output_told field else diagnosis_told (field - length net.outputs)

  -- whether a field has a code
  abbrev pub has_code : ℕ → Bool
  has_code field = not (nat_lt field (length net.outputs)) && (field - length net.outputs) % 3 == 2

  -- the name of a field, and the values of the channels in it
  abbrev pub field_text : ℕ → Option (ℕ × ℕ) → List ℕ
  field_text field values = field_name field ++ values_text (has_code field) values

-- of a text that stands for an application: the field in its reports; nothing of a text that is refused
abbrev pub field_in : Reading → ℕ → Option (ℕ × ℕ) → List ℕ
field_in (stands_for net) field values = field_text net field values
field_in (is_refused refusal) field values = []

-- What is told of the field in which the reports first differ, by the application of a text, with the values of the
-- channels; nothing where a scan tripped for another cause.
abbrev pub IsFieldOf : (text : List ℕ) → Cause → Option (ℕ × ℕ) → List ℕ → Type 0
IsFieldOf text (Differ field) values bytes =
    (reading : Reading) × IsResolvedAs text reading × (bytes ≡ field_in reading field values)
IsFieldOf text (Stuck channel) values bytes = bytes ≡ []
IsFieldOf text (Trap channel number) values bytes = bytes ≡ []
IsFieldOf text (NoReport channel) values bytes = bytes ≡ []

-- the same of the text that begins with these bytes, which decide of it
abbrev pub IsFieldBy : (front : List ℕ) → Cause → Option (ℕ × ℕ) → List ℕ → Type 0
IsFieldBy front cause values bytes = (text : List ℕ) → IsFrontOf front text → IsFieldOf text cause values bytes
