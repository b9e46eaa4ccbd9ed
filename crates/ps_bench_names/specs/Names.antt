-- The names and values that words are.
use Rattle.std.specs.Prelude.{ℕ, ◌<◌, ◌+◌, ◌-◌, ◌*◌, List, [], ◌∷◌, ◌==◌, ◌||◌, Bool, true, false, nat_lt}
use Rattle.std.specs.Prelude.{if◌then◌else◌, length, map}
use Rattle.std.specs.Prelude.{codes, slice_get, slice_index_or, Option, Some, None, is_some, option_map, Result, Ok}
use Rattle.std.specs.Prelude.{Err}
use Rattle.std.specs.List.{list_all, list_any, filter_map, position_from, before_first, after_first, before_last}
use Rattle.std.specs.List.{after_last, slice_split}
use Rattle.std.specs.Str.{bytes_eq}
use Rattle.hex.specs.Hex.{decode_of}
use Rattle.hex.specs.declared.error.FromHexError.{FromHexError}
use Rattle.ps_base.specs.LetterCase.{is_same_name}
use Rattle.ps_model.specs.declared.kind.Kind.{Kind}
use Rattle.ps_model.specs.declared.kind.Ty.{Ty}
use Rattle.ps_model.specs.declared.kind.Ty.TheVariants.{Safe, Bool as Plain, Time}
use Rattle.ps_model.specs.declared.pins.PinRow.{PinRow}
use Rattle.ps_model.specs.Network.{Network, declared_count, declared_signals, input_count, instance_count, kind_at}
use Rattle.ps_model.specs.Pins.{pin_count, pin_names, pin_rows}
use Rattle.ps_model.specs.Stored.{bit, is_state}
use Rattle.ps_bench_names.specs.declared.name.Name.{Name}
use Rattle.ps_bench_names.specs.declared.name.Name.TheVariants.{Signal, Code, Pin}

-- ---- Names, without letter case.

-- the first of these names that a word is, by its number
abbrev pub number_named : List (List ℕ) → List ℕ → Option ℕ
number_named names word = position_from (is_same_name word) 0 names

-- the names of the inputs, outputs and locals
abbrev pub signal_names : Network → List (List ℕ)
signal_names net = map (λ s. s.name) (declared_signals net)

-- the names of the instances
abbrev pub instance_names : Network → List (List ℕ)
instance_names net = map (λ i. i.name) net.instances

-- whether a byte is a dot
abbrev pub is_dot : ℕ → Bool
is_dot b = b == 46

-- whether a type is TIME
abbrev pub is_time : Ty → Bool
is_time Time = true
is_time Safe = false
is_time Plain = false

-- a pin with this row, but for a TIME pin
abbrev pub boolean_pin : (instance pin : ℕ) → Option PinRow → Option Name
boolean_pin instance pin None = None
boolean_pin instance pin (Some row) = if is_time row.ty then None else Some (Pin instance pin)

-- the pin of a kind with this number, if there is one
abbrev pub pin_at : Kind → ℕ → Option ℕ → Option Name
pin_at kind instance None = None
pin_at kind instance (Some pin) = boolean_pin instance pin (slice_get (pin_rows kind) pin)

-- the pin of this name of an instance, if there is one
abbrev pub pin_of : Network → Option ℕ → List ℕ → Option Name
pin_of net None pin = None
pin_of net (Some instance) pin =
    pin_at (kind_at net instance) instance (number_named (pin_names (kind_at net instance)) pin)

-- INSTANCE.PIN: the last dot stands between them
abbrev pub pin_named : Network → List ℕ → Option Name
pin_named net word = pin_of net (number_named (instance_names net) (before_last is_dot word)) (after_last is_dot word)

-- a signal, or else an instance, or else a pin
abbrev pub either_name : Option ℕ → Option ℕ → Option Name → Option Name
either_name (Some signal) instance pin = Some (Signal signal)
either_name None (Some instance) pin = Some (Code instance)
either_name None None pin = pin

-- what a NAME names
abbrev pub name_of : Network → List ℕ → Option Name
name_of net word =
    either_name (number_named (signal_names net) word) (number_named (instance_names net) word) (pin_named net word)

-- a name is of an application: a signal with a declaration, an instance, or a pin of one
abbrev pub IsNameOf : Network → Name → Type 0
IsNameOf net (Signal s) = s < declared_count net
IsNameOf net (Code i) = i < instance_count net
IsNameOf net (Pin i j) = (i < instance_count net) × (j < pin_count (kind_at net i))

-- ---- Values.

-- the value that a word is: `0` or `1`, or FALSE or TRUE in any letter case
abbrev pub truth_of : List ℕ → Option Bool
truth_of word =
    if bytes_eq word (codes "0") || is_same_name word (codes "FALSE") then Some false
    else if bytes_eq word (codes "1") || is_same_name word (codes "TRUE") then Some true
    else None

-- the number in two bytes
abbrev pub number_in : Result (List ℕ) FromHexError → Option ℕ
number_in (Ok (high ∷ low ∷ [])) = Some (high * 256 + low)
number_in _ = None

-- the number that four hexadecimal digits are, of either case
abbrev pub four_digits : List ℕ → Option ℕ
four_digits word = if length word == 4 then number_in (decode_of word) else None

-- a code, if the kind has it
abbrev pub code_of_kind : Kind → Option ℕ → Option ℕ
code_of_kind kind None = None
code_of_kind kind (Some code) = if is_state kind code then Some code else None

-- the value that a word is for what is named: a code of the instance's kind, or 0 or 1
abbrev pub value_of : Network → Name → List ℕ → Option ℕ
value_of net (Code instance) word = code_of_kind (kind_at net instance) (four_digits word)
value_of net (Signal signal) word = option_map bit (truth_of word)
value_of net (Pin instance pin) word = option_map bit (truth_of word)

-- the values that a word is, with commas between them
abbrev pub values_of : Network → Name → List ℕ → Option (List ℕ)
values_of net name word =
    if list_all (λ piece. is_some (value_of net name piece)) (slice_split (λ b. b == 44) word)
    then Some (filter_map (value_of net name) (slice_split (λ b. b == 44) word)) else None

-- ---- NAME=V.

-- whether a byte is `=`
abbrev pub is_equals : ℕ → Bool
is_equals b = b == 61

-- whether a word has a `=`, in front of which a name stands, and after it a value
abbrev pub has_equals : List ℕ → Bool
has_equals word = list_any is_equals word

-- what stands before the first `=` of a word
abbrev pub name_part : List ℕ → List ℕ
name_part word = before_first is_equals word

-- what stands after the first `=` of a word
abbrev pub value_part : List ℕ → List ℕ
value_part word = after_first is_equals word

-- whether a name ends with `!`, which belongs to the `=` after it
abbrev pub is_denied : List ℕ → Bool
is_denied name = slice_index_or name (length name - 1) 0 == 33

-- the signal of this number, if it is an input
abbrev pub input_in : Network → Option ℕ → Option ℕ
input_in net None = None
input_in net (Some signal) = if nat_lt signal (input_count net) then Some signal else None
