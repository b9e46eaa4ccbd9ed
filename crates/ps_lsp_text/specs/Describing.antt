-- Kinds and pins in words.
use Rattle.std.specs.Prelude.{ℕ, Bool, true, false, List, [], ◌++◌, Option, Some, None, codes, slice_get}
use Rattle.std.specs.List.{flat_map, range_with_len}
use Rattle.ps_model.specs.declared.kind.Kind.{Kind}
use Rattle.ps_model.specs.declared.kind.Ty.{Ty}
use Rattle.ps_model.specs.declared.kind.Ty.TheVariants as ty
use Rattle.ps_model.specs.declared.pins.PinRow.{PinRow}
use Rattle.ps_model.specs.Blocks.{block}
use Rattle.ps_model.specs.Pins.{pin_count, pin_names, pin_rows}
use Rattle.ps_report.specs.Lines.{code_text}
use Rattle.ps_ways.specs.States.{state_words}

-- a type as the language spells it
abbrev pub type_text : Ty → List ℕ
type_text ty.Safe = codes "SAFEBOOL"
type_text ty.Bool = codes "BOOL"
type_text ty.Time = codes "TIME"

-- what an input is, with the value that it has where a call does not give it
abbrev pub input_text : Ty → (free : Bool) → List ℕ
input_text ty.Time free = codes ", input, 0 ms where it is free"
input_text _ true = codes ", input, TRUE where it is free"
input_text _ false = codes ", input, FALSE where it is free"

-- what a pin is
abbrev pub side_text : (is_input : Bool) → Ty → (free : Bool) → List ℕ
side_text true ty free = input_text ty free
side_text false ty free = codes ", output"

abbrev pub role_text : PinRow → List ℕ
role_text row = side_text row.is_input row.ty row.free

-- a pin in words: its name, its type and what it is
abbrev pub told_pin : Option (List ℕ) → Option PinRow → List ℕ
told_pin (Some name) (Some row) = name ++ codes " : " ++ type_text row.ty ++ role_text row
told_pin (Some name) None = []
told_pin None row = []

-- a pin of a kind in words; nothing past the last one
abbrev pub pin_text : Kind → (pin : ℕ) → List ℕ
pin_text kind pin = told_pin (slice_get (pin_names kind) pin) (slice_get (pin_rows kind) pin)

-- a state in a line: its DiagCode, and what it is called
abbrev pub called_line : (code : ℕ) → Option (List ℕ) → List ℕ
called_line code (Some words) = codes "\n" ++ (code_text code ++ (codes " " ++ words))
called_line code None = []

-- the line of the state of a kind that has this DiagCode; nothing if the kind has no such state
abbrev pub state_line : Kind → (code : ℕ) → List ℕ
state_line kind code = called_line code (state_words kind code)

-- the states of a kind below a DiagCode, in the order of their DiagCodes
unfoldable pub states_below : Kind → (code : ℕ) → List ℕ
states_below kind code = flat_map (state_line kind) (range_with_len 0 code)

-- the pins of a kind up to one, each in a line
unfoldable pub pins_below : Kind → (pin : ℕ) → List ℕ
pins_below kind pin = flat_map (λ p. codes "\n" ++ pin_text kind p) (range_with_len 0 pin)

-- a kind in words: its name, all its pins, and all its states, whose DiagCodes have 16 bits
abbrev pub kind_text : Kind → List ℕ
kind_text kind =
    (block kind).name ++ (codes ", a safety function block\n"
    ++ (pins_below kind (pin_count kind) ++ (codes "\n" ++ states_below kind 65536)))
