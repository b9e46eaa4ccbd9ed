-- What readers of TAP and of XML make of what is reported.
use Rattle.std.specs.Prelude.{ℕ, Bool, true, false, not, ◌==◌, ◌&&◌, ◌||◌, List, [], ◌∷◌, ◌++◌, bytes_eq, codes, nat_le}
use Rattle.std.specs.Prelude.{if◌then◌else◌, Option, Some, None}
use Rattle.std.specs.Option.{option_map}

-- A description as a reader of TAP takes it that is behind a backslash or is not: a byte behind a backslash stands for
-- itself, and elsewhere `#` begins a directive. None: a directive begins.
abbrev pub description_from : (behind : Bool) → List ℕ → Option (List ℕ)
description_from true [] = Some []
description_from true (b ∷ bs) = option_map (λ rest. b ∷ rest) (description_from false bs)
description_from false [] = Some []
description_from false (b ∷ bs) =
    if b == 92 then description_from true bs
    else if b == 35 then None else option_map (λ rest. b ∷ rest) (description_from false bs)

-- a description as a reader of TAP takes it
abbrev pub description_read : List ℕ → Option (List ℕ)
description_read text = description_from false text

-- a character that XML 1.0 allows in a document
abbrev pub is_xml_character : ℕ → Bool
is_xml_character c =
    c == 9 || c == 10 || c == 13 || (nat_le 0x20 c && nat_le c 0xD7FF) || (nat_le 0xE000 c && nat_le c 0xFFFD)
    || (nat_le 0x10000 c && nat_le c 0x10FFFF)

-- a byte of a line of text, or a line feed
abbrev pub is_text : ℕ → Bool
is_text b = b == 10 || nat_le 32 b

-- a byte that ends no text of an element and no value of an attribute
abbrev pub is_no_mark : ℕ → Bool
is_no_mark b = not (b == 60) && not (b == 62) && not (b == 34) && not (b == 39)

-- what an entity stands for, by its name
abbrev pub entity : List ℕ → List ℕ
entity name =
    if bytes_eq name (codes "amp") then codes "&"
    else if bytes_eq name (codes "lt") then codes "<"
    else if bytes_eq name (codes "gt") then codes ">"
    else if bytes_eq name (codes "quot") then codes "\""
    else if bytes_eq name (codes "apos") then codes "'"
    else []

-- where a reader of XML is: outside of entities, or in one whose name begins so
pub data At : Type 0 where
  outside : At
  within : List ℕ → At

-- what a reader of XML gets of a text or an attribute that is at some place
abbrev pub value_from : List ℕ → At → List ℕ
value_from [] at = []
value_from (b ∷ bs) outside = if b == 38 then value_from bs (within []) else b ∷ value_from bs outside
value_from (b ∷ bs) (within name) =
    if b == 59 then entity name ++ value_from bs outside else value_from bs (within (name ++ b ∷ []))

-- what a reader of XML gets of a text or an attribute
abbrev pub value_read : List ℕ → List ℕ
value_read text = value_from text outside
