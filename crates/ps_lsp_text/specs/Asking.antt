-- What a message says of the text that it is about.
use Rattle.std.specs.Prelude.{◌≡◌, ◌+◌, List, ℕ, Option, Some, None, option_and_then, option_map, codes, min}
use Rattle.serde_json.specs.Data.{Data, Items, no_items, item}
use Rattle.serde_json.specs.Find.{as_array, as_number, as_str, as_u64, get, pointer}
use Rattle.ps_base.specs.declared.failing.Place.{Place}
use Rattle.ps_text.specs.Columns.{IsOffsetOf, last_column}
use Rattle.ps_text.specs.Quoted.{line_of}
use Rattle.ps_text.specs.declared.positions.Position.{Position}

-- what its method is about, if it says it
abbrev pub params_in : Option Data → Option Data
params_in value = option_and_then (get (codes "params")) value

-- a text that it says at a path
abbrev pub text_at : (path : List ℕ) → Option Data → Option (List ℕ)
text_at path value = option_and_then as_str (option_and_then (pointer path) (params_in value))

-- the name of the text that it is about
abbrev pub uri_in : Option Data → Option (List ℕ)
uri_in value = text_at (codes "/textDocument/uri") value

-- the text that it opens
abbrev pub opened_in : Option Data → Option (List ℕ)
opened_in value = text_at (codes "/textDocument/text") value

-- the last of these
abbrev pub last_item : Items → Option Data
last_item no_items = None
last_item (item last no_items) = Some last
last_item (item first (item next more)) = last_item (item next more)

-- the changes that it says
abbrev pub changes_in : Option Data → Option Items
changes_in value = option_and_then as_array (option_and_then (pointer (codes "/contentChanges")) (params_in value))

-- the text that a change leaves: the last of the whole texts that it gives
abbrev pub changed_in : Option Data → Option (List ℕ)
changed_in value = option_and_then as_str (option_and_then (pointer (codes "/text")) (option_and_then last_item (changes_in value)))

-- a number that it says at a path, as far as it goes into 32 bits
abbrev pub number_at : (path : List ℕ) → Data → Option ℕ
number_at path params =
    option_map (λ n. min n last_column) (option_and_then as_u64 (option_and_then as_number (pointer path params)))

-- a position, where both its numbers are given
abbrev pub position_with : (line character : Option ℕ) → Option Position
position_with (Some line) (Some character) = Some (record { line = line; character = character })
position_with (Some line) None = None
position_with None character = None

-- the position that its parameters say
abbrev pub position_at : Data → Option Position
position_at params =
    position_with (number_at (codes "/position/line") params) (number_at (codes "/position/character") params)

-- the position that it is about
abbrev pub position_in : Option Data → Option Position
position_in value = option_and_then position_at (params_in value)

-- The place of a position of a text, which counts lines and bytes from 1: the byte at its column of its line, or the
-- end of the line where that is shorter.
pub record IsPlaceOf (text : List ℕ) (position : Position) (place : Place) : Type 0 where
  pub offset : ℕ
  pub line : place.line ≡ min (position.line + 1) last_column
  pub at : IsOffsetOf (line_of text place.line) position.character offset
  pub column : place.column ≡ min (offset + 1) last_column
