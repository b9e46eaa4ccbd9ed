-- What may be written at a place of a text, and as JSON after the Language Server Protocol.
use Rattle.std.specs.Prelude.{◌≡◌, ◌==◌, ℕ, ◌+◌, ◌-◌, ◌<◌, Bool, false, ◌&&◌, ◌||◌, not, nat_lt, nat_le, is_some, true, if◌then◌else◌}
use Rattle.std.specs.Prelude.{List, [], Option, Some, None, codes, length, map, slice_get, unwrap_or}
use Rattle.std.specs.List.{position_or_len}
use Rattle.serde_json.specs.Data.{Data, array, member, no_members, number, object, string, unsigned}
use Rattle.serde_json.specs.View.{items_of}
use Rattle.ps_base.specs.declared.failing.Place.{Place}
use Rattle.ps_lexer.specs.declared.token.Token.{Token}
use Rattle.ps_model.specs.declared.kind.Kind.{Kind}
use Rattle.ps_model.specs.Blocks.{block}
use Rattle.ps_model.specs.Pins.{pin_count, pin_names}
use Rattle.ps_lsp_text.specs.Looking.{AreSeen, AreSeenBy, name_of_form, width_of}
use Rattle.ps_lsp_text.specs.Declaring.{IsInstance}
use Rattle.ps_lsp_text.specs.Describing.{pin_text}
use Rattle.ps_lsp_text.specs.Hovering.{is_output_place}
use Rattle.ps_lsp_text.specs.Published.{text_of}
use Rattle.ps_lsp_text.specs.declared.completing.Item.{Item}
use Rattle.ps_lsp_text.specs.declared.completing.Sort.{Sort}
use Rattle.ps_lsp_text.specs.declared.completing.Sort.TheVariants as sort

-- a token stands after the dot of an instance
pub record IsAfterDot (today earlier : List Token) (token : ℕ) : Type 0 where
  pub place : is_output_place today token ≡ true
  pub kind : Kind
  pub instance : IsInstance today earlier (token - 2) kind

-- an item with this label and this detail
abbrev pub item_with : Sort → (label detail : List ℕ) → Item
item_with sort label detail = record { sort = sort; label = label; detail = detail }

-- the item of a pin: its name, and what it is in words
abbrev pub pin_item : Kind → (pin : ℕ) → Item
pin_item kind pin = item_with sort.Pin (unwrap_or (slice_get (pin_names kind) pin) []) (pin_text kind pin)

-- the items of the first outputs of a kind, up to a pin, in their order
pub record AreOutputs (kind : Kind) (upto : ℕ) (items : List Item) : Type 0 where
  pub count : length (block kind).inputs + length items ≡ upto
  pub each : (k : ℕ) → k < length items → slice_get items k ≡ Some (pin_item kind (length (block kind).inputs + k))

-- whether a token begins before a place
abbrev pub begins_before : Place → Token → Bool
begins_before place token =
    nat_lt token.place.line place.line || ((token.place.line == place.line) && nat_lt token.place.column place.column)

-- how many tokens begin before a place
abbrev pub tokens_before : List Token → Place → ℕ
tokens_before tokens place = position_or_len (λ (t : Token). not (begins_before place t)) tokens

-- whether a token is a name that is being written at a place: it ends there or after it
abbrev pub is_written : Place → Option Token → Bool
is_written place (Some token) =
    is_some (name_of_form token.form)
    && ((token.place.line == place.line) && nat_le place.column (token.place.column + width_of token))
is_written place None = false

-- how many tokens stand whole before a place; a name that is being written there is none of them
abbrev pub whole_before : List Token → Place → ℕ
whole_before tokens place =
    let before = tokens_before tokens place in
    if is_written place (slice_get tokens (before - 1)) then before - 1 else before

-- What may be written at a place of a text. After the dot of an instance these are the outputs of its kind, all of them
-- and in their order, and after a dot that no instance stands before it is nothing. What may be written elsewhere is not
-- said here.
pub record IsCompleted (text : List ℕ) (parsed : Option (List ℕ)) (place : Place) (items : List Item) : Type 0 where
  pub today : List Token
  pub earlier : List Token
  pub seen : AreSeen text today
  pub before : AreSeenBy parsed earlier
  pub outputs : IsAfterDot today earlier (whole_before today place) →
      (kind : Kind) × IsInstance today earlier (whole_before today place - 2) kind × AreOutputs kind (pin_count kind) items
  pub nothing : is_output_place today (whole_before today place) ≡ true →
      ((kind : Kind) → IsInstance today earlier (whole_before today place - 2) kind → ⊥) → items ≡ []

-- what an item is, by the numbers of the protocol: a class, a field, a variable or a keyword
abbrev pub sort_number : Sort → ℕ
sort_number sort.Kind = 7
sort_number sort.Pin = 5
sort_number sort.Name = 6
sort_number sort.Keyword = 14

-- an item
abbrev pub item_data : Item → Data
item_data item =
    object (member (codes "detail") (string (text_of item.detail)) (member (codes "kind") (number (unsigned (sort_number item.sort)))
    (member (codes "label") (string (text_of item.label)) no_members)))

-- an answer lists what may be written at a place of a text
pub record Completes (text : List ℕ) (parsed : Option (List ℕ)) (place : Place) (answer : Data) : Type 0 where
  pub items : List Item
  pub completed : IsCompleted text parsed place items
  pub is : answer ≡ array (items_of (map item_data items))
