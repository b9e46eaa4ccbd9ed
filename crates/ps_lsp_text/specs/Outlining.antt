-- What a text declares, as an outline of it, and as JSON after the Language Server Protocol.
use Rattle.std.specs.Prelude.{◌≡◌, ℕ, ◌+◌, ◌-◌, ◌<◌, ◌≤◌, ◌⊎◌, ◌++◌, Bool, true, false, List, [], ◌∷◌, Option, Some, None, codes, length, map, min, slice_get, take}
use Rattle.std.specs.Option.{option_or}
use Rattle.std.specs.List.{slice_range}
use Rattle.serde_json.specs.Data.{Data, array, member, no_members, number, object, string, unsigned}
use Rattle.serde_json.specs.View.{items_of}
use Rattle.ps_lexer.specs.declared.token.Token.{Token}
use Rattle.ps_lexer.specs.declared.token.Word.{Word}
use Rattle.ps_text.specs.Columns.{last_column, units}
use Rattle.ps_text.specs.declared.positions.Range.{Range}
use Rattle.ps_lsp_text.specs.Declaring.{IsTypeOf}
use Rattle.ps_lsp_text.specs.Looking.{AreSeen, name_in, width_of}
use Rattle.ps_lsp_text.specs.Published.{range_data, text_of}
use Rattle.ps_lsp_text.specs.Sections.{opens_section, word_of_form}
use Rattle.ps_lsp_text.specs.declared.listing.Spot.{Spot}
use Rattle.ps_lsp_text.specs.declared.listing.Symbol.{Symbol}
use Rattle.ps_lsp_text.specs.declared.listing.TheConstants.{MOST_SYMBOLS}

-- the last keyword among tokens, if there is one
abbrev pub last_keyword : List Token → Option Word
last_keyword [] = None
last_keyword (token ∷ more) = option_or (last_keyword more) (word_of_form token.form)

-- whether a keyword opens a section, if there is one
abbrev pub opens : Option Word → Bool
opens None = false
opens (Some word) = opens_section word

-- whether the last of the first tokens stands in a section of names: the last keyword among them opens it
abbrev pub is_within : List Token → (upto : ℕ) → Bool
is_within tokens upto = opens (last_keyword (take upto tokens))

-- the first byte of the line of a token
abbrev pub line_begin : Token → ℕ
line_begin token = token.«from» - (token.place.column - 1)

-- where a token stands: its line, its first byte, and the code units before it in the line
abbrev pub spot_at : (text : List ℕ) → Token → Spot
spot_at text token = record {
  begin = line_begin token;
  «from» = token.«from»;
  units = min (units (slice_range text (line_begin token) token.«from»)) last_column;
}

-- the piece of a text that a name is; it has a code unit for each byte
abbrev pub name_range : (text : List ℕ) → Token → Range
name_range text token = record {
  start = record { line = token.place.line - 1; character = (spot_at text token).units };
  end = record { line = token.place.line - 1; character = min ((spot_at text token).units + width_of token) last_column };
}

-- a token declares a name with a type: the symbol of it
pub record IsSymbol (text : List ℕ) (tokens : List Token) (at : ℕ) (symbol : Symbol) : Type 0 where
  pub named : name_in tokens at ≡ Some symbol.name
  pub typed : IsTypeOf tokens at (Some symbol.ty)
  pub token : Token
  pub there : slice_get tokens at ≡ Some token
  pub range : symbol.range ≡ name_range text token

-- the symbols of one token: that of the name that it declares; none if it declares none
abbrev pub IsOutlined : (text : List ℕ) (tokens : List Token) (at : ℕ) → List Symbol → Type 0
IsOutlined text tokens at found =
    ((symbol : Symbol) × IsSymbol text tokens at symbol × (found ≡ symbol ∷ []))
    ⊎ (((name ty : List ℕ) → name_in tokens at ≡ Some name → IsTypeOf tokens at (Some ty) → ⊥) × (found ≡ []))

-- The symbols of the first tokens, in their order: those of each token that stands in a section, until there are as many
-- as are listed.
pub data AreOutlined (text : List ℕ) (tokens : List Token) : ℕ → List Symbol → Type 0 where
  nothing : AreOutlined text tokens 0 []
  outside : {upto : ℕ} {list : List Symbol} → AreOutlined text tokens upto list → is_within tokens (upto + 1) ≡ false → AreOutlined text tokens (upto + 1) list
  full : {upto : ℕ} {list : List Symbol} → AreOutlined text tokens upto list → MOST_SYMBOLS ≤ length list → AreOutlined text tokens (upto + 1) list
  inside : {upto : ℕ} {list found : List Symbol} → AreOutlined text tokens upto list → is_within tokens (upto + 1) ≡ true → length list < MOST_SYMBOLS →
      IsOutlined text tokens upto found → AreOutlined text tokens (upto + 1) (list ++ found)

-- the outline of a text: the symbols of all the tokens that it shows
pub record AreSymbols (text : List ℕ) (list : List Symbol) : Type 0 where
  pub tokens : List Token
  pub seen : AreSeen text tokens
  pub outlined : AreOutlined text tokens (length tokens) list

-- a symbol: its name, its type, and where it stands; 13 is the number that the protocol has for a variable
abbrev pub symbol_data : Symbol → Data
symbol_data symbol =
    object (member (codes "detail") (string (text_of symbol.ty)) (member (codes "kind") (number (unsigned 13))
    (member (codes "name") (string (text_of symbol.name)) (member (codes "range") (range_data symbol.range)
    (member (codes "selectionRange") (range_data symbol.range) no_members)))))

-- an answer lists the symbols of a text, none of them within another
pub record Outlines (text : List ℕ) (answer : Data) : Type 0 where
  pub list : List Symbol
  pub symbols : AreSymbols text list
  pub is : answer ≡ array (items_of (map symbol_data list))
