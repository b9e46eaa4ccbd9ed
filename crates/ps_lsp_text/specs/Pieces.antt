-- The piece of a text by which a place is told.
use Rattle.std.specs.Prelude.{◌≡◌, ◌==◌, ◌&&◌, ◌-◌, ◌<◌, ◌≤◌, ℕ, List, [], ◌∷◌, Bool, Option, Some, None, Result, Ok, Err}
use Rattle.std.specs.Prelude.{if◌then◌else◌, length, max, min, unwrap_or}
use Rattle.ps_base.specs.declared.failing.Fail.{Fail}
use Rattle.ps_base.specs.declared.failing.Fail.TheVariants.{Memory, Refused}
use Rattle.ps_base.specs.declared.failing.Place.{Place}
use Rattle.ps_lexer.specs.declared.token.Token.{Token}
use Rattle.ps_lexer.specs.declared.token.Tokens.{Tokens}
use Rattle.ps_lexer.specs.Reading.{tokens}
use Rattle.ps_text.specs.Columns.{last_column, place_behind, position}
use Rattle.ps_text.specs.Quoted.{behind, line_of, name_at}
use Rattle.ps_text.specs.declared.positions.Range.{Range}
use Rattle.ps_lsp_text.specs.declared.finding_all.TheConstants.{LONGEST_TOLD}

-- the piece of a text from a place on that has so many bytes of its line
abbrev pub range_of : (text : List ℕ) → Place → (width : ℕ) → Range
range_of text place width = record { start = position text place; end = position text (place_behind place width) }

-- two places are the same
abbrev pub is_same_place : Place → Place → Bool
is_same_place a b = (a.line == b.line) && (a.column == b.column)

-- how many bytes the token has that begins at a place, if one of these does
abbrev pub token_width : List Token → Place → Option ℕ
token_width [] place = None
token_width (token ∷ more) place = if is_same_place token.place place then Some (token.upto - token.from) else token_width more place

-- how many bytes stand out at a place without a token: those of the name there, or one; all of the line where the place
-- is a line alone
abbrev pub plain_width : (text : List ℕ) → Place → ℕ
plain_width text place =
    let back = behind (line_of text place.line) place.column in
    min (if place.column == 0 then length back else max (length (name_at back)) 1) last_column

-- how many bytes stand out at a place: those of its token, or of what else stands there
abbrev pub width_at : (text : List ℕ) → List Token → Place → ℕ
width_at text shown place = unwrap_or (token_width shown place) (plain_width text place)

-- the piece of a text by which a place is told, where these tokens are shown by a whole one each
abbrev pub range_at : (text : List ℕ) → List Token → Place → Range
range_at text shown place = range_of text place (width_at text shown place)

-- the tokens of what a text gives: none where a rule L refuses it
abbrev pub AreTokens : Result Tokens Fail → List Token → Type 0
AreTokens (Ok of) shown = shown ≡ of.list
AreTokens (Err (Refused refusal)) shown = shown ≡ []
AreTokens (Err Memory) shown = ⊥

-- the tokens of a text, or none where a rule L refuses it
abbrev pub AreTokensOf : (text : List ℕ) → List Token → Type 0
AreTokensOf text shown = (given : Result Tokens Fail) × tokens text given × AreTokens given shown

-- The tokens by which places of a text are told, each by a whole one: none where a rule L refuses the text, or it is
-- long.
pub record AreShown (text : List ℕ) (shown : List Token) : Type 0 where
  pub long : LONGEST_TOLD < length text → shown ≡ []
  pub short : length text ≤ LONGEST_TOLD → AreTokensOf text shown
