-- The tokens that a question about a text looks at.
use Rattle.std.specs.Prelude.{◌≡◌, ◌==◌, ℕ, ◌+◌, ◌-◌, ◌<◌, ◌≤◌, ◌⊎◌, Bool, ◌&&◌, nat_le, is_some, List, [], length, position}
use Rattle.std.specs.Prelude.{Option, Some, None, option_map, option_and_then, slice_get}
use Rattle.ps_base.specs.declared.failing.Place.{Place}
use Rattle.ps_base.specs.declared.failing.Rule.{Rule}
use Rattle.ps_base.specs.declared.limits.TheConstants.{LARGEST_SOURCE}
use Rattle.ps_lexer.specs.declared.token.Form.{Form}
use Rattle.ps_lexer.specs.declared.token.Form.TheVariants as form
use Rattle.ps_lexer.specs.declared.token.Token.{Token}
use Rattle.ps_lexer.specs.Reading.{Reads, Breaks}

-- Where the tokens end that a text shows: at once where it is too large, and else with the text, or at the first place
-- that breaks a rule L.
abbrev pub IsEnd : (text : List ℕ) → ℕ → Type 0
IsEnd text at =
    ((LARGEST_SOURCE < length text) × (at ≡ 0))
    ⊎ ((length text ≤ LARGEST_SOURCE) × ((at ≡ length text) ⊎ ((rule : Rule) × Breaks rule text at)))

-- the tokens that a text shows: all before that end
pub record AreSeen (text : List ℕ) (shown : List Token) : Type 0 where
  pub upto : ℕ
  pub read : Reads text 0 shown upto
  pub ends : IsEnd text upto

-- the tokens that the last text that parsed shows; none where there is no such text
abbrev pub AreSeenBy : Option (List ℕ) → List Token → Type 0
AreSeenBy None shown = shown ≡ []
AreSeenBy (Some text) shown = AreSeen text shown

-- the form of a token, if there is one
abbrev pub form_in : List Token → ℕ → Option Form
form_in tokens i = option_map (λ (t : Token). t.form) (slice_get tokens i)

-- the bytes of a form that is a name
abbrev pub name_of_form : Form → Option (List ℕ)
name_of_form (form.Name name) = Some name
name_of_form _ = None

-- the name at a place among the tokens, if there is one
abbrev pub name_in : List Token → ℕ → Option (List ℕ)
name_in tokens i = option_and_then name_of_form (form_in tokens i)

-- how many bytes a token has
abbrev pub width_of : Token → ℕ
width_of token = token.upto - token.from

-- whether a place is in a token or right after it
abbrev pub touches : Place → Token → Bool
touches place token =
    (token.place.line == place.line)
    && (nat_le token.place.column place.column && nat_le place.column (token.place.column + width_of token))

-- whether a token is a name that a place is in or right after
abbrev pub is_touched : Place → Token → Bool
is_touched place token = touches place token && is_some (name_of_form token.form)

-- the number of the name that a place is in or right after; two names stand apart, so there is one such at most
abbrev pub name_touched : List Token → Place → Option ℕ
name_touched tokens place = position (is_touched place) tokens
