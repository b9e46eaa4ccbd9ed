-- Where what stands at a place of a text is declared.
use Rattle.std.specs.Prelude.{◌≡◌, ℕ, ◌-◌, Bool, ◌&&◌, nat_lt, false, true, List, length, codes, Option, Some, None, unwrap_or, MatchBool}
use Rattle.std.specs.Prelude.{slice_get, if◌then◌else◌}
use Rattle.serde_json.specs.Data.{Data, null, string, object, member, no_members}
use Rattle.ps_base.specs.declared.failing.Place.{Place}
use Rattle.ps_lexer.specs.declared.token.Form.{Form}
use Rattle.ps_lexer.specs.declared.token.Form.TheVariants as form
use Rattle.ps_lexer.specs.declared.token.Token.{Token}
use Rattle.ps_lsp_text.specs.Looking.{AreSeen, AreSeenBy, form_in, name_in, name_touched, width_of}
use Rattle.ps_lsp_text.specs.Declaring.{IsDeclaration, IsUndeclared}
use Rattle.ps_lsp_text.specs.Pieces.{range_of}
use Rattle.ps_lsp_text.specs.Published.{range_data}
use Rattle.ps_lsp_text.specs.declared.defining.Defined.{Defined}

-- whether a form is a dot
abbrev pub is_dot : Option Form → Bool
is_dot (Some form.Dot) = true
is_dot (Some _) = false
is_dot None = false

-- whether a dot stands right before a token
abbrev pub is_behind_dot : List Token → ℕ → Bool
is_behind_dot tokens at = nat_lt 0 at && is_dot (form_in tokens (at - 1))

-- what is found is the place and the width of the declaration of a name that holds for a token
pub record IsAt (tokens : List Token) (name : List ℕ) (at : ℕ) (found : Defined) : Type 0 where
  pub number : ℕ
  pub declaration : IsDeclaration tokens name at number
  pub token : Token
  pub is : slice_get tokens number ≡ Some token
  pub place : found.place ≡ token.place
  pub width : found.width ≡ width_of token

-- Where a name is declared for one of today's tokens: in the text as it is, or, if that does not declare it, by the last
-- declaration of the last text that parsed. Nothing if neither declares it.
abbrev pub IsFound : (today earlier : List Token) (name : List ℕ) (at : ℕ) → Option Defined → Type 0
IsFound today earlier name at (Some found) =
    MatchBool found.is_today (IsAt today name at found)
    (IsUndeclared today name × IsAt earlier name (length earlier) found)
IsFound today earlier name at None = IsUndeclared today name × IsUndeclared earlier name

-- Where the name that is touched is declared. Nothing if no name is, or it is the output of an instance, after a dot.
abbrev pub IsDefinition : (today earlier : List Token) → (touched : Option ℕ) → Option Defined → Type 0
IsDefinition today earlier None found = found ≡ None
IsDefinition today earlier (Some at) found =
    MatchBool (is_behind_dot today at) (found ≡ None)
    ((name : List ℕ) → name_in today at ≡ Some name → IsFound today earlier name at found)

-- where the name at a place of a text is declared, if it is, by the tokens of the text and of the last one that parsed
pub record IsDefined (text : List ℕ) (parsed : Option (List ℕ)) (place : Place) (found : Option Defined) : Type 0 where
  pub today : List Token
  pub earlier : List Token
  pub shown : AreSeen text today
  pub before : AreSeenBy parsed earlier
  pub definition : IsDefinition today earlier (name_touched today place) found

-- the text that declares: the text as it is, or the last one that parsed
abbrev pub declaring : (text : List ℕ) (parsed : Option (List ℕ)) → Defined → List ℕ
declaring text parsed found = if found.is_today then text else unwrap_or parsed text

-- the answer: the name of the text and the range of the declaration, or null
abbrev pub definition_data : (uri text : List ℕ) (parsed : Option (List ℕ)) → Option Defined → Data
definition_data uri text parsed None = null
definition_data uri text parsed (Some found) =
    object (member (codes "range") (range_data (range_of (declaring text parsed found) found.place found.width))
    (member (codes "uri") (string uri) no_members))

-- an answer is the range of the declaration of the name at a place of a text, or null if it has none
pub record Defines (uri text : List ℕ) (parsed : Option (List ℕ)) (place : Place) (answer : Data) : Type 0 where
  pub found : Option Defined
  pub defined : IsDefined text parsed place found
  pub is : answer ≡ definition_data uri text parsed found
