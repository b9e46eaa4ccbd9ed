-- Declarations among tokens.
use Rattle.std.specs.Prelude.{◌≡◌, ℕ, ◌+◌, ◌<◌, ◌≤◌, Bool, true, false, List, Option, Some, None, MatchBool, length, if◌then◌else◌}
use Rattle.ps_base.specs.LetterCase.{SameName}
use Rattle.ps_lexer.specs.declared.token.Form.{Form}
use Rattle.ps_lexer.specs.declared.token.Form.TheVariants as form
use Rattle.ps_lexer.specs.declared.token.Token.{Token}
use Rattle.ps_model.specs.declared.kind.Kind.{Kind}
use Rattle.ps_model.specs.Blocks.{block}
use Rattle.ps_lsp_text.specs.Looking.{form_in, name_in}
use Rattle.ps_lsp_text.specs.declared.sight.Declared.{Declared}

-- whether a form may stand before the colon of a declaration: its names and the commas between them
abbrev pub is_listed : Option Form → Bool
is_listed (Some (form.Name name)) = true
is_listed (Some form.Comma) = true
is_listed (Some _) = false
is_listed None = false

-- the colon of the declaration that a token is in: names and commas alone stand before it, fewer than 1,000 of them
pub record IsColonOf (tokens : List Token) (at colon : ℕ) : Type 0 where
  pub behind : at ≤ colon
  pub near : colon < at + 1000
  pub listed : (k : ℕ) → at ≤ k → k < colon → is_listed (form_in tokens k) ≡ true
  pub is : form_in tokens colon ≡ Some form.Colon

-- the type of the declaration that a token is in: the name after its colon; none where it is in no declaration
abbrev pub IsTypeOf : (tokens : List Token) (at : ℕ) → Option (List ℕ) → Type 0
IsTypeOf tokens at (Some ty) = (colon : ℕ) × IsColonOf tokens at colon × (name_in tokens (colon + 1) ≡ Some ty)
IsTypeOf tokens at None = (colon : ℕ) → IsColonOf tokens at colon → name_in tokens (colon + 1) ≡ None

-- a token declares a name: it spells it, in any letter case, in a declaration
pub record Declares (tokens : List Token) (name : List ℕ) (at : ℕ) : Type 0 where
  pub spelt : List ℕ
  pub is : name_in tokens at ≡ Some spelt
  pub same : SameName spelt name
  pub colon : ℕ
  pub declared : IsColonOf tokens at colon

-- no token declares a name
abbrev pub IsUndeclared : List Token → (name : List ℕ) → Type 0
IsUndeclared tokens name = (at : ℕ) → Declares tokens name at → ⊥

-- the declaration of a name that holds for a token: the last one up to it, or else the first one after it
pub record IsDeclaration (tokens : List Token) (name : List ℕ) (token at : ℕ) : Type 0 where
  pub declares : Declares tokens name at
  pub last : (k : ℕ) → k ≤ token → Declares tokens name k → k ≤ at
  pub first : token < at → (k : ℕ) → Declares tokens name k → at ≤ k

-- The declaration of a name for one of today's tokens: that of the text as it is, or, if that does not declare the name,
-- the last one of the last text that parsed.
abbrev pub HoldsFor : (today earlier : List Token) (name : List ℕ) (token : ℕ) → Declared → Type 0
HoldsFor today earlier name token declared =
    MatchBool declared.is_today (IsDeclaration today name token declared.at)
    (IsUndeclared today name × IsDeclaration earlier name (length earlier) declared.at)

-- the tokens of the text that declares a name
abbrev pub declaring_tokens : (today earlier : List Token) → Declared → List Token
declaring_tokens today earlier declared = if declared.is_today then today else earlier

-- one of today's tokens is a name that is declared with this type
pub record IsTyped (today earlier : List Token) (token : ℕ) (ty : List ℕ) : Type 0 where
  pub name : List ℕ
  pub there : name_in today token ≡ Some name
  pub declared : Declared
  pub holds : HoldsFor today earlier name token declared
  pub typed : IsTypeOf (declaring_tokens today earlier declared) declared.at (Some ty)

-- one of today's tokens is the name of an instance of this kind, whose name is the type in any letter case
pub record IsInstance (today earlier : List Token) (token : ℕ) (kind : Kind) : Type 0 where
  pub ty : List ℕ
  pub typed : IsTyped today earlier token ty
  pub named : SameName (block kind).name ty
