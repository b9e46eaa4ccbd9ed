-- Calls of instances among tokens.
use Rattle.std.specs.Prelude.{◌≡◌, ℕ, ◌+◌, ◌-◌, ◌<◌, ◌≤◌, Bool, true, false, List, Option, Some, None}
use Rattle.std.specs.List.{sum_by, slice_range}
use Rattle.ps_lexer.specs.declared.token.Form.{Form}
use Rattle.ps_lexer.specs.declared.token.Form.TheVariants as form
use Rattle.ps_lexer.specs.declared.token.Token.{Token}
use Rattle.ps_model.specs.declared.kind.Kind.{Kind}
use Rattle.ps_lsp_text.specs.Looking.{form_in}
use Rattle.ps_lsp_text.specs.Declaring.{IsInstance}

-- whether a form is a semicolon, and whether it is a bracket that opens
abbrev pub is_semicolon : Option Form → Bool
is_semicolon (Some form.Semicolon) = true
is_semicolon (Some _) = false
is_semicolon None = false

abbrev pub is_bracket : Option Form → Bool
is_bracket (Some form.LeftBracket) = true
is_bracket (Some _) = false
is_bracket None = false

-- one for a bracket that opens, and one for a bracket that closes
abbrev pub opening : Option Form → ℕ
opening (Some form.LeftBracket) = 1
opening (Some _) = 0
opening None = 0

abbrev pub closing : Option Form → ℕ
closing (Some form.RightBracket) = 1
closing (Some _) = 0
closing None = 0

-- how many brackets open among the tokens from one up to another, and how many close
abbrev pub opened : List Token → (first upto : ℕ) → ℕ
opened tokens first upto = sum_by (λ (t : Token). opening (Some t.form)) (slice_range tokens first upto)

abbrev pub closed : List Token → (first upto : ℕ) → ℕ
closed tokens first upto = sum_by (λ (t : Token). closing (Some t.form)) (slice_range tokens first upto)

-- a bracket that opens before a token is not closed before it: as many close between them as open
pub record IsOpen (tokens : List Token) (at bracket : ℕ) : Type 0 where
  pub before : bracket < at
  pub is : is_bracket (form_in tokens bracket) ≡ true
  pub balanced : opened tokens (bracket + 1) at ≡ closed tokens (bracket + 1) at

-- the bracket that is open before a token in its statement: the last one, and no semicolon stands between them
pub record IsBracketBefore (tokens : List Token) (at bracket : ℕ) : Type 0 where
  pub is_open : IsOpen tokens at bracket
  pub last : (k : ℕ) → bracket < k → IsOpen tokens at k → ⊥
  pub one_statement : (k : ℕ) → bracket < k → k < at → is_semicolon (form_in tokens k) ≡ true → ⊥

-- a token stands in the call of an instance of this kind: after the bracket that follows its name
pub record IsCall (today earlier : List Token) (at bracket : ℕ) (kind : Kind) : Type 0 where
  pub is_open : IsBracketBefore today at bracket
  pub named : 1 ≤ bracket
  pub instance : IsInstance today earlier (bracket - 1) kind
