-- What is told of what stands at a place of a text.
use Rattle.std.specs.Prelude.{◌≡◌, ◌==◌, ℕ, ◌+◌, ◌-◌, ◌&&◌, ◌⊎◌, ◌↔◌, ◌++◌, Bool, true, false, IsTrue, MatchBool, List, [], Option, Some, None}
use Rattle.std.specs.Prelude.{length, codes, nat_lt, if◌then◌else◌}
use Rattle.ps_base.specs.LetterCase.{SameName}
use Rattle.ps_base.specs.declared.failing.Place.{Place}
use Rattle.ps_lexer.specs.declared.token.Form.{Form}
use Rattle.ps_lexer.specs.declared.token.Form.TheVariants as form
use Rattle.ps_lexer.specs.declared.token.Token.{Token}
use Rattle.ps_lexer.specs.declared.token.Word.{Word}
use Rattle.ps_lexer.specs.declared.token.Word.TheVariants as keyword
use Rattle.ps_model.specs.declared.kind.Kind.{Kind}
use Rattle.ps_model.specs.Blocks.{block}
use Rattle.ps_model.specs.Pins.{IsNamed}
use Rattle.ps_lsp_text.specs.Calls.{IsCall}
use Rattle.ps_lsp_text.specs.Declaring.{HoldsFor, IsInstance, IsTypeOf, IsUndeclared, declaring_tokens}
use Rattle.ps_lsp_text.specs.Defining.{is_dot}
use Rattle.ps_lsp_text.specs.Describing.{kind_text, pin_text}
use Rattle.ps_lsp_text.specs.Driving.{IsDriverTold}
use Rattle.ps_lsp_text.specs.Looking.{AreSeen, AreSeenBy, form_in, name_in, name_touched}
use Rattle.ps_lsp_text.specs.Sections.{IsSectionOf}
use Rattle.ps_lsp_text.specs.declared.hovering.Hovered.{Hovered}
use Rattle.ps_lsp_text.specs.declared.sight.Declared.{Declared}

-- a pin of a kind has this name, without letter case, and is an input, or an output
pub record IsPinOf (kind : Kind) (name : List ℕ) (is_input : Bool) (pin : ℕ) : Type 0 where
  pub named : IsNamed kind name pin
  pub side : nat_lt pin (length (block kind).inputs) ≡ is_input

-- what is told of a name that is to be a pin of a kind: the pin of that name in words; nothing if the kind has none
abbrev pub IsPinTold : Kind → (name : List ℕ) (is_input : Bool) (words : List ℕ) → Type 0
IsPinTold kind name is_input words =
    ((pin : ℕ) × IsPinOf kind name is_input pin × (words ≡ pin_text kind pin))
    ⊎ (((pin : ℕ) → IsPinOf kind name is_input pin → ⊥) × (words ≡ []))

-- whether a token stands after another one and a dot, as the output of an instance does
abbrev pub is_output_place : List Token → (token : ℕ) → Bool
is_output_place tokens token = nat_lt 1 token && is_dot (form_in tokens (token - 1))

-- whether a form is an assignment sign
abbrev pub is_assign : Option Form → Bool
is_assign (Some form.Assign) = true
is_assign (Some _) = false
is_assign None = false

-- the name that is a token is to be a pin of this kind: after the dot of an instance an output, and before an assignment
-- sign in the call of one an input
abbrev pub IsPinPlace : (today earlier : List Token) (token : ℕ) → Kind → (is_input : Bool) → Type 0
IsPinPlace today earlier token kind false = (is_output_place today token ≡ true) × IsInstance today earlier (token - 2) kind
IsPinPlace today earlier token kind true =
    (is_output_place today token ≡ false) × (is_assign (form_in today (token + 1)) ≡ true)
    × ((bracket : ℕ) × IsCall today earlier token bracket kind)

-- what a name is that a section declares
abbrev pub section_text : Option Word → List ℕ
section_text (Some keyword.VarInput) = codes ", an input"
section_text (Some keyword.VarOutput) = codes ", an output"
section_text _ = codes ", a local"

-- whether a section declares inputs, which no statement drives
abbrev pub is_of_inputs : Option Word → Bool
is_of_inputs (Some keyword.VarInput) = true
is_of_inputs _ = false

-- whether a section declares outputs
abbrev pub is_of_outputs : Option Word → Bool
is_of_outputs (Some keyword.VarOutput) = true
is_of_outputs _ = false

-- the first token from which on statements may drive a declared name: the declaration, or the first one of the text if
-- the declaration is none of its tokens
abbrev pub driven_from : Declared → ℕ
driven_from declared = if declared.is_today then declared.at else 0

-- what is told after the type of a signal: its section, and what drives it; it is a SAFEBOOL output, or not
pub record IsSignalTold (text : List ℕ) (today earlier : List Token) (name : List ℕ) (declared : Declared) (ty words : List ℕ) (is_output : Bool) : Type 0 where
  pub section : Option Word
  pub stands : IsSectionOf (declaring_tokens today earlier declared) declared.at section
  pub driver : List ℕ
  pub driven : MatchBool (is_of_inputs section) (driver ≡ []) (IsDriverTold text today name (driven_from declared) driver)
  pub is : words ≡ section_text section ++ driver
  pub output : IsTrue is_output ↔ ((is_of_outputs section ≡ true) × SameName ty (codes "SAFEBOOL"))

-- what is told after the type of an instance: what calls it, and its kind
pub record IsInstanceTold (text : List ℕ) (today : List Token) (name : List ℕ) (declared : Declared) (kind : Kind) (words : List ℕ) : Type 0 where
  pub driver : List ℕ
  pub driven : IsDriverTold text today name (driven_from declared) driver
  pub is : words ≡ codes ", an instance" ++ (driver ++ (codes "\n\n" ++ kind_text kind))

-- no kind has this name
abbrev pub IsNoKind : List ℕ → Type 0
IsNoKind name = (kind : Kind) → SameName (block kind).name name → ⊥

-- what is told after the type of a declared name, and whether it is a SAFEBOOL output
abbrev pub IsTypedTold : (text : List ℕ) (today earlier : List Token) (name : List ℕ) → Declared → (ty words : List ℕ) (is_output : Bool) → Type 0
IsTypedTold text today earlier name declared ty words is_output =
    ((kind : Kind) × SameName (block kind).name ty × IsInstanceTold text today name declared kind words × (is_output ≡ false))
    ⊎ (IsNoKind ty × IsSignalTold text today earlier name declared ty words is_output)

-- what is told of a declared name: it and its type, and more by that; nothing if its type is not written yet
abbrev pub IsDeclaredTold : (text : List ℕ) (today earlier : List Token) (name : List ℕ) → Declared → (words : List ℕ) (is_output : Bool) → Type 0
IsDeclaredTold text today earlier name declared words is_output =
    ((ty : List ℕ) × IsTypeOf (declaring_tokens today earlier declared) declared.at (Some ty)
    × ((more : List ℕ) × IsTypedTold text today earlier name declared ty more is_output × (words ≡ name ++ (codes " : " ++ (ty ++ more)))))
    ⊎ (IsTypeOf (declaring_tokens today earlier declared) declared.at None × (words ≡ []) × (is_output ≡ false))

-- what is told of a name that is no kind: of the declaration that holds for its token; nothing if it is not declared
abbrev pub IsKnownTold : (text : List ℕ) (today earlier : List Token) (token : ℕ) (name words : List ℕ) (is_output : Bool) → Type 0
IsKnownTold text today earlier token name words is_output =
    ((declared : Declared) × HoldsFor today earlier name token declared × IsDeclaredTold text today earlier name declared words is_output)
    ⊎ ((IsUndeclared today name × IsUndeclared earlier name) × (words ≡ []) × (is_output ≡ false))

-- what is told of a name that is no pin: of the kind that has it, in any letter case, or else of what is declared
abbrev pub IsOtherTold : (text : List ℕ) (today earlier : List Token) (token : ℕ) (name words : List ℕ) (is_output : Bool) → Type 0
IsOtherTold text today earlier token name words is_output =
    ((kind : Kind) × SameName (block kind).name name × (words ≡ kind_text kind) × (is_output ≡ false))
    ⊎ (IsNoKind name × IsKnownTold text today earlier token name words is_output)

-- What is told of the name that is a token, and whether that is a SAFEBOOL output: of a pin if it is to be one, and else
-- of a kind or of what is declared.
abbrev pub IsNameTold : (text : List ℕ) (today earlier : List Token) (token : ℕ) (name words : List ℕ) (is_output : Bool) → Type 0
IsNameTold text today earlier token name words is_output =
    ((kind : Kind) × ((is_input : Bool) × IsPinPlace today earlier token kind is_input × IsPinTold kind name is_input words × (is_output ≡ false)))
    ⊎ (((kind : Kind) (is_input : Bool) → IsPinPlace today earlier token kind is_input → ⊥) × IsOtherTold text today earlier token name words is_output)

-- what is told, by the words on a name; nothing if there are none
abbrev pub hovered_of : (name words : List ℕ) (is_output : Bool) → Option Hovered
hovered_of name words is_output =
    if length words == 0 then None else Some (record { words = words; output = if is_output then Some name else None })

-- what is told of the name that is touched; nothing if none is
abbrev pub IsTouchedTold : (text : List ℕ) (today earlier : List Token) (touched : Option ℕ) (told : Option Hovered) → Type 0
IsTouchedTold text today earlier None told = told ≡ None
IsTouchedTold text today earlier (Some token) told =
    (name : List ℕ) → name_in today token ≡ Some name →
    (words : List ℕ) × ((is_output : Bool) × IsNameTold text today earlier token name words is_output × (told ≡ hovered_of name words is_output))

-- What is told of a place of a text, and the SAFEBOOL output there whose demand is to be told besides, by the tokens of
-- the text and of the last one that parsed.
pub record IsHovered (text : List ℕ) (parsed : Option (List ℕ)) (place : Place) (told : Option Hovered) : Type 0 where
  pub today : List Token
  pub earlier : List Token
  pub shown : AreSeen text today
  pub before : AreSeenBy parsed earlier
  pub is : IsTouchedTold text today earlier (name_touched today place) told
