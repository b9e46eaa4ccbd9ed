-- The tokens as a spelling lists them: each with what is free in its spelling, and with the place of a name and of a
-- literal.
use Rattle.std.specs.Prelude.{◌==◌, ◌≤◌, ℕ, Bool, true, false, List, Option, Some, None, map}
use Rattle.std.specs.List.{AllByRecursion}
use Rattle.ps_base.specs.declared.failing.Place.{Place}
use Rattle.ps_base.specs.declared.limits.TheConstants.{LARGEST_TIME}
use Rattle.ps_lexer.specs.declared.token.Token.{Token}
use Rattle.ps_lexer.specs.declared.token.Form.{Form}
use Rattle.ps_lexer.specs.declared.token.Form.TheVariants as form
use Rattle.ps_lexer.specs.declared.token.Word.TheVariants as word
use Rattle.ps_parser.specs.declared.name.Name.{Name}
use Rattle.ps_parser.specs.declared.sign.Sign.{Sign}
use Rattle.ps_parser.specs.declared.sign.Sign.TheVariants.{Program, EndProgram, FunctionBlock, EndFunctionBlock}
use Rattle.ps_parser.specs.declared.sign.Sign.TheVariants.{VarInput, VarOutput, Var, EndVar, And, Or, Assign, Colon}
use Rattle.ps_parser.specs.declared.sign.Sign.TheVariants.{Semicolon, Comma, LeftBracket, RightBracket, Dot}
use Rattle.ps_parser.specs.Names.{block_word, IsPlainName}

-- A token that is always spelt alike, a name, a Boolean literal, or a TIME literal with its value in ms.
pub data Symbol : Type 0 where
  Mark : Sign → Symbol
  Named : Name → Symbol
  Truth : Bool → Place → Symbol
  Duration : ℕ → Place → Symbol

-- the keyword, or else the name
abbrev pub named_or : Option Sign → Name → Symbol
named_or None n = Named n
named_or (Some s) n = Mark s

-- a token as a spelling lists it
abbrev pub symbol_of : Form → Place → Symbol
symbol_of (form.Word word.Program) p = Mark Program
symbol_of (form.Word word.EndProgram) p = Mark EndProgram
symbol_of (form.Word word.VarInput) p = Mark VarInput
symbol_of (form.Word word.VarOutput) p = Mark VarOutput
symbol_of (form.Word word.Var) p = Mark Var
symbol_of (form.Word word.EndVar) p = Mark EndVar
symbol_of (form.Word word.And) p = Mark And
symbol_of (form.Word word.Or) p = Mark Or
symbol_of (form.Word word.True) p = Truth true p
symbol_of (form.Word word.False) p = Truth false p
symbol_of (form.Name n) p = named_or (block_word n) (record { text = n; place = p })
symbol_of (form.Time t) p = Duration t p
symbol_of form.Assign p = Mark Assign
symbol_of form.Colon p = Mark Colon
symbol_of form.Semicolon p = Mark Semicolon
symbol_of form.Comma p = Mark Comma
symbol_of form.LeftBracket p = Mark LeftBracket
symbol_of form.RightBracket p = Mark RightBracket
symbol_of form.Dot p = Mark Dot

-- a token with its place
abbrev pub symbol : Token → Symbol
symbol t = symbol_of t.form t.place

-- the tokens in order
abbrev pub symbols : List Token → List Symbol
symbols ts = map symbol ts

-- where a symbol is a name, it is a name of the grammar, and where it is a TIME literal, its value has its limit
abbrev pub IsProper : Symbol → Type 0
IsProper (Named n) = IsPlainName n.text
IsProper (Duration t p) = t ≤ LARGEST_TIME
IsProper _ = Unit {0}

-- each symbol is proper
abbrev pub AllProper : List Symbol → Type 0
AllProper ts = AllByRecursion IsProper ts

-- a number for each sign, by which they are told apart
abbrev pub rank : Sign → ℕ
rank Program = 0
rank EndProgram = 1
rank FunctionBlock = 2
rank EndFunctionBlock = 3
rank VarInput = 4
rank VarOutput = 5
rank Var = 6
rank EndVar = 7
rank And = 8
rank Or = 9
rank Assign = 10
rank Colon = 11
rank Semicolon = 12
rank Comma = 13
rank LeftBracket = 14
rank RightBracket = 15
rank Dot = 16

-- whether a symbol is this sign
abbrev pub is_mark : Sign → Symbol → Bool
is_mark s (Mark t) = rank s == rank t
is_mark s _ = false

-- whether a symbol is a name
abbrev pub is_named : Symbol → Bool
is_named (Named n) = true
is_named _ = false

-- the sign that a symbol is
abbrev pub sign_at : Symbol → Option Sign
sign_at (Mark s) = Some s
sign_at _ = None
