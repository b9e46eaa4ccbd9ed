-- The phrases of the grammar.
use Rattle.std.specs.Prelude.{ℕ, zero, suc, ◌⊎◌, Bool, true, false, ◌||◌, List, [], ◌∷◌}
use Rattle.std.proofs.Common.{inl, inr}
use Rattle.ps_parser.specs.declared.name.Name.{Name}
use Rattle.ps_parser.specs.declared.section.Part.{Part}
use Rattle.ps_parser.specs.declared.section.Declaration.{Declaration}
use Rattle.ps_parser.specs.declared.section.Section.{Section}
use Rattle.ps_parser.specs.declared.statement.Target.{Target}
use Rattle.ps_parser.specs.declared.statement.Target.TheVariants as target
use Rattle.ps_parser.specs.declared.sign.Sign.TheVariants as sign
use Rattle.ps_parser.specs.declared.heads.Heads.{Heads}
use Rattle.ps_parser.specs.Symbol.{Symbol, Mark, Named, Truth, Duration, is_mark, is_named}
use Rattle.ps_parser.specs.Tree.{FactorTree, Signal, Pin, Literal, Time, Group, ProductTree, SumTree, ArgumentTree}
use Rattle.ps_parser.specs.Tree.{StatementTree, Assign, Call, SourceTree, factors, products}
use Rattle.ps_parser.specs.Spelt.{factor_spelt, target_spelt, part_sign, head_sign, foot_sign}
use Rattle.ps_parser.specs.Phrase.{Phrase, ◌then◌, just, finish, many, JoinedFits, joined, optional, either, seen}

-- groups are nested at most so deep, and no sum and no product is empty
abbrev pub SumFits : (FactorTree → Type 0) → SumTree → Type 0
SumFits P s = JoinedFits (λ p. JoinedFits P (factors p)) (products s)

-- a group stands where one more is allowed
abbrev pub FactorFits : ℕ → FactorTree → Type 0
FactorFits limit (Signal n) = Unit {0}
FactorFits limit (Pin n q) = Unit {0}
FactorFits limit (Literal b p) = Unit {0}
FactorFits limit (Time t p) = Unit {0}
FactorFits zero (Group s) = ⊥
FactorFits (suc limit) (Group s) = SumFits (FactorFits limit) s

-- no symbol goes on
abbrev pub never : Symbol → Bool
never _ = false

-- whether a symbol is a literal
abbrev pub is_literal : Symbol → Bool
is_literal (Truth b p) = true
is_literal (Duration t p) = true
is_literal _ = false

-- what a factor begins with that is no name
abbrev pub is_other : Symbol → Bool
is_other t = is_mark sign.LeftBracket t || is_literal t

-- a name may go on with a dot
abbrev pub factor_goes_on : FactorTree → Symbol → Bool
factor_goes_on (Signal n) = is_mark sign.Dot
factor_goes_on _ = never

-- a name alone may go on with a dot
abbrev pub target_goes_on : Target → Symbol → Bool
target_goes_on (target.Name n) = is_mark sign.Dot
target_goes_on (target.Pin n q) = never

-- a name, a dotted name, a literal or a group
abbrev pub a_factor : Phrase FactorTree
a_factor = record { fits = FactorFits; spell = factor_spelt; goes_on = factor_goes_on }

-- factors with an AND between each two
abbrev pub a_product : Phrase ProductTree
a_product = seen factors (joined (Mark sign.And) (is_mark sign.And) a_factor)

-- products with an OR between each two
abbrev pub a_sum : Phrase SumTree
a_sum = seen products (joined (Mark sign.Or) (is_mark sign.Or) a_product)

-- a name
abbrev pub a_name : Phrase Name
a_name = record { fits = λ _ _. Unit {0}; spell = λ n. Named n ∷ []; goes_on = λ _. never }

-- a name or a dotted name
abbrev pub a_target : Phrase Target
a_target = record { fits = λ _ _. Unit {0}; spell = target_spelt; goes_on = target_goes_on }

-- `:= sum ;`
abbrev pub value_end : Phrase (SumTree × Unit {0})
value_end = a_sum then just (Mark sign.Semicolon)

-- a sum among its signs
abbrev pub value_parts : SumTree → Unit {0} × (SumTree × Unit {0})
value_parts s = (tt, (s, tt))

-- `:= sum ;`, seen as the sum
abbrev pub a_value : Phrase SumTree
a_value = seen value_parts (just (Mark sign.Assign) then value_end)

-- `. name := sum ;`
abbrev pub pin_end : Phrase (Name × SumTree)
pin_end = a_name then a_value

-- a pin and its value after the dot
abbrev pub pin_parts : Name × SumTree → Unit {0} × (Name × SumTree)
pin_parts p = (tt, p)

-- `. name := sum ;`, seen as the pin and its value
abbrev pub a_pin_value : Phrase (Name × SumTree)
a_pin_value = seen pin_parts (just (Mark sign.Dot) then pin_end)

-- `name := sum`
abbrev pub argument_end : Phrase (Unit {0} × SumTree)
argument_end = just (Mark sign.Assign) then a_sum

-- an argument among its signs
abbrev pub argument_parts : ArgumentTree → Name × (Unit {0} × SumTree)
argument_parts a = (a.pin, (tt, a.value))

-- `name := sum`, seen as an argument
abbrev pub an_argument : Phrase ArgumentTree
an_argument = seen argument_parts (a_name then argument_end)

-- `( arguments ) ;`
abbrev pub arguments : Phrase (List ArgumentTree)
arguments = joined (Mark sign.Comma) (is_mark sign.Comma) an_argument

-- arguments or none
abbrev pub any_arguments : Phrase (List ArgumentTree)
any_arguments = optional arguments is_named

-- `) ;`
abbrev pub call_close : Phrase (Unit {0} × Unit {0})
call_close = just (Mark sign.RightBracket) then just (Mark sign.Semicolon)

-- `arguments ) ;`
abbrev pub call_end : Phrase (List ArgumentTree × (Unit {0} × Unit {0}))
call_end = any_arguments then call_close

-- the arguments among their signs
abbrev pub call_parts : List ArgumentTree → Unit {0} × (List ArgumentTree × (Unit {0} × Unit {0}))
call_parts args = (tt, (args, (tt, tt)))

-- `( arguments ) ;`, seen as the arguments
abbrev pub a_call : Phrase (List ArgumentTree)
a_call = seen call_parts (just (Mark sign.LeftBracket) then call_end)

-- what follows the first name of a statement
abbrev pub Tail : Type 0
Tail = (Name × SumTree) ⊎ (SumTree ⊎ List ArgumentTree)

-- `:= sum ;` or `( arguments ) ;`
abbrev pub value_or_call : Phrase (SumTree ⊎ List ArgumentTree)
value_or_call = either a_value a_call

-- that, or `. name := sum ;`
abbrev pub a_tail : Phrase Tail
a_tail = either a_pin_value value_or_call

-- the first name of a statement, and what follows it
abbrev pub statement_parts : StatementTree → Name × Tail
statement_parts (Assign (target.Name n) s) = (n, inr (inl s))
statement_parts (Assign (target.Pin n q) s) = (n, inl (q, s))
statement_parts (Call n args) = (n, inr (inr args))

-- a name and what follows it, seen as a statement
abbrev pub a_statement : Phrase StatementTree
a_statement = seen statement_parts (a_name then a_tail)

-- `names : name ;`
abbrev pub names : Phrase (List Name)
names = joined (Mark sign.Comma) (is_mark sign.Comma) a_name

-- `name ;`
abbrev pub type_end : Phrase (Name × Unit {0})
type_end = a_name then just (Mark sign.Semicolon)

-- `: name ;`
abbrev pub names_end : Phrase (Unit {0} × (Name × Unit {0}))
names_end = just (Mark sign.Colon) then type_end

-- a declaration among its signs
abbrev pub declaration_parts : Declaration → List Name × (Unit {0} × (Name × Unit {0}))
declaration_parts d = (d.names, (tt, (d.ty, tt)))

-- `names : name ;`, seen as a declaration
abbrev pub a_declaration : Phrase Declaration
a_declaration = seen declaration_parts (names then names_end)

-- VAR_INPUT, VAR_OUTPUT or VAR
abbrev pub a_part : Phrase Part
a_part = record { fits = λ _ _. Unit {0}; spell = λ p. Mark (part_sign p) ∷ []; goes_on = λ _. never }

-- whether a symbol is one of these words
abbrev pub is_part : Symbol → Bool
is_part t = is_mark sign.VarInput t || (is_mark sign.VarOutput t || is_mark sign.Var t)

-- any number of declarations
abbrev pub declarations : Phrase (List Declaration)
declarations = many a_declaration is_named

-- declarations and END_VAR
abbrev pub section_end : Phrase (List Declaration × Unit {0})
section_end = declarations then just (Mark sign.EndVar)

-- a section among its words
abbrev pub section_parts : Section → Part × (List Declaration × Unit {0})
section_parts s = (s.part, (s.declarations, tt))

-- a part, declarations and END_VAR, seen as a section
abbrev pub a_section : Phrase Section
a_section = seen section_parts (a_part then section_end)

-- any number of sections
abbrev pub sections : Phrase (List Section)
sections = many a_section is_part

-- any number of statements
abbrev pub statements : Phrase (List StatementTree)
statements = many a_statement is_named

-- `head name sections statements foot`
abbrev pub source_foot : Heads → Phrase (List StatementTree × Unit {0})
source_foot h = statements then just (Mark (foot_sign h))

-- sections, statements and the word that ends the source
abbrev pub source_body : Heads → Phrase (List Section × (List StatementTree × Unit {0}))
source_body h = sections then source_foot h

-- a name and what follows it
abbrev pub source_name : Heads → Phrase (Name × (List Section × (List StatementTree × Unit {0})))
source_name h = a_name then source_body h

-- a source among its words
abbrev pub source_parts : SourceTree → Unit {0} × (Name × (List Section × (List StatementTree × Unit {0})))
source_parts s = (tt, (s.name, (s.sections, (s.statements, tt))))

-- a source between its two words
abbrev pub a_source : Heads → Phrase SourceTree
a_source h = seen source_parts (just (Mark (head_sign h)) then source_name h)

-- a source and the end of the text
abbrev pub a_text : Heads → Phrase (SourceTree × Unit {0})
a_text h = a_source h then finish
