-- How a source tree is spelt: each rule of the grammar lists its parts in order, and a group lists its two brackets.
use Rattle.std.specs.Prelude.{List, [], ◌∷◌, ◌++◌}
use Rattle.std.specs.List.{flat_map}
use Rattle.ps_parser.specs.declared.name.Name.{Name}
use Rattle.ps_parser.specs.declared.section.Part.{Part}
use Rattle.ps_parser.specs.declared.section.Part.TheVariants.{Input, Output, Local}
use Rattle.ps_parser.specs.declared.section.Declaration.{Declaration}
use Rattle.ps_parser.specs.declared.section.Section.{Section}
use Rattle.ps_parser.specs.declared.statement.Target.{Target}
use Rattle.ps_parser.specs.declared.statement.Target.TheVariants as target
use Rattle.ps_parser.specs.declared.sign.Sign.{Sign}
use Rattle.ps_parser.specs.declared.sign.Sign.TheVariants as sign
use Rattle.ps_parser.specs.declared.heads.Heads.{Heads}
use Rattle.ps_parser.specs.declared.heads.Heads.TheVariants as heads
use Rattle.ps_parser.specs.Symbol.{Symbol, Mark, Named, Truth, Duration}
use Rattle.ps_parser.specs.Tree.{FactorTree, Signal, Pin, Literal, Time, Group, ProductTree, no_factor, factor, SumTree}
use Rattle.ps_parser.specs.Tree.{no_product, product, ArgumentTree, StatementTree, Assign, Call, SourceTree}

-- the spellings in order, with the sign between each two
abbrev pub joined_spell : {X : Type 0} → Symbol → (X → List Symbol) → List X → List Symbol
joined_spell t spell [] = []
joined_spell t spell (x ∷ xs) = spell x ++ flat_map (λ y. t ∷ spell y) xs

abbrev mutual
  -- a factor, of which a group lists its two brackets
  pub factor_spelt : FactorTree → List Symbol
  factor_spelt (Signal n) = Named n ∷ []
  factor_spelt (Pin n q) = Named n ∷ Mark sign.Dot ∷ Named q ∷ []
  factor_spelt (Literal b p) = Truth b p ∷ []
  factor_spelt (Time t p) = Duration t p ∷ []
  factor_spelt (Group s) = Mark sign.LeftBracket ∷ (sum_spelt s ++ Mark sign.RightBracket ∷ [])

  -- factors, with an AND between each two
  pub product_spelt : ProductTree → List Symbol
  product_spelt no_factor = []
  product_spelt (factor f fs) = factor_spelt f ++ more_factors fs

  -- the factors after the first, each after an AND
  pub more_factors : ProductTree → List Symbol
  more_factors no_factor = []
  more_factors (factor f fs) = Mark sign.And ∷ (factor_spelt f ++ more_factors fs)

  -- products, with an OR between each two
  pub sum_spelt : SumTree → List Symbol
  sum_spelt no_product = []
  sum_spelt (product p ps) = product_spelt p ++ more_products ps

  -- the products after the first, each after an OR
  pub more_products : SumTree → List Symbol
  more_products no_product = []
  more_products (product p ps) = Mark sign.Or ∷ (product_spelt p ++ more_products ps)

-- a name alone
abbrev pub name_spelt : Name → List Symbol
name_spelt n = Named n ∷ []

-- a pin, `:=` and its value
abbrev pub argument_spelt : ArgumentTree → List Symbol
argument_spelt a = Named a.pin ∷ Mark sign.Assign ∷ sum_spelt a.value

-- a name, or a name, a dot and a name
abbrev pub target_spelt : Target → List Symbol
target_spelt (target.Name n) = Named n ∷ []
target_spelt (target.Pin n q) = Named n ∷ Mark sign.Dot ∷ Named q ∷ []

-- a target, `:=`, a sum and `;`; or a name, its arguments in brackets with a comma between each two, and `;`
abbrev pub statement_spelt : StatementTree → List Symbol
statement_spelt (Assign t s) = target_spelt t ++ (Mark sign.Assign ∷ (sum_spelt s ++ Mark sign.Semicolon ∷ []))
statement_spelt (Call n args) =
    Named n ∷ Mark sign.LeftBracket ∷ (joined_spell (Mark sign.Comma) argument_spelt args ++ Mark sign.RightBracket ∷ Mark sign.Semicolon ∷ [])

-- names, a colon and their type
abbrev pub declaration_spelt : Declaration → List Symbol
declaration_spelt d = joined_spell (Mark sign.Comma) name_spelt d.names ++ (Mark sign.Colon ∷ Named d.ty ∷ Mark sign.Semicolon ∷ [])

-- the word that begins a section
abbrev pub part_sign : Part → Sign
part_sign Input = sign.VarInput
part_sign Output = sign.VarOutput
part_sign Local = sign.Var

-- the word of its part, its declarations, and END_VAR
abbrev pub section_spelt : Section → List Symbol
section_spelt s = Mark (part_sign s.part) ∷ (flat_map declaration_spelt s.declarations ++ Mark sign.EndVar ∷ [])

-- the word that begins a source
abbrev pub head_sign : Heads → Sign
head_sign heads.Program = sign.Program
head_sign heads.Block = sign.FunctionBlock

-- the word that ends a source
abbrev pub foot_sign : Heads → Sign
foot_sign heads.Program = sign.EndProgram
foot_sign heads.Block = sign.EndFunctionBlock

-- a source between these two words
abbrev pub spelt : Heads → SourceTree → List Symbol
spelt h s =
    Mark (head_sign h) ∷ Named s.name ∷ (flat_map section_spelt s.sections ++ (flat_map statement_spelt s.statements ++ Mark (foot_sign h) ∷ []))
