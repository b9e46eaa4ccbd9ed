-- Which source trees are whole ones: what is a name in them, how large their TIME literals are, which of their
-- lists are not empty, and how deep their groups are nested.
use Rattle.std.specs.Prelude.{ℕ, suc, ◌≤◌, max, List, [], ◌∷◌}
use Rattle.std.specs.List.{AllByRecursion}
use Rattle.ps_base.specs.declared.limits.TheConstants.{MOST_GROUPS, LARGEST_TIME}
use Rattle.ps_parser.specs.Names.{IsDottedName}
use Rattle.ps_parser.specs.declared.name.Name.{Name}
use Rattle.ps_parser.specs.declared.section.Declaration.{Declaration}
use Rattle.ps_parser.specs.declared.section.Section.{Section}
use Rattle.ps_parser.specs.declared.statement.Target.{Target}
use Rattle.ps_parser.specs.declared.statement.Target.TheVariants as target
use Rattle.ps_parser.specs.Tree.{FactorTree, Signal, Pin, Literal, Time, Group, ProductTree, no_factor, factor, SumTree}
use Rattle.ps_parser.specs.Tree.{no_product, product, ArgumentTree, StatementTree, Assign, Call, SourceTree}

-- Each name is named as asked for, and each TIME literal has its limit. No product, no sum and no declaration is empty.
module _ (IsNamed : List ℕ → Type 0) where
  abbrev mutual
    -- the names of a factor, its time, and what its brackets hold
    pub FactorWhole : FactorTree → Type 0
    FactorWhole (Signal n) = IsNamed n.text
    FactorWhole (Pin n q) = IsNamed n.text × IsNamed q.text
    FactorWhole (Literal b p) = Unit {0}
    FactorWhole (Time t p) = t ≤ LARGEST_TIME
    FactorWhole (Group s) = SumWhole s

    -- one factor at least
    pub ProductWhole : ProductTree → Type 0
    ProductWhole no_factor = ⊥
    ProductWhole (factor f fs) = FactorWhole f × MoreFactorsWhole fs

    -- the factors after the first
    pub MoreFactorsWhole : ProductTree → Type 0
    MoreFactorsWhole no_factor = Unit {0}
    MoreFactorsWhole (factor f fs) = FactorWhole f × MoreFactorsWhole fs

    -- one product at least
    pub SumWhole : SumTree → Type 0
    SumWhole no_product = ⊥
    SumWhole (product p ps) = ProductWhole p × MoreProductsWhole ps

    -- the products after the first
    pub MoreProductsWhole : SumTree → Type 0
    MoreProductsWhole no_product = Unit {0}
    MoreProductsWhole (product p ps) = ProductWhole p × MoreProductsWhole ps

  -- the names of a target
  abbrev pub TargetWhole : Target → Type 0
  TargetWhole (target.Name n) = IsNamed n.text
  TargetWhole (target.Pin n q) = IsNamed n.text × IsNamed q.text

  -- the name of a pin, and its value
  abbrev pub ArgumentWhole : ArgumentTree → Type 0
  ArgumentWhole a = IsNamed a.pin.text × SumWhole a.value

  -- all that a statement names and holds
  abbrev pub StatementWhole : StatementTree → Type 0
  StatementWhole (Assign t s) = TargetWhole t × SumWhole s
  StatementWhole (Call n args) = IsNamed n.text × AllByRecursion ArgumentWhole args

  -- one name at least
  abbrev pub NamesWhole : List Name → Type 0
  NamesWhole [] = ⊥
  NamesWhole (n ∷ ns) = IsNamed n.text × AllByRecursion (λ m. IsNamed m.text) ns

  -- one name at least, and the name of their type
  abbrev pub DeclarationWhole : Declaration → Type 0
  DeclarationWhole d = NamesWhole d.names × IsNamed d.ty.text

  -- each declaration of a section
  abbrev pub SectionWhole : Section → Type 0
  SectionWhole s = AllByRecursion DeclarationWhole s.declarations

  -- the name, each section and each statement of a source
  abbrev pub IsWhole : SourceTree → Type 0
  IsWhole s = IsNamed s.name.text × AllByRecursion SectionWhole s.sections × AllByRecursion StatementWhole s.statements

-- how many groups stand around one factor, at most
abbrev mutual
  pub factor_nesting : FactorTree → ℕ
  factor_nesting (Group s) = suc (sum_nesting s)
  factor_nesting _ = 0

  -- the most of any factor
  pub product_nesting : ProductTree → ℕ
  product_nesting no_factor = 0
  product_nesting (factor f fs) = max (factor_nesting f) (product_nesting fs)

  -- the most of any product
  pub sum_nesting : SumTree → ℕ
  sum_nesting no_product = 0
  sum_nesting (product p ps) = max (product_nesting p) (sum_nesting ps)

-- the most of any argument
abbrev pub arguments_nesting : List ArgumentTree → ℕ
arguments_nesting [] = 0
arguments_nesting (a ∷ rest) = max (sum_nesting a.value) (arguments_nesting rest)

-- that of a statement's value, or the most of its arguments
abbrev pub statement_nesting : StatementTree → ℕ
statement_nesting (Assign t s) = sum_nesting s
statement_nesting (Call n args) = arguments_nesting args

-- the most of any statement
abbrev pub statements_nesting : List StatementTree → ℕ
statements_nesting [] = 0
statements_nesting (s ∷ rest) = max (statement_nesting s) (statements_nesting rest)

-- the largest number of groups around one factor of a source
abbrev pub nesting : SourceTree → ℕ
nesting s = statements_nesting s.statements

-- What every source of the program keeps.
pub record IsSource (s : SourceTree) : Type 0 where
  pub whole : IsWhole IsDottedName s
  pub shallow : nesting s ≤ MOST_GROUPS
