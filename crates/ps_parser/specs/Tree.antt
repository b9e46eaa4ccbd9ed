-- The source tree as contracts see it: values that are compared item by item.
use Rattle.std.specs.Prelude.{ℕ, Bool, List, [], ◌∷◌}
use Rattle.ps_base.specs.declared.failing.Place.{Place}
use Rattle.ps_parser.specs.declared.name.Name.{Name}
use Rattle.ps_parser.specs.declared.section.Section.{Section}
use Rattle.ps_parser.specs.declared.statement.Target.{Target}

-- A factor; factors joined by AND; products joined by OR.
mutual
  -- a name, an output of an instance, a Boolean literal, a TIME literal in ms, or a sum in brackets
  pub data FactorTree : Type 0 where
    Signal : Name → FactorTree
    Pin : Name → Name → FactorTree
    Literal : Bool → Place → FactorTree
    Time : ℕ → Place → FactorTree
    Group : SumTree → FactorTree

  -- factors in order
  pub data ProductTree : Type 0 where
    no_factor : ProductTree
    factor : FactorTree → ProductTree → ProductTree

  -- products in order
  pub data SumTree : Type 0 where
    no_product : SumTree
    product : ProductTree → SumTree → SumTree

-- A pin with its value.
pub record ArgumentTree : Type 0 where
  pub pin : Name
  pub value : SumTree

-- An assignment of a value, or a call of an instance.
pub data StatementTree : Type 0 where
  Assign : Target → SumTree → StatementTree
  Call : Name → List ArgumentTree → StatementTree

-- A program or a function block: its name, its sections and its statements.
pub record SourceTree : Type 0 where
  pub name : Name
  pub sections : List Section
  pub statements : List StatementTree

-- what stands in a product
abbrev pub factors : ProductTree → List FactorTree
factors no_factor = []
factors (factor f fs) = f ∷ factors fs

-- what stands in a sum
abbrev pub products : SumTree → List ProductTree
products no_product = []
products (product p ps) = p ∷ products ps

-- the product of these factors
abbrev pub product_of : List FactorTree → ProductTree
product_of [] = no_factor
product_of (f ∷ fs) = factor f (product_of fs)

-- the sum of these products
abbrev pub sum_of : List ProductTree → SumTree
sum_of [] = no_product
sum_of (p ∷ ps) = product p (sum_of ps)
