-- The text of a body under other names: each name becomes another but a pin's name in a call or after a dot.
use Rattle.std.specs.Prelude.{map}
use Rattle.ps_parser.specs.declared.name.Name.{Name}
use Rattle.ps_parser.specs.declared.statement.Target.{Target}
use Rattle.ps_parser.specs.declared.statement.Target.TheVariants as target
use Rattle.ps_parser.specs.Tree.{FactorTree, Signal, Pin, Literal, Time, Group, ProductTree, no_factor, factor, SumTree}
use Rattle.ps_parser.specs.Tree.{no_product, product, ArgumentTree, StatementTree, Assign, Call}

-- What a name becomes.
module _ (rename : Name → Name) where
  abbrev mutual
    -- a factor under other names
    pub factor_renamed : FactorTree → FactorTree
    factor_renamed (Signal n) = Signal (rename n)
    factor_renamed (Pin n q) = Pin (rename n) q
    factor_renamed (Literal b p) = Literal b p
    factor_renamed (Time t p) = Time t p
    factor_renamed (Group s) = Group (sum_renamed s)

    -- a product under other names
    pub product_renamed : ProductTree → ProductTree
    product_renamed no_factor = no_factor
    product_renamed (factor f fs) = factor (factor_renamed f) (product_renamed fs)

    -- a sum under other names
    pub sum_renamed : SumTree → SumTree
    sum_renamed no_product = no_product
    sum_renamed (product p ps) = product (product_renamed p) (sum_renamed ps)

  -- a target under another name
  abbrev pub target_renamed : Target → Target
  target_renamed (target.Name n) = target.Name (rename n)
  target_renamed (target.Pin n q) = target.Pin (rename n) q

  -- an argument under other names, of which the pin keeps its name
  abbrev pub argument_renamed : ArgumentTree → ArgumentTree
  argument_renamed a = record { pin = a.pin; value = sum_renamed a.value }

  -- a statement under other names
  abbrev pub statement_renamed : StatementTree → StatementTree
  statement_renamed (Assign t s) = Assign (target_renamed t) (sum_renamed s)
  statement_renamed (Call n args) = Call (rename n) (map argument_renamed args)
