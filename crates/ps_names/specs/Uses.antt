-- How statements use names.
use Rattle.std.specs.Prelude.{List, [], ◌∷◌, ◌++◌, map}
use Rattle.std.specs.List.{flat_map}
use Rattle.ps_base.specs.declared.failing.Place.{Place}
use Rattle.ps_parser.specs.declared.name.Name.{Name}
use Rattle.ps_parser.specs.declared.statement.Target.{Target}
use Rattle.ps_parser.specs.declared.statement.Target.TheVariants.{Name as Whole, Pin as OfPin}
use Rattle.ps_parser.specs.Tree.{FactorTree, Signal, Pin, Literal, Time, Group, ProductTree, no_factor, factor, SumTree}
use Rattle.ps_parser.specs.Tree.{no_product, product, ArgumentTree, StatementTree, Assign, Call}

-- A name or a pin's output read, a name or a pin assigned, an instance called, a pin given an argument in a call,
-- and a literal that is not the whole argument of a pin.
pub data Use : Type 0 where
  reads : Name → Use
  reads_pin : Name → Name → Use
  drives : Name → Use
  drives_pin : Name → Name → Use
  runs : Name → Use
  gives : Name → Name → Use
  strays : Place → Use

abbrev mutual
  -- Of a factor, in order.
  pub factor_uses : FactorTree → List Use
  factor_uses (Signal n) = reads n ∷ []
  factor_uses (Pin n q) = reads_pin n q ∷ []
  factor_uses (Literal b p) = strays p ∷ []
  factor_uses (Time t p) = strays p ∷ []
  factor_uses (Group s) = sum_uses s

  -- Of a product.
  pub product_uses : ProductTree → List Use
  product_uses no_factor = []
  product_uses (factor f fs) = factor_uses f ++ product_uses fs

  -- Of a sum.
  pub sum_uses : SumTree → List Use
  sum_uses no_product = []
  sum_uses (product p ps) = product_uses p ++ sum_uses ps

-- the value of an argument: a literal alone is the whole argument of its pin
abbrev pub value_uses : SumTree → List Use
value_uses (product (factor (Literal b p) no_factor) no_product) = []
value_uses (product (factor (Time t p) no_factor) no_product) = []
value_uses s = sum_uses s

-- Of an argument in a call of this name.
abbrev pub argument_uses : Name → ArgumentTree → List Use
argument_uses n a = gives n a.pin ∷ value_uses a.value

-- Of a target.
abbrev pub target_use : Target → Use
target_use (Whole n) = drives n
target_use (OfPin n q) = drives_pin n q

-- Of a statement: its target or called name, and then those of its values.
abbrev pub statement_uses : StatementTree → List Use
statement_uses (Assign t s) = target_use t ∷ sum_uses s
statement_uses (Call n arguments) = runs n ∷ flat_map (argument_uses n) arguments

-- the names that a statement assigns, the names that it calls, and the pins that its call names
abbrev pub assigned : StatementTree → List Name
assigned (Assign (Whole n) s) = n ∷ []
assigned _ = []

-- The name that a statement calls.
abbrev pub called : StatementTree → List Name
called (Call n arguments) = n ∷ []
called _ = []

-- The pins that a call names, in order.
abbrev pub named_pins : StatementTree → List Name
named_pins (Call n arguments) = map (λ a. a.pin) arguments
named_pins _ = []

-- the names that are read in values
abbrev pub read : Use → List Name
read (reads n) = n ∷ []
read _ = []

-- The names that these statements read in values.
abbrev pub read_names : List StatementTree → List Name
read_names ss = flat_map read (flat_map statement_uses ss)
