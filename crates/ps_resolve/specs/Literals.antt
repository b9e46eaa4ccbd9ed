-- Values that are one literal.
use Rattle.std.specs.Prelude.{Option, None, Some}
use Rattle.ps_parser.specs.Tree as tree
use Rattle.ps_parser.specs.Tree.{FactorTree, ProductTree, no_factor, factor, SumTree, no_product, product}
use Rattle.ps_resolve.specs.declared.literal.Literal.{Literal}
use Rattle.ps_resolve.specs.declared.literal.Literal.TheVariants as literal

-- the literal that a factor, a product or a whole value is
abbrev pub literal_in_factor : FactorTree → Option Literal
literal_in_factor (tree.Literal b p) = Some (literal.Bool b)
literal_in_factor (tree.Time t p) = Some (literal.Time t)
literal_in_factor _ = None

-- The literal that a product is.
abbrev pub literal_in_product : ProductTree → Option Literal
literal_in_product (factor f no_factor) = literal_in_factor f
literal_in_product _ = None

-- The literal that a whole value is.
abbrev pub literal_of : SumTree → Option Literal
literal_of (product p no_product) = literal_in_product p
literal_of _ = None
