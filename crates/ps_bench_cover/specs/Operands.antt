-- The operands of the ANDs and ORs of a source, as they are written.
use Rattle.std.specs.Prelude.{ℕ, List, [], ◌∷◌, ◌++◌, map, Option, Some, None}
use Rattle.std.specs.List.{find, flat_map}
use Rattle.ps_base.specs.LetterCase.{is_same_name}
use Rattle.ps_base.specs.declared.failing.Place.{Place}
use Rattle.ps_model.specs.Blocks.{Pin as PinRow, block}
use Rattle.ps_model.specs.declared.kind.Kind.{Kind}
use Rattle.ps_parser.specs.Tree.{FactorTree, Signal, Pin, Literal, Time, Group, ProductTree, no_factor, factor}
use Rattle.ps_parser.specs.Tree.{SumTree, no_product, product, factors, products, ArgumentTree, StatementTree}
use Rattle.ps_parser.specs.Tree.{Assign, Call}

-- what stands nowhere
abbrev pub nowhere : Place
nowhere = record { line = 0; column = 0 }

-- Where an operand stands: where its first name does, whatever brackets are before that.
abbrev mutual
  pub factor_place : FactorTree → Place
  factor_place (Signal n) = n.place
  factor_place (Pin n q) = n.place
  factor_place (Literal b p) = p
  factor_place (Time t p) = p
  factor_place (Group s) = sum_place s

  pub product_place : ProductTree → Place
  product_place no_factor = nowhere
  product_place (factor f fs) = factor_place f

  pub sum_place : SumTree → Place
  sum_place no_product = nowhere
  sum_place (product p ps) = product_place p

-- An operand as it is written: a factor of an AND, or a product of an OR.
pub data Operand : Type 0 where
  of_and : FactorTree → Operand
  of_or : ProductTree → Operand

-- its place
abbrev pub place_of : Operand → Place
place_of (of_and f) = factor_place f
place_of (of_or p) = product_place p

-- what is joined: two or more; what stands alone is joined by nothing
abbrev pub joined : {X : Type 0} → List X → List X
joined [] = []
joined (x ∷ []) = []
joined (x ∷ y ∷ zs) = x ∷ y ∷ zs

-- the operands of a product or of a sum itself
abbrev pub own_factors : ProductTree → List Operand
own_factors p = map of_and (joined (factors p))

-- the operands of a sum's own OR, if it has one
abbrev pub own_products : SumTree → List Operand
own_products s = map of_or (joined (products s))

-- the operands of each AND and OR within, each before those within it
abbrev mutual
  pub within_factor : FactorTree → List Operand
  within_factor (Signal n) = []
  within_factor (Pin n q) = []
  within_factor (Literal b p) = []
  within_factor (Time t p) = []
  within_factor (Group s) = own_products s ++ within_products s

  pub within_factors : ProductTree → List Operand
  within_factors no_factor = []
  within_factors (factor f fs) = within_factor f ++ within_factors fs

  pub within_products : SumTree → List Operand
  within_products no_product = []
  within_products (product p ps) = (own_factors p ++ within_factors p) ++ within_products ps

-- of a product, and of a value
abbrev pub product_operands : ProductTree → List Operand
product_operands p = own_factors p ++ within_factors p

-- the operands of a sum: its own, then those within it
abbrev pub sum_operands : SumTree → List Operand
sum_operands s = own_products s ++ within_products s

-- of what is given at a pin
abbrev pub given_operands : Option ArgumentTree → List Operand
given_operands None = []
given_operands (Some a) = sum_operands a.value

-- of what a call gives at the pin with this name
abbrev pub pin_operands : List ArgumentTree → (pin : List ℕ) → List Operand
pin_operands arguments pin = given_operands (find (λ a. is_same_name a.pin.text pin) arguments)

-- of a statement; the pins of a call of this kind in the order of its table
abbrev pub statement_operands : Kind → StatementTree → List Operand
statement_operands kind (Assign t s) = sum_operands s
statement_operands kind (Call n arguments) =
    flat_map (λ (p : PinRow). pin_operands arguments p.name) (block kind).inputs
