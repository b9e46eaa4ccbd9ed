-- The limits of an application, counted on its source.
use Rattle.std.specs.Prelude.{ℕ, Bool, ◌+◌, ◌&&◌, nat_le, List, count_by, sum_by}
use Rattle.ps_base.specs.declared.limits.TheConstants.{MOST_INPUTS, MOST_OUTPUTS, MOST_SIGNALS, MOST_INSTANCES}
use Rattle.ps_base.specs.declared.limits.TheConstants.{MOST_NODES}
use Rattle.ps_model.specs.Blocks.{output_count}
use Rattle.ps_parser.specs.Tree.{FactorTree, Signal, Pin, Literal, Time, Group, ProductTree, no_factor, factor, SumTree}
use Rattle.ps_parser.specs.Tree.{no_product, product, StatementTree, Assign, Call}
use Rattle.ps_names.specs.declared.entry.Entry.{Entry}
use Rattle.ps_names.specs.declared.entry.Sort.{Sort}
use Rattle.ps_names.specs.declared.entry.Sort.TheVariants.{Instance}
use Rattle.ps_names.specs.Names.{is_input, is_output, is_local, is_instance}

-- how many outputs a name brings, Ready and Error among them
abbrev pub outputs_of : Sort → ℕ
outputs_of (Instance kind) = output_count kind
outputs_of _ = 0

module _ (es : List Entry) where
  -- How many inputs are declared.
  abbrev pub inputs : ℕ
  inputs = count_by (λ e. is_input e.sort) es

  -- How many outputs.
  abbrev pub outputs : ℕ
  outputs = count_by (λ e. is_output e.sort) es

  -- How many locals.
  abbrev pub locals : ℕ
  locals = count_by (λ e. is_local e.sort) es

  -- How many instances.
  abbrev pub instances : ℕ
  instances = count_by (λ e. is_instance e.sort) es

  -- the signals, pin outputs among them
  abbrev pub signals : ℕ
  signals = inputs + outputs + locals + sum_by (λ e. outputs_of e.sort) es

-- Nodes of expressions: each name, each output of a pin, each AND of two or more factors and each OR of two or more
-- products. A literal is no node.
abbrev mutual
  -- Of a factor.
  pub factor_nodes : FactorTree → ℕ
  factor_nodes (Signal n) = 1
  factor_nodes (Pin n q) = 1
  factor_nodes (Literal b p) = 0
  factor_nodes (Time t p) = 0
  factor_nodes (Group s) = sum_nodes s

  -- Of a product: an AND where it has two factors or more.
  pub product_nodes : ProductTree → ℕ
  product_nodes no_factor = 0
  product_nodes (factor f no_factor) = factor_nodes f
  product_nodes (factor f fs) = 1 + (factor_nodes f + nodes_of_factors fs)

  -- Of its factors.
  pub nodes_of_factors : ProductTree → ℕ
  nodes_of_factors no_factor = 0
  nodes_of_factors (factor f fs) = factor_nodes f + nodes_of_factors fs

  -- Of a sum: an OR where it has two products or more.
  pub sum_nodes : SumTree → ℕ
  sum_nodes no_product = 0
  sum_nodes (product p no_product) = product_nodes p
  sum_nodes (product p ps) = 1 + (product_nodes p + nodes_of_products ps)

  -- Of its products.
  pub nodes_of_products : SumTree → ℕ
  nodes_of_products no_product = 0
  nodes_of_products (product p ps) = product_nodes p + nodes_of_products ps

-- Of what a statement assigns, or of all arguments of a call.
abbrev pub statement_nodes : StatementTree → ℕ
statement_nodes (Assign t s) = sum_nodes s
statement_nodes (Call n arguments) = sum_by (λ a. sum_nodes a.value) arguments

-- the limits hold of a program with these declarations and statements
abbrev pub is_within : List Entry → List StatementTree → Bool
is_within es ss =
    nat_le (inputs es) MOST_INPUTS && nat_le (outputs es) MOST_OUTPUTS && nat_le (instances es) MOST_INSTANCES
    && nat_le (signals es) MOST_SIGNALS && nat_le (sum_by statement_nodes ss) MOST_NODES
