-- The application that a source stands for.
use Rattle.std.specs.Prelude.{◌≡◌, ℕ, ◌+◌, ◌-◌, List, [], Option, None, Some, map, filter, take, length, count_by}
use Rattle.std.specs.Prelude.{sum_by, unwrap_or}
use Rattle.std.specs.List.{find}
use Rattle.ps_model.specs.declared.kind.Kind.{Kind}
use Rattle.ps_model.specs.declared.kind.Kind.TheVariants.{Equivalent}
use Rattle.ps_model.specs.declared.kind.Ty.{Ty}
use Rattle.ps_model.specs.declared.kind.Ty.TheVariants as ty
use Rattle.ps_model.specs.declared.named.Signal as model_signal
use Rattle.ps_model.specs.declared.named.Instance as model_instance
use Rattle.ps_model.specs.Blocks.{block}
use Rattle.ps_model.specs.Formula.{Formula, Formulas, signal, all_of, any_of, no_operand, operand}
use Rattle.ps_model.specs.Action.{Actual, Action, free, literal, time, wired, assigns, calls}
use Rattle.ps_model.specs.Network.{Network}
use Rattle.ps_parser.specs.declared.name.Name.{Name}
use Rattle.ps_parser.specs.declared.statement.Target.{Target}
use Rattle.ps_parser.specs.declared.statement.Target.TheVariants.{Name as Whole, Pin as OfPin}
use Rattle.ps_parser.specs.Tree.{FactorTree, Signal, Pin, Literal, Time, Group, ProductTree, no_factor, factor, SumTree}
use Rattle.ps_parser.specs.Tree.{no_product, product, ArgumentTree, StatementTree, Assign, Call, SourceTree}
use Rattle.ps_names.specs.declared.entry.Entry.{Entry}
use Rattle.ps_names.specs.declared.entry.Sort.{Sort}
use Rattle.ps_names.specs.declared.entry.Sort.TheVariants.{InputSignal, OutputSignal, LocalSignal, Instance, Nothing}
use Rattle.ps_base.specs.LetterCase.{is_same_name}
use Rattle.ps_names.specs.Names.{entries, is_input, is_output, is_local, is_instance, declared_at, sort_at, sort_of}
use Rattle.ps_names.specs.Limits.{inputs, outputs, locals, outputs_of}
use Rattle.ps_names.specs.Rules.{pin_at, offences}

-- ---- numbers

-- the type of a signal, and the kind of an instance
abbrev pub ty_of : Sort → Ty
ty_of (InputSignal t) = t
ty_of (OutputSignal t) = t
ty_of (LocalSignal t) = t
ty_of _ = ty.Bool

-- The kind of an instance; where it is none, any.
abbrev pub kind_of : Sort → Kind
kind_of (Instance kind) = kind
kind_of _ = Equivalent

-- the sort of a name that is declared
abbrev pub sort_or : Option Sort → Sort
sort_or s = unwrap_or s Nothing

-- the place of an output among those of its kind: outputs stand after the inputs in the table of pins
abbrev pub output_at : Kind → Name → ℕ
output_at kind q = unwrap_or (pin_at kind q) 0 - length (block kind).inputs

module _ (es : List Entry) where
  -- The number of a declared name: how many of its sort stand before it, inputs before outputs before locals;
  -- an instance's, how many instances.
  abbrev pub number_as : Sort → ℕ → ℕ
  number_as (InputSignal t) k = inputs (take k es)
  number_as (OutputSignal t) k = inputs es + outputs (take k es)
  number_as (LocalSignal t) k = inputs es + outputs es + locals (take k es)
  number_as (Instance kind) k = count_by (λ e. is_instance e.sort) (take k es)
  number_as Nothing k = 0

  -- of the name that is declared at a place
  abbrev pub number_at : Option ℕ → ℕ
  number_at None = 0
  number_at (Some k) = number_as (sort_or (sort_at es (Some k))) k

  -- The number of a name, by its first declaration.
  abbrev pub number : Name → ℕ
  number n = number_at (declared_at es n)

  -- the number of the first output of an instance: after the declared signals and the outputs of the instances before
  -- it
  abbrev pub outputs_before : ℕ → ℕ
  outputs_before k = inputs es + outputs es + locals es + sum_by (λ e. outputs_of e.sort) (take k es)

  -- the number of an output of what is declared at a place
  abbrev pub pin_number_as : Option Sort → ℕ → Name → ℕ
  pin_number_as (Some (Instance kind)) k q = outputs_before k + output_at kind q
  pin_number_as _ k q = 0

  -- The number of an output of what is declared at a place; where nothing is, 0.
  abbrev pub pin_number_at : Option ℕ → Name → ℕ
  pin_number_at None q = 0
  pin_number_at (Some k) q = pin_number_as (sort_at es (Some k)) k q

  -- the number of an instance's output
  abbrev pub pin_number : Name → Name → ℕ
  pin_number n q = pin_number_at (declared_at es n) q

-- ---- expressions

-- operands joined: one operand is itself
abbrev pub all_joined : Formulas → Formula
all_joined (operand e no_operand) = e
all_joined fs = all_of fs

-- The OR of these operands; one operand is itself.
abbrev pub any_joined : Formulas → Formula
any_joined (operand e no_operand) = e
any_joined fs = any_of fs

module _ (es : List Entry) where
  -- A literal is no expression: a source that stands for an application has none here.
  abbrev mutual
    -- Of a factor.
    pub factor_formula : FactorTree → Formula
    factor_formula (Signal n) = signal (number es n)
    factor_formula (Pin n q) = signal (pin_number es n q)
    factor_formula (Literal b p) = all_of no_operand
    factor_formula (Time t p) = all_of no_operand
    factor_formula (Group s) = any_joined (product_formulas s)

    -- Of each factor of a product.
    pub factor_formulas : ProductTree → Formulas
    factor_formulas no_factor = no_operand
    factor_formulas (factor f fs) = operand (factor_formula f) (factor_formulas fs)

    -- Of each product of a sum.
    pub product_formulas : SumTree → Formulas
    product_formulas no_product = no_operand
    product_formulas (product p ps) = operand (all_joined (factor_formulas p)) (product_formulas ps)

  -- The expression that a product stands for.
  abbrev pub product_formula : ProductTree → Formula
  product_formula p = all_joined (factor_formulas p)

  -- The expression that a sum stands for.
  abbrev pub sum_formula : SumTree → Formula
  sum_formula s = any_joined (product_formulas s)

  -- ---- steps

  -- what stands at a pin that is given this value
  abbrev pub actual_of : SumTree → Actual
  actual_of (product (factor (Literal b p) no_factor) no_product) = literal b
  actual_of (product (factor (Time t p) no_factor) no_product) = time t
  actual_of s = wired (sum_formula s)

  -- What stands at a pin that has this argument; without one the pin is free.
  abbrev pub given : Option ArgumentTree → Actual
  given None = free
  given (Some a) = actual_of a.value

  -- what stands at the pin with this name
  abbrev pub actual_at : List ArgumentTree → List ℕ → Actual
  actual_at arguments pin = given (find (λ a. is_same_name a.pin.text pin) arguments)

  -- the arguments of a call, one for each input pin of the kind, in the order of its table
  abbrev pub actuals : Kind → List ArgumentTree → List Actual
  actuals kind arguments = map (λ p. actual_at arguments p.name) (block kind).inputs

  -- The number of the signal that is assigned.
  abbrev pub target_number : Target → ℕ
  target_number (Whole n) = number es n
  target_number (OfPin n q) = pin_number es n q

  -- The step that a statement stands for.
  abbrev pub action : StatementTree → Action
  action (Assign t s) = assigns (target_number t) (sum_formula s)
  action (Call n arguments) = calls (number es n) (actuals (kind_of (sort_or (sort_of es n))) arguments)

-- ---- the application

-- The signal that a declared name is.
abbrev pub signal_named : Entry → model_signal.Signal
signal_named e = record { name = e.name.text; ty = ty_of e.sort }

-- The instance that a declared name is.
abbrev pub instance_named : Entry → model_instance.Instance
instance_named e = record { name = e.name.text; kind = kind_of e.sort }

-- the application with this name, these declarations and these statements
abbrev pub network_of : List ℕ → List Entry → List StatementTree → Network
network_of name es ss = record {
  name = name;
  inputs = map signal_named (filter (λ e. is_input e.sort) es);
  outputs = map signal_named (filter (λ e. is_output e.sort) es);
  locals = map signal_named (filter (λ e. is_local e.sort) es);
  instances = map instance_named (filter (λ e. is_instance e.sort) es);
  steps = map (action es) ss;
}

-- The application of a source.
abbrev pub network : SourceTree → Network
network p = network_of p.name.text (entries p) p.statements

-- The source breaks no rule, and the application is that of the source.
pub record Stands (p : SourceTree) (net : Network) : Type 0 where
  pub unbroken : offences p ≡ []
  pub is : net ≡ network p
