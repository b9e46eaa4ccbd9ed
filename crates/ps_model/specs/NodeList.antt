-- What an application keeps of its nodes: a list with an entry for each, in the order of the nodes.
use Rattle.std.specs.Prelude.{ℕ, List, [], ◌∷◌, ◌++◌, ◌+◌, length}
use Rattle.std.specs.List.{flat_map}
use Rattle.ps_model.specs.declared.node.Shape.{Shape}
use Rattle.ps_model.specs.declared.node.Shape.TheVariants.{Signal, And, Or}
use Rattle.ps_model.specs.declared.node.Node.{Node}
use Rattle.ps_model.specs.Formula.{Formula, Formulas, signal, all_of, any_of, no_operand, operand}
use Rattle.ps_model.specs.Action.{Actual, Action, wired, assigns, calls}
use Rattle.ps_model.specs.Network.{Network}
use Rattle.ps_model.specs.Nodes.{nodes}

-- a signal with its number, an AND or an OR
abbrev pub shape_of : Formula → Shape
shape_of (signal s) = Signal s
shape_of (all_of es) = And
shape_of (any_of es) = Or

-- what is listed of a node at this depth: its shape, how many nodes it has with all below it, and its depth
abbrev pub node_of : ℕ → Formula → Node
node_of depth e = record { shape = shape_of e; size = length (nodes e); depth = depth }

-- what is listed of a value around which this many AND and OR stand: its root, then each operand in order
abbrev mutual
  pub listed_at : ℕ → Formula → List Node
  listed_at depth (signal s) = node_of depth (signal s) ∷ []
  listed_at depth (all_of es) = node_of depth (all_of es) ∷ listed_below (depth + 1) es
  listed_at depth (any_of es) = node_of depth (any_of es) ∷ listed_below (depth + 1) es

  -- what is listed of operands, one after another
  pub listed_below : ℕ → Formulas → List Node
  listed_below depth no_operand = []
  listed_below depth (operand e es) = listed_at depth e ++ listed_below depth es

-- what is listed of a pin: the root of a value has depth 0
abbrev pub listed_at_pin : Actual → List Node
listed_at_pin (wired e) = listed_at 0 e
listed_at_pin _ = []

-- what is listed of a step
abbrev pub listed_of_step : Action → List Node
listed_of_step (assigns t e) = listed_at 0 e
listed_of_step (calls i args) = flat_map listed_at_pin args

-- what is listed of these steps, in order
abbrev pub listed_of_steps : List Action → List Node
listed_of_steps steps = flat_map listed_of_step steps

-- the node list of an application: entry n is what is kept of its node n
abbrev pub node_list : Network → List Node
node_list net = listed_of_steps net.steps
