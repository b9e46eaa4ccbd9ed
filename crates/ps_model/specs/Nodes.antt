-- The nodes of an application: in the order of steps, within a step in the order of pins, and within a value each node
-- before its operands, which stand in order. A literal and a free pin have none.
use Rattle.std.specs.Prelude.{ℕ, List, [], ◌∷◌, ◌++◌, ◌+◌, length}
use Rattle.std.specs.List.{flat_map}
use Rattle.ps_model.specs.Formula.{Formula, Formulas, signal, all_of, any_of, no_operand, operand}
use Rattle.ps_model.specs.Action.{Actual, Action, wired, assigns, calls}
use Rattle.ps_model.specs.Network.{Network}

-- the nodes of a value: its root, then those of each operand; a node is the formula that stands there
abbrev mutual
  pub nodes : Formula → List Formula
  nodes (signal s) = signal s ∷ []
  nodes (all_of es) = all_of es ∷ nodes_below es
  nodes (any_of es) = any_of es ∷ nodes_below es

  -- the nodes of operands, one after another
  pub nodes_below : Formulas → List Formula
  nodes_below no_operand = []
  nodes_below (operand e es) = nodes e ++ nodes_below es

-- the nodes of what stands at a pin
abbrev pub nodes_at_pin : Actual → List Formula
nodes_at_pin (wired e) = nodes e
nodes_at_pin _ = []

-- the nodes of a step
abbrev pub nodes_of_step : Action → List Formula
nodes_of_step (assigns t e) = nodes e
nodes_of_step (calls i args) = flat_map nodes_at_pin args

-- the nodes of these steps
abbrev pub nodes_of_steps : List Action → List Formula
nodes_of_steps steps = flat_map nodes_of_step steps

-- node n of an application is element n of this list
abbrev pub app_nodes : Network → List Formula
app_nodes net = nodes_of_steps net.steps

-- the numbers of operands, the first of which is node n
abbrev pub operand_places : ℕ → Formulas → List ℕ
operand_places n no_operand = []
operand_places n (operand e es) = n ∷ operand_places (n + length (nodes e)) es
