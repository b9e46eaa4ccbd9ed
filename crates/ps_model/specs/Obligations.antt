-- The values that must be safe, each with the number of its root.
use Rattle.std.specs.Prelude.{ℕ, List, [], ◌∷◌, ◌++◌, ◌+◌, length, if◌then◌else◌}
use Rattle.ps_model.specs.declared.kind.Ty.{Ty}
use Rattle.ps_model.specs.declared.kind.Ty.TheVariants.{Safe}
use Rattle.ps_model.specs.Formula.{Formula}
use Rattle.ps_model.specs.Action.{Actual, Action, wired, assigns, calls}
use Rattle.ps_model.specs.Blocks.{Pin, block}
use Rattle.ps_model.specs.Network.{Network, kind_at}
use Rattle.ps_model.specs.Typing.{is_safe_signal}
use Rattle.ps_model.specs.Nodes.{nodes_at_pin, nodes_of_step}

-- a value that must be safe, and the number of its root
pub record Obligation : Type 0 where
  pub node : ℕ
  pub value : Formula

-- what stands at a pin of this type, whose first node is n
abbrev pub obligation_at : ℕ → Ty → Actual → List Obligation
obligation_at n Safe (wired e) = record { node = n; value = e } ∷ []
obligation_at n _ _ = []

-- those at the pins of a call, whose first node is n
abbrev pub obligations_at_pins : ℕ → List Pin → List Actual → List Obligation
obligations_at_pins n [] args = []
obligations_at_pins n (p ∷ ps) [] = []
obligations_at_pins n (p ∷ ps) (a ∷ args) = obligation_at n p.ty a ++ obligations_at_pins (n + length (nodes_at_pin a)) ps args

module _ (net : Network) where
  -- those of a step, whose first node is n
  abbrev pub obligations_of_step : ℕ → Action → List Obligation
  obligations_of_step n (assigns t e) = if is_safe_signal net t then record { node = n; value = e } ∷ [] else []
  obligations_of_step n (calls i args) = obligations_at_pins n (block (kind_at net i)).inputs args

  -- those of these steps, the first node of which is n
  abbrev pub obligations_from : ℕ → List Action → List Obligation
  obligations_from n [] = []
  obligations_from n (a ∷ steps) = obligations_of_step n a ++ obligations_from (n + length (nodes_of_step a)) steps

-- all of an application, in the order of steps and pins
abbrev pub obligations : Network → List Obligation
obligations net = obligations_from net 0 net.steps
