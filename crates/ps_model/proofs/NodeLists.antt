-- The node list has an entry for each node, and at each node's place its own.
use Rattle.std.proofs.Common.{◌≡◌, ℕ, suc, zero, ◌+◌, List, [], ◌∷◌, ◌++◌, length, Some, ap, subst, refl, get_or}
use Rattle.std.specs.Prelude.{slice_get}
use Rattle.std.specs.List.{flat_map}
use Rattle.ps_model.specs.declared.node.Node.{Node}
use Rattle.ps_model.specs.Formula.{Formula, Formulas, signal, all_of, any_of, no_operand, operand}
use Rattle.ps_model.specs.Action.{Action, Actual, free, literal, time, wired, assigns, calls}
use Rattle.ps_model.specs.Network.{Network}
use Rattle.ps_model.specs.Nodes.{nodes, nodes_below, nodes_at_pin, nodes_of_step, app_nodes}
use Rattle.ps_model.specs.NodeList.{node_of, listed_at, listed_below, listed_at_pin, listed_of_step, node_list}

-- each entry is that of the node at its place, at some depth
abbrev pub AreListed : List Node → List Formula → Type 0
AreListed [] [] = Unit {0}
AreListed [] (e ∷ es) = ⊥
AreListed (r ∷ list) [] = ⊥
AreListed (r ∷ list) (e ∷ es) = (r ≡ node_of r.depth e) × AreListed list es

pub one_each : (list : List Node) (es : List Formula) → AreListed list es → length list ≡ length es
one_each [] [] are = refl
one_each [] (e ∷ es) are = absurd are
one_each (r ∷ list) [] are = absurd are
one_each (r ∷ list) (e ∷ es) are = ap suc (one_each list es are.1)

pub listed_found : (list : List Node) (es : List Formula) (n : ℕ) (e : Formula) (d : Node) → AreListed list es → slice_get es n ≡ Some e →
    get_or list n d ≡ node_of (get_or list n d).depth e
listed_found [] [] n e d are at = cc
listed_found [] (f ∷ es) n e d are at = absurd are
listed_found (r ∷ list) [] n e d are at = absurd are
listed_found (r ∷ list) (f ∷ es) zero e d are at = let same : f ≡ e = cc in subst (λ x. r ≡ node_of r.depth x) same are.0
listed_found (r ∷ list) (f ∷ es) (suc n) e d are at = listed_found list es n e d are.1 at

pub both_listed : (list more : List Node) (es others : List Formula) → AreListed list es → AreListed more others → AreListed (list ++ more) (es ++ others)
both_listed [] more [] others are also = also
both_listed [] more (e ∷ es) others are also = absurd are
both_listed (r ∷ list) more [] others are also = absurd are
both_listed (r ∷ list) more (e ∷ es) others are also = (are.0, both_listed list more es others are.1 also)

flat_listed : {X : Type 0} (list : X → List Node) (es : X → List Formula) → ((x : X) → AreListed (list x) (es x)) →
    (xs : List X) → AreListed (flat_map list xs) (flat_map es xs)
flat_listed list es each [] = tt
flat_listed list es each (x ∷ xs) = both_listed (list x) (flat_map list xs) (es x) (flat_map es xs) (each x) (flat_listed list es each xs)

mutual
  pub listed_of_value : (depth : ℕ) (e : Formula) → AreListed (listed_at depth e) (nodes e)
  listed_of_value depth (signal s) = (refl, tt)
  listed_of_value depth (all_of es) = (refl, listed_of_operands (depth + 1) es)
  listed_of_value depth (any_of es) = (refl, listed_of_operands (depth + 1) es)

  pub listed_of_operands : (depth : ℕ) (es : Formulas) → AreListed (listed_below depth es) (nodes_below es)
  listed_of_operands depth no_operand = tt
  listed_of_operands depth (operand e es) =
      both_listed (listed_at depth e) (listed_below depth es) (nodes e) (nodes_below es) (listed_of_value depth e) (listed_of_operands depth es)

at_pin : (a : Actual) → AreListed (listed_at_pin a) (nodes_at_pin a)
at_pin free = tt
at_pin (literal b) = tt
at_pin (time t) = tt
at_pin (wired e) = listed_of_value 0 e

of_step : (a : Action) → AreListed (listed_of_step a) (nodes_of_step a)
of_step (assigns t e) = listed_of_value 0 e
of_step (calls i args) = flat_listed listed_at_pin nodes_at_pin at_pin args

-- the node list of an application is that of its nodes
pub node_list_is : (net : Network) → AreListed (node_list net) (app_nodes net)
node_list_is net = flat_listed listed_of_step nodes_of_step of_step net.steps

-- there is one for each
pub listed_each : (net : Network) → length (node_list net) ≡ length (app_nodes net)
listed_each net = one_each (node_list net) (app_nodes net) (node_list_is net)

-- the entry at a node's place
pub listed_node : (net : Network) (n : ℕ) (e : Formula) (d : Node) → slice_get (app_nodes net) n ≡ Some e →
    get_or (node_list net) n d ≡ node_of (get_or (node_list net) n d).depth e
listed_node net n e d at = listed_found (node_list net) (app_nodes net) n e d (node_list_is net) at
