-- Whether a rule fits, by the shape of the node.
use Rattle.std.proofs.Common.{◌≡◌, ℕ, ◌+◌, ◌≤◌, List, [], ◌∷◌, ◌++◌, length, ap, ◌∙◌, refl, arith, ◌<◌, get_or}
use Rattle.std.proofs.Common.{length-append}
use Rattle.ps_model.specs.Formula.{Formula, signal, all_of, any_of}
use Rattle.ps_model.specs.Network.{Network}
use Rattle.ps_model.specs.Nodes.{nodes, nodes_below, app_nodes, operand_places}
use Rattle.ps_model.specs.NodeList.{shape_of, node_list}
use Rattle.ps_model.specs.declared.node.Node.{Node}
use Rattle.ps_model.proofs.Once.{element_at}
use Rattle.ps_model.proofs.NodeLists.{listed_node}
use Rattle.ps_checker.proofs.RowPlaces.{some_nodes, operands_of}
use Rattle.ps_flow.specs.declared.certificate.CertLine.{CertLine}
use Rattle.ps_flow.specs.declared.certificate.LineRule.{LineRule}
use Rattle.ps_flow.specs.declared.certificate.LineRule.TheVariants.{Src, And, Or}
use Rattle.ps_model.specs.Standing.{StandsAt}
use Rattle.ps_checker.specs.Derives.{fits}
use Rattle.ps_checker.specs.Fitting.{fits_shape}
use Rattle.ps_model.proofs.NodePlaces.{app_at}

pub by_shape : (net : Network) (lines : List CertLine) (rule : LineRule) (premises : List ℕ) (n : ℕ) (e : Formula) →
    fits_shape net lines rule (shape_of e) premises (operand_places n (operands_of e)) ≡ fits net lines rule premises n e
by_shape net lines Src [] n (signal s) = refl
by_shape net lines Src (p ∷ ps) n (signal s) = refl
by_shape net lines Src [] n (all_of es) = refl
by_shape net lines Src (p ∷ ps) n (all_of es) = refl
by_shape net lines Src [] n (any_of es) = refl
by_shape net lines Src (p ∷ ps) n (any_of es) = refl
by_shape net lines And ps n (signal s) = refl
by_shape net lines And ps n (all_of es) = refl
by_shape net lines And ps n (any_of es) = refl
by_shape net lines Or ps n (signal s) = refl
by_shape net lines Or ps n (all_of es) = refl
by_shape net lines Or ps n (any_of es) = refl

pub node_size : (e : Formula) → length (nodes e) ≡ 1 + length (nodes_below (operands_of e))
node_size (signal s) = refl
node_size (all_of es) = omega arith
node_size (any_of es) = omega arith

pub stands_room : {X : Type 0} (xs : List X) (n : ℕ) (ys : List X) → StandsAt xs n ys → n + length ys ≤ length xs
stands_room xs n ys s =
    let whole : length xs ≡ length s.before + length (ys ++ s.after) = ap length s.split ∙ length-append s.before (ys ++ s.after) in
    let p = s.place in
    omega (arith, length-append ys s.after)

-- a node's row counts the node itself
pub row_some : (net : Network) (m : ℕ) (d : Node) → m < length (app_nodes net) → 1 ≤ (get_or (node_list net) m d).size
row_some net m d inside =
    let e = element_at (app_nodes net) m inside in
    let size = ap (λ (r : Node). r.size) (listed_node net m e.0 d e.1) in
    let some = some_nodes e.0 in
    omega arith

-- no node's row reaches past the last node
pub row_room : (net : Network) (m : ℕ) (d : Node) → m < length (app_nodes net) → m + (get_or (node_list net) m d).size ≤ length (app_nodes net)
row_room net m d inside =
    let e = element_at (app_nodes net) m inside in
    let room = stands_room (app_nodes net) m (nodes e.0) (app_at net m e.0 e.1) in
    let size : (get_or (node_list net) m d).size ≡ length (nodes e.0) = ap (λ (r : Node). r.size) (listed_node net m e.0 d e.1) in
    omega arith
