use Rattle.std.proofs.Common.{arith, ap, ◌∙◌, ◌≡◌, ◌+◌, List, length, get_or, sym, subst}
use Rattle.ps_model.specs.Nodes.{nodes, app_nodes, operand_places}
use Rattle.ps_model.specs.NodeList.{node_of, listed_below, node_list}
use Rattle.ps_model.specs.Standing.{StandsAt}
use Rattle.ps_model.specs.declared.node.Node.{Node}
use Rattle.ps_model.specs.declared.node.Shape.TheVariants.{Signal}
use Rattle.ps_model.proofs.Once.{element_at}
use Rattle.ps_checker.specs.Fitting.{fits_shape, IsKnown}
use Rattle.ps_model.specs.Network.{signal_count}
use Rattle.ps_checker.proofs.Known.{known_node}
use Rattle.ps_model.proofs.NodePlaces.{app_at}
use Rattle.ps_model.proofs.NodeLists.{listed_node, listed_each}
use Rattle.ps_checker.proofs.RowPlaces.{app_rows_at, first_row, operands_stand, operands_of}
use Rattle.ps_checker.proofs.Fits.{by_shape, node_size, row_some, stands_room}
use Rattle.ps_checker.proofs.checking.rule_fits.Goals as goal

pub shape_fits-requires-clause-end : goal.shape_fits-requires-clause-end
shape_fits-requires-clause-end c =
    let n = c.args.l.now.node in
    let d : Node = record { shape = Signal 0; size = 0; depth = 0 } in
    let e = element_at (app_nodes c.args.app.now) n c.requires.exists in
    let size = ap (λ (ns : List Node). (get_or ns n d).size) c.nodes.ensures ∙ ap (λ (r : Node). r.size) (listed_node c.args.app.now n e.0 d e.1) in
    let room = stands_room (app_nodes c.args.app.now) n (nodes e.0) (app_at c.args.app.now n e.0 e.1) in
    omega arith

pub shape_fits-requires-clause-some : goal.shape_fits-requires-clause-some
shape_fits-requires-clause-some c =
    let n = c.args.l.now.node in
    let d : Node = record { shape = Signal 0; size = 0; depth = 0 } in
    let same = ap (λ (ns : List Node). (get_or ns n d).size) c.nodes.ensures in
    let some = row_some c.args.app.now n d c.requires.exists in
    omega arith

pub shape_fits-requires-clause-known : goal.shape_fits-requires-clause-known
shape_fits-requires-clause-known c =
    let n = c.args.l.now.node in
    let d : Node = record { shape = Signal 0; size = 0; depth = 0 } in
    let e = element_at (app_nodes c.args.app.now) n c.requires.exists in
    let row = ap (λ (ns : List Node). (get_or ns n d).shape) c.nodes.ensures ∙ ap (λ (r : Node). r.shape) (listed_node c.args.app.now n e.0 d e.1) in
    subst (IsKnown (signal_count c.args.app.now)) (sym row) (known_node c.args.app.now c.sound.ensures n e.0 e.1)

pub bounds-nodes-n : goal.bounds-nodes-n
bounds-nodes-n c =
    let each : length c.nodes.result.now ≡ length (app_nodes c.args.app.now) = ap length c.nodes.ensures ∙ listed_each c.args.app.now in
    let inside = c.requires.exists in
    omega arith

pub returns : goal.returns
returns c = λ e at.
    let net = c.args.app.now in
    let n = c.args.l.now.node in
    let d : Node = record { shape = Signal 0; size = 0; depth = 0 } in
    let stands = app_rows_at net n e at in
    let row : get_or c.nodes.result.now n d ≡ node_of stands.0 e = ap (λ (ns : List Node). get_or ns n d) c.nodes.ensures ∙ first_row (node_list net) n stands.0 e d stands.1 in
    c.shape_fits.ensures (operands_of e)
    (subst (λ (r : Node). StandsAt (node_list net) (n + 1) (listed_below (r.depth + 1) (operands_of e))) (sym row) (operands_stand (node_list net) n stands.0 e stands.1))
    (ap (λ (r : Node). r.size) row ∙ node_size e)
    ∙ ap (λ (r : Node). fits_shape net c.args.lines.now c.args.l.now.rule r.shape c.as_slice.result.now (operand_places (n + 1) (operands_of e))) row
    ∙ ap (λ ps. fits_shape net c.args.lines.now c.args.l.now.rule (node_of stands.0 e).shape ps (operand_places (n + 1) (operands_of e))) c.as_slice.ensures
    ∙ by_shape net c.args.lines.now c.args.l.now.rule c.args.l.now.premises (n + 1) e
