use Rattle.std.proofs.Common.{◌≡◌, ◌-◌, ◌+◌, List, ap, ◌∙◌, arith, get_or, length}
use Rattle.ps_model.specs.declared.node.Node.{Node}
use Rattle.ps_model.specs.declared.node.Shape.TheVariants.{Signal}
use Rattle.ps_model.specs.Nodes.{app_nodes}
use Rattle.ps_model.specs.NodeList.{node_list}
use Rattle.ps_model.proofs.NodeLists.{listed_each}
use Rattle.ps_checker.proofs.Operands.{before_operands, behind_operands, among_operands, one_deeper}
use Rattle.ps_checker.proofs.checking.is_operand.Goals.{then-node-at-via-then-node-at, then-node-at-via-else-node-at+then-end-node}
use Rattle.ps_checker.proofs.checking.is_operand.Goals as goal

pub returns-then-node-at : goal.returns-then-node-at
returns-then-node-at c = λ es s e.
    elim c.then-node-at.branch [
      | then-node-at-via-then-node-at w ↦ before_operands c.args.node c.args.at es w.if-node-at.true
      | then-node-at-via-else-node-at+then-end-node w ↦ behind_operands c.args.node c.args.at es (let past = w.if-end-node.true in omega arith)
    ]

pub offset_bounds-nodes-node : goal.offset_bounds-nodes-node
offset_bounds-nodes-node c = let few = c.sound.ensures.few_nodes in omega arith

pub bounds-nodes-node : goal.bounds-nodes-node
bounds-nodes-node c =
    let each : length c.nodes.result.now ≡ length (app_nodes c.args.app.now) = ap length c.nodes.ensures ∙ listed_each c.args.app.now in
    omega arith

pub returns : goal.returns
returns c = λ es s e.
    let d : Node = record { shape = Signal 0; size = 0; depth = 0 } in
    let row = ap (λ (ns : List Node). (get_or ns c.args.node d).depth) c.nodes.ensures in
    one_deeper _ c.args.depth _ (c.saturating_sub.ensures ∙ ap (λ n. n - c.args.depth) row)
    ∙ among_operands c.args.node (node_list c.args.app.now) (c.args.depth + 1) c.args.at es d s (omega arith) (let inside = c.if-end-node.false in omega arith)
