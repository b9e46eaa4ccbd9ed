use Rattle.std.proofs.Common.{arith, ap, ◌∙◌, ◌≡◌, sym, ◌+◌, ◌<◌, length, get_or, drop, subst, List}
use Rattle.std.proofs.lemmas.Grind.{common_steps}
use Rattle.ps_model.specs.declared.node.Node.{Node}
use Rattle.std.specs.List.{list_all}
use Rattle.std.proofs.lemmas.Bool.{and_parts}
use Rattle.ps_model.specs.Nodes.{app_nodes}
use Rattle.ps_model.specs.NodeList.{node_list}
use Rattle.ps_model.specs.declared.node.Shape.TheVariants.{Signal}
use Rattle.ps_flow.proofs.Walk.{rest_or}
use Rattle.ps_checker.specs.Derives.{is_earlier}
use Rattle.ps_model.proofs.NodeLists.{listed_each}
use Rattle.ps_checker.proofs.Fits.{row_room}
use Rattle.ps_checker.proofs.Left.{SpeakLeft, speak_past, speak_other, speak_next, speak_end, earlier_line}
use Rattle.ps_checker.proofs.checking.speak_of.Goals.{then-m-end-via-then-m-end, then-m-end-via-else-m-end+then-lines-p}
use Rattle.ps_checker.proofs.checking.speak_of.Goals as goal

pub returns-then-m-end : goal.returns-then-m-end
returns-then-m-end c = λ depth es s e.
    let oks = and_parts (is_earlier (length c.args.lines.now) (get_or c.args.premises.now c.loop-p.p-index 0)) (list_all (is_earlier (length c.args.lines.now)) (drop (c.loop-p.p-index + 1) c.args.premises.now))
    (ap (list_all (is_earlier (length c.args.lines.now))) (sym (rest_or c.args.premises.now c.loop-p.p-index 0 c.loop-p-test.true)) ∙ c.loop-p.invariant.earlier) in
    let next = rest_or c.args.premises.now c.loop-p.p-index 0 c.loop-p-test.true in
    let left = subst (λ r. SpeakLeft (node_list c.args.app.now) depth c.args.lines.now c.args.at es c.args.premises.now c.args.end c.loop-p.m r) next (c.loop-p.invariant.left depth es s e) in
    elim c.then-m-end.branch [
      | then-m-end-via-then-m-end w ↦
          speak_past (node_list c.args.app.now) depth c.args.lines.now c.args.at es c.args.premises.now c.args.end c.loop-p.m _ _ left w.if-m-end.true
      | then-m-end-via-else-m-end+then-lines-p w ↦
          speak_other (node_list c.args.app.now) depth c.args.lines.now c.args.at es c.args.premises.now c.args.end c.loop-p.m _ _ left (λ same. w.if-lines-p.true (sym (earlier_line c.args.lines.now _ w.index-lines-p.result oks.0) ∙ same))
    ]

pub bounds-nodes-m : goal.bounds-nodes-m
bounds-nodes-m c =
    let each : length c.nodes-nodes.result.now ≡ length (app_nodes c.args.app.now) = ap length c.nodes-nodes.ensures ∙ listed_each c.args.app.now in
    let inside = c.if-m-end.false in
    omega arith

pub loop-p-preserved : goal.loop-p-preserved
loop-p-preserved c =
    let next = rest_or c.args.premises.now c.loop-p.p-index 0 c.loop-p-test.true in
    let oks = and_parts (is_earlier (length c.args.lines.now) (get_or c.args.premises.now c.loop-p.p-index 0)) (list_all (is_earlier (length c.args.lines.now)) (drop (c.loop-p.p-index + 1) c.args.premises.now))
    (ap (list_all (is_earlier (length c.args.lines.now))) (sym next) ∙ c.loop-p.invariant.earlier) in
    record {
      earlier = oks.1;
      left = λ depth es s e.
          let left = subst (λ r. SpeakLeft (node_list c.args.app.now) depth c.args.lines.now c.args.at es c.args.premises.now c.args.end c.loop-p.m r) next (c.loop-p.invariant.left depth es s e) in
          speak_next (node_list c.args.app.now) depth c.args.lines.now c.args.at es c.args.premises.now c.args.end c.loop-p.m _ _ (record { shape = Signal 0; size = 0; depth = 0 }) _ left c.if-m-end.false (earlier_line c.args.lines.now _ c.index-lines-p.result oks.0 ∙ c.if-lines-p.false)
          (ap (λ (ns : List Node). c.loop-p.m + (get_or ns c.loop-p.m (record { shape = Signal 0; size = 0; depth = 0 })).size) c.nodes-nodes.ensures);
    }

pub returns : goal.returns
returns c = λ depth es s e. speak_end (node_list c.args.app.now) depth c.args.lines.now c.args.at es c.args.premises.now c.args.end c.loop-p.m _ (c.loop-p.invariant.left depth es s e) (grind (arith, common_steps))

pub overflow_add-m : goal.overflow_add-m
overflow_add-m c =
    let d : Node = record { shape = Signal 0; size = 0; depth = 0 } in
    let inside : c.loop-p.m < length (app_nodes c.args.app.now) = omega arith in
    let same = ap (λ (ns : List Node). (get_or ns c.loop-p.m d).size) c.nodes-nodes.ensures in
    let room = row_room c.args.app.now c.loop-p.m d inside in
    let few = c.sound.ensures.few_nodes in
    omega arith
