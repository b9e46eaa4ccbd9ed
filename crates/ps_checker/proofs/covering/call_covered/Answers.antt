use Rattle.std.proofs.Common.{arith, ap, ◌∙◌, sym, refl, ◌≡◌, ◌+◌, ◌&&◌, length, drop}
use Rattle.std.proofs.lemmas.Grind.{common_steps}
use Rattle.std.specs.List.{list_all}
use Rattle.ps_model.specs.Args.{actual}
use Rattle.ps_model.specs.Blocks.{block}
use Rattle.ps_model.specs.Nodes.{nodes_at_pin}
use Rattle.ps_model.specs.Obligations.{obligations_at_pins}
use Rattle.ps_model.specs.Scanning.{pin_at, no_pin}
use Rattle.ps_model.specs.Network.{kind_at}
use Rattle.ps_flow.proofs.Walk.{rest_found, rest_or}
use Rattle.ps_checker.specs.Marks.{is_marked}
use Rattle.ps_checker.proofs.Covered.{pins_split}
use Rattle.ps_checker.proofs.covering.call_covered.Goals as goal

pub returns-then-not-pin_covered-clause-none : goal.returns-then-not-pin_covered-clause-none
returns-then-not-pin_covered-clause-none c =
    let inputs = (block (kind_at c.args.app.now c.args.i)).inputs in
    let ty : c.input_type.result ≡ (pin_at (kind_at c.args.app.now c.args.i) c.loop-j.j).ty = c.input_type.ensures ∙ ap (λ k. (pin_at k c.loop-j.j).ty) c.instance_kind-kind.ensures in
    c.loop-j.invariant.covered
    ∙ pins_split (is_marked c.args.marks.now) c.loop-j.at _ c.input_type.result (pin_at (kind_at c.args.app.now c.args.i) c.loop-j.j) _ _ (actual c.at-arg.result.now) _ _
    (rest_or inputs c.loop-j.j no_pin (omega (arith, c.input_count-j-end.ensures, ap (λ k. length (block k).inputs) c.instance_kind-kind.ensures))) (rest_found c.args.args.now c.loop-j.j (actual c.at-arg.result.now) c.at-arg.ensures) ty refl
    ∙ ap (λ b. b && list_all (is_marked c.args.marks.now) (obligations_at_pins (c.loop-j.at + length (nodes_at_pin (actual c.at-arg.result.now))) (drop (c.loop-j.j + 1) inputs) (drop (c.loop-j.j + 1) c.args.args.now)))
    (sym c.pin_covered.ensures ∙ c.if-not-pin_covered.true)

pub arg_size-at-requires : goal.arg_size-at-requires
arg_size-at-requires c =
    let next = rest_found c.args.args.now c.loop-j.j (actual c.at-arg.result.now) c.at-arg.ensures in
    grind (arith, common_steps)

pub overflow_add-at : goal.overflow_add-at
overflow_add-at c =
    let next = rest_found c.args.args.now c.loop-j.j (actual c.at-arg.result.now) c.at-arg.ensures in
    grind (arith, common_steps)

pub loop-j-preserved : goal.loop-j-preserved
loop-j-preserved c =
    let inputs = (block (kind_at c.args.app.now c.args.i)).inputs in
    let ty : c.input_type.result ≡ (pin_at (kind_at c.args.app.now c.args.i) c.loop-j.j).ty = c.input_type.ensures ∙ ap (λ k. (pin_at k c.loop-j.j).ty) c.instance_kind-kind.ensures in
    let next = rest_found c.args.args.now c.loop-j.j (actual c.at-arg.result.now) c.at-arg.ensures in
    let size = c.arg_size-at.ensures in
    record {
      place = grind (arith, common_steps);
      covered = c.loop-j.invariant.covered
          ∙ pins_split (is_marked c.args.marks.now) c.loop-j.at (c.loop-j.at + c.arg_size-at.result) c.input_type.result (pin_at (kind_at c.args.app.now c.args.i) c.loop-j.j) _ _ (actual c.at-arg.result.now) _ _
          (rest_or inputs c.loop-j.j no_pin (omega (arith, c.input_count-j-end.ensures, ap (λ k. length (block k).inputs) c.instance_kind-kind.ensures))) next ty (ap (λ n. c.loop-j.at + n) size)
          ∙ ap (λ b. b && list_all (is_marked c.args.marks.now) (obligations_at_pins (c.loop-j.at + c.arg_size-at.result) (drop (c.loop-j.j + 1) inputs) (drop (c.loop-j.j + 1) c.args.args.now)))
          (sym c.pin_covered.ensures ∙ c.if-not-pin_covered.false);
    }

pub pin_covered-requires : goal.pin_covered-requires
pin_covered-requires c =
    let next = rest_found c.args.args.now c.loop-j.j (actual c.at-arg.result.now) c.at-arg.ensures in
    let place = c.loop-j.invariant.place in
    let few = c.requires.few in
    let marks = c.requires.marks in
    grind (arith, common_steps)
