use Rattle.std.proofs.Common.{◌≡◌, ◌++◌, [], map, sym, ap, ◌∙◌, append-nil, arith}
use Rattle.ps_base.specs.LetterCase.{is_same_name}
use Rattle.ps_parser.specs.declared.statement.Argument.{Argument}
use Rattle.ps_parser.specs.ArgumentView.{argument_tree}
use Rattle.ps_bench_cover.specs.Operands.{place_of, sum_operands}
use Rattle.ps_bench_cover.proofs.Walking.{carry, no_pin, other_pin, this_pin}
use Rattle.ps_bench_cover.proofs.statement.push_pin.Goals as goal

pub loop-argument-preserved : goal.loop-argument-preserved
loop-argument-preserved c = record {
  same = c.loop-argument.invariant.same;
  left =
      other_pin c.args.pin.now c.args.arguments.now c.loop-argument.argument-index c.argument-item.result c.loop-argument-test.true
      (ap (λ (a : Argument). is_same_name a.pin.text c.args.pin.now) (sym c.argument-item.is) ∙ ap (is_same_name c.argument-item.result.pin.text) (sym c.as_bytes.ensures.value) ∙ sym c.is_word.ensures ∙ c.if-is_word.false)
      ∙ c.loop-argument.invariant.left;
}

pub returns-then-is_word : goal.returns-then-is_word
returns-then-is_word c =
    let there = this_pin c.args.pin.now c.args.arguments.now c.loop-argument.argument-index c.argument-item.result c.loop-argument-test.true
    (ap (λ (a : Argument). is_same_name a.pin.text c.args.pin.now) (sym c.argument-item.is) ∙ ap (is_same_name c.argument-item.result.pin.text) (sym c.as_bytes.ensures.value) ∙ sym c.is_word.ensures ∙ c.if-is_word.true) in
    carry c.push_sum.result
    (λ is. is ∙ (λ k. c.loop-argument.invariant.same k ++ map place_of ((ap (λ (a : Argument). sum_operands (argument_tree a).value) c.argument-item.is ∙ sym there ∙ c.loop-argument.invariant.left) k)))
    c.push_sum.ensures

pub returns : goal.returns
returns c =
    let none : [] ≡ _ = sym (no_pin c.args.pin.now c.args.arguments.now c.loop-argument.argument-index (omega arith)) ∙ c.loop-argument.invariant.left in
    c.loop-argument.invariant.same ∙ sym (append-nil c.args.places.now.items) ∙ ap (λ l. c.args.places.now.items ++ map place_of l) none
