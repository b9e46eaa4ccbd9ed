use Rattle.std.proofs.Common.{◌≡◌, map, drop}
use Rattle.ps_parser.specs.ArgumentView.{argument_tree}
use Rattle.ps_bench_cover.specs.Operands.{pin_operands}
use Rattle.ps_bench_cover.proofs.statement.push_pin.Given as goal

abbrev pub invariant-loop-argument : goal.invariant-loop-argument
invariant-loop-argument l = record {
  same : l.places.items ≡ l.fn.places.items;
  left : pin_operands (map argument_tree (drop l.argument-index l.arguments)) l.pin ≡ pin_operands (map argument_tree l.arguments) l.pin;
}
