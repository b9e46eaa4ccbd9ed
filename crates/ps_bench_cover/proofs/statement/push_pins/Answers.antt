use Rattle.std.proofs.Common.{map}
use Rattle.ps_model.specs.Blocks.{block}
use Rattle.ps_parser.specs.ArgumentView.{argument_tree}
use Rattle.ps_bench_cover.specs.Operands.{pin_operands}
use Rattle.ps_bench_cover.proofs.Walking.{more_pins}
use Rattle.ps_bench_cover.proofs.statement.push_pins.Goals as goal

pub loop-j-preserved : goal.loop-j-preserved
loop-j-preserved c =
    more_pins (pin_operands (map argument_tree c.args.arguments.now)) (block c.args.kind).inputs c.loop-j.j c.input_name.result.now
    c.args.places.now.items c.loop-j.places.items _ c.input_name.ensures c.loop-j.invariant c.in_ok-push_pin.ensures
