use Rattle.std.proofs.Common.{map}
use Rattle.ps_model.specs.Args.{actual}
use Rattle.ps_model.specs.Blocks.{block}
use Rattle.ps_parser.specs.ArgumentView.{argument_tree}
use Rattle.ps_names.specs.Stands.{actual_at}
use Rattle.ps_resolve.proofs.Arguments.{more_pins}
use Rattle.ps_resolve.proofs.steps.args_of.Goals as goal

pub loop-j-preserved : goal.loop-j-preserved
loop-j-preserved c =
    more_pins (actual_at c.args.numbering.now.entries.now (map argument_tree c.args.arguments.now)) (block c.args.kind).inputs c.loop-j.j c.input_name.result.now c.loop-j.args c.push.new.self
    (actual c.in_ok-arg.arg) c.input_name.ensures c.loop-j.invariant c.in_ok-arg.ensures c.in_ok-push.ensures
