use Rattle.std.proofs.Common.{◌++◌, take, ap, ◌∙◌, arith}
use Rattle.std.specs.List.{flat_map}
use Rattle.std.proofs.lemmas.List.{take_all}
use Rattle.ps_parser.specs.ArgumentView.{argument_tree}
use Rattle.ps_names.specs.Uses.{read, sum_uses}
use Rattle.ps_names.proofs.NamesAgain.{has_same, has_more}
use Rattle.ps_resolve.proofs.ReadValues.{arguments_read}
use Rattle.ps_resolve.proofs.reads.enter_arguments.Goals as goal

pub loop-argument-preserved : goal.loop-argument-preserved
loop-argument-preserved c = λ ns has.
    has_more (λ a. flat_map read (sum_uses (argument_tree a).value)) c.enter_sum.new.reads ns c.args.arguments.now c.loop-argument.argument-index c.argument-item.result c.argument-item.result c.loop-argument-test.true c.argument-item.is
    (c.in_ok-enter_sum.ensures (ns ++ flat_map (λ a. flat_map read (sum_uses (argument_tree a).value)) (take c.loop-argument.argument-index c.args.arguments.now)) (c.loop-argument.invariant ns has))

pub returns : goal.returns
returns c = λ n ns has.
    has_same c.loop-argument.reads _ _
    (ap (λ l. ns ++ l)
    (ap (flat_map (λ a. flat_map read (sum_uses (argument_tree a).value))) (take_all c.loop-argument.argument-index c.args.arguments.now (omega arith)) ∙ arguments_read n c.args.arguments.now))
    (c.loop-argument.invariant ns has)
