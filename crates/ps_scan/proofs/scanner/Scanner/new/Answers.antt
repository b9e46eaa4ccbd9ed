use Rattle.std.proofs.Common.{◌∙◌, length, ap, false}
use Rattle.std.proofs.lemmas.List.{length-replicate}
use Rattle.ps_model.specs.Network.{signal_count}
use Rattle.ps_scan.proofs.Ending.{stands_first, sized_first}
use Rattle.ps_scan.proofs.scanner.Scanner.new.Goals as goal

pub returns-clause-sizes : goal.returns-clause-sizes
returns-clause-sizes c =
    sized_first c.args.app.now _ (ap length c.in_ok-false_signals.ensures ∙ length-replicate (signal_count c.args.app.now) false) c.in_ok-fresh_instances.ensures

pub returns-clause-first : goal.returns-clause-first
returns-clause-first c = stands_first c.args.app.now _ c.in_ok-false_signals.ensures c.in_ok-fresh_instances.ensures
