use Rattle.std.proofs.Common.{◌+◌, ◌≤◌, length, subst, arith}
use Rattle.ps_model.specs.Args.{actual}
use Rattle.ps_model.specs.Nodes.{nodes_at_pin}
use Rattle.ps_model.specs.Exprs.{formula}
use Rattle.ps_checker.proofs.RowPlaces.{some_nodes}
use Rattle.ps_checker.proofs.covering.pin_covered.Goals as goal

pub bounds-marks-at : goal.bounds-marks-at
bounds-marks-at c =
    let few = subst (λ a. c.args.at + length (nodes_at_pin (actual a)) ≤ length c.args.marks.now) c.in-Value.is c.requires in
    let some = some_nodes (formula c.in-Value.field-0) in
    omega arith
