use Rattle.std.proofs.Common.{◌≡◌, map, drop}
use Rattle.ps_parser.specs.ArgumentView.{argument_tree}
use Rattle.ps_parser.specs.Places.{pin_place}
use Rattle.ps_parser.proofs.statement.Arguments.pin_place.Given as goal

abbrev pub invariant-loop-argument : goal.invariant-loop-argument
invariant-loop-argument l = pin_place l.pin (map argument_tree (drop l.argument-index l.argument-items)) ≡ pin_place l.pin l.self
