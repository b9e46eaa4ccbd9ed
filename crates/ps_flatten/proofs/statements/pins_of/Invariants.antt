use Rattle.std.proofs.Common.{take}
use Rattle.ps_names.specs.NameTables.{Indexes}
use Rattle.ps_parser.specs.declared.statement.Argument.{Argument}
use Rattle.ps_flatten.proofs.statements.pins_of.Given as goal

abbrev pub invariant-loop-i : goal.invariant-loop-i
invariant-loop-i l = Indexes (λ (a : Argument). a.pin) l.pins (take l.i l.arguments)
