use Rattle.std.proofs.Common.{◌-◌, length}
use Rattle.ps_derived.proofs.Reading.{IsReadUpto}
use Rattle.ps_derived.proofs.read_library.parse_library.Given as goal

abbrev pub invariant-each : goal.invariant-each
invariant-each l = IsReadUpto l.tokens.list l.blocks l.at

abbrev pub decreases-each : goal.decreases-each
decreases-each l = length l.tokens.list - l.at
