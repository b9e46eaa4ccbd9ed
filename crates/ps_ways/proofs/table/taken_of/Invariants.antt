use Rattle.std.proofs.Common.{◌≡◌, drop}
use Rattle.ps_ways.specs.Stepping.{conditions_of}
use Rattle.ps_ways.specs.Ways.{taken}
use Rattle.ps_ways.proofs.table.taken_of.Given as goal

-- the ways that are left decide
abbrev pub invariant-loop-way : goal.invariant-loop-way
invariant-loop-way l =
    taken l.ways l.state (conditions_of l.step) ≡ taken (drop l.way-index l.ways) l.state (conditions_of l.step)
