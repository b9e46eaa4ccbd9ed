use Rattle.std.proofs.Common.{take}
use Rattle.ps_names.specs.NameTables.{Indexes}
use Rattle.ps_derived.proofs.declared.index.Given as goal

abbrev pub invariant-loop-i : goal.invariant-loop-i
invariant-loop-i l = Indexes (λ d. d.name) l.table (take l.i l.declared)
