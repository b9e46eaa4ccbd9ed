use Rattle.std.proofs.Common.{◌≡◌, take}
use Rattle.ps_names.specs.NameTables.{Indexes}
use Rattle.ps_derived.specs.Bodies.{inputs}
use Rattle.ps_derived.proofs.interface.inputs.Given as goal

abbrev pub invariant-loop-i : goal.invariant-loop-i
invariant-loop-i l = record {
  seen : Indexes (λ d. d.name) l.seen (take l.i l.declared);
  names : l.names ≡ inputs (take l.i l.declared);
}
