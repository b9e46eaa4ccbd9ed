use Rattle.std.proofs.Common.{◌≡◌, map, take, []}
use Rattle.ps_names.specs.Tables.{IndexesDeclared}
use Rattle.ps_names.proofs.repeats.index.Given as goal
use Rattle.ps_names.specs.Offences.{noted}
use Rattle.ps_names.specs.Rules.{repeated}
use Rattle.ps_base.specs.declared.failing.Rule.TheVariants.{N1}

abbrev pub invariant-loop-i : goal.invariant-loop-i
invariant-loop-i l = record {
  table : IndexesDeclared l.table (take l.i l.entries);
  found : l.found ≡ noted l.fn.found (repeated N1 [] (map (λ e. e.name) (take l.i l.entries)));
}
