use Rattle.std.proofs.Common.{◌≡◌, drop}
use Rattle.std.specs.List.{list_all}
use Rattle.ps_checker.specs.Derives.{is_earlier}
use Rattle.ps_checker.proofs.checking.are_earlier.Given as goal

abbrev pub invariant-loop-p : goal.invariant-loop-p
invariant-loop-p l = list_all (is_earlier l.i) l.premises ≡ list_all (is_earlier l.i) (drop l.p-index l.premises)
