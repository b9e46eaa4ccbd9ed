use Rattle.std.proofs.Common.{◌≡◌, drop}
use Rattle.std.specs.List.{position_from}
use Rattle.ps_base.specs.LetterCase.{is_same_name}
use Rattle.ps_bench_names.specs.Names.{number_named, instance_names}
use Rattle.ps_bench_names.proofs.names.instance_named.Given as goal

abbrev pub invariant-loop-i : goal.invariant-loop-i
invariant-loop-i l = number_named (instance_names l.app) l.word ≡ position_from (is_same_name l.word) l.i (drop l.i (instance_names l.app))
