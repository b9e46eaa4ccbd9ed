use Rattle.std.proofs.Common.{◌≡◌, drop}
use Rattle.std.specs.List.{position_from}
use Rattle.ps_base.specs.LetterCase.{is_same_name}
use Rattle.ps_bench_names.specs.Names.{number_named, signal_names}
use Rattle.ps_bench_names.proofs.names.signal_named.Given as goal

abbrev pub invariant-loop-s : goal.invariant-loop-s
invariant-loop-s l = number_named (signal_names l.app) l.word ≡ position_from (is_same_name l.word) l.s (drop l.s (signal_names l.app))
