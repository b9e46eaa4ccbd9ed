use Rattle.std.proofs.Common.{◌≡◌, ◌++◌, length, map}
use Rattle.std.specs.List.{range_with_len}
use Rattle.ps_bench_names.specs.declared.name.Name.TheVariants.{Code, Signal}
use Rattle.ps_model.specs.Network.{input_count}
use Rattle.ps_bench_waves.proofs.names.main_names.Given as goal

abbrev pub invariant-loop-output : goal.invariant-loop-output
invariant-loop-output l = l.names.items ≡ map Signal (range_with_len (input_count l.app) l.output)

abbrev pub invariant-loop-instance : goal.invariant-loop-instance
invariant-loop-instance l =
    l.names.items ≡ map Signal (range_with_len (input_count l.app) (length l.app.outputs))
    ++ map Code (range_with_len 0 l.instance)
