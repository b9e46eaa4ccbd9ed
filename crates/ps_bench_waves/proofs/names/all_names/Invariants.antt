use Rattle.std.proofs.Common.{◌≡◌, ◌++◌, map}
use Rattle.std.specs.List.{flat_map, range_with_len}
use Rattle.ps_bench_names.specs.declared.name.Name.TheVariants.{Signal}
use Rattle.ps_model.specs.Network.{declared_count}
use Rattle.ps_bench_waves.specs.Names.{names_of_instance}
use Rattle.ps_bench_waves.proofs.names.all_names.Given as goal

abbrev pub invariant-loop-signal : goal.invariant-loop-signal
invariant-loop-signal l = l.names.items ≡ map Signal (range_with_len 0 l.signal)

abbrev pub invariant-loop-instance : goal.invariant-loop-instance
invariant-loop-instance l =
    l.names.items ≡ map Signal (range_with_len 0 (declared_count l.app))
    ++ flat_map (names_of_instance l.app) (range_with_len 0 l.instance)
