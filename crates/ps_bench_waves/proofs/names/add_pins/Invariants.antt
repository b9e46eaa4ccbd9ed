use Rattle.std.proofs.Common.{◌≡◌, ◌++◌}
use Rattle.std.specs.List.{flat_map, range_with_len}
use Rattle.ps_bench_waves.specs.Names.{pin_of}
use Rattle.ps_bench_waves.proofs.names.add_pins.Given as goal

abbrev pub invariant-loop-pin : goal.invariant-loop-pin
invariant-loop-pin l =
    l.names.items ≡ l.initial.names.items ++ flat_map (pin_of l.instance l.kind) (range_with_len 0 l.pin)
