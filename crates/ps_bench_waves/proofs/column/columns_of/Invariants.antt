use Rattle.std.proofs.Common.{◌≡◌, map, take}
use Rattle.std.specs.Prelude.{All}
use Rattle.ps_bench_waves.specs.Room.{IsKeyed}
use Rattle.ps_bench_waves.specs.declared.column.Column.{Column}
use Rattle.ps_bench_waves.proofs.column.columns_of.Given as goal

abbrev pub invariant-loop-name : goal.invariant-loop-name
invariant-loop-name l = record {
  names : map (λ (c : Column). c.name) l.columns.items ≡ take l.name-index l.names;
  keyed : All (IsKeyed l.format l.app) l.columns.items;
}
