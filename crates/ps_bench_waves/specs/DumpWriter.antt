-- A writer of value changes, as contracts see it.
use Rattle.std.specs.Prelude.{ℕ, Bool, List, map, length}
use Rattle.ps_bench_waves.specs.declared.dump.Dump.{Dump}
use Rattle.ps_bench_waves.specs.Values.{Held, held}

-- how many wires it has
abbrev pub wire_count : Dump → ℕ
wire_count dump = length dump.last.items

-- it wrote a scan
abbrev pub has_begun : Dump → Bool
has_begun dump = dump.begun

-- what each wire had in the last scan
abbrev pub last_of : Dump → List Held
last_of dump = map held dump.last.items
