-- The numbers of the lines of a stream.
use Rattle.std.specs.Prelude.{ℕ, ◌+◌, min}
use Rattle.ps_bench_watch.specs.declared.coming.Came.{Came}
use Rattle.ps_bench_watch.specs.declared.coming.Came.TheVariants.{Line}

-- the number of a line as it is told: it stays at the largest one of 32 bits
abbrev pub told_number : ℕ → ℕ
told_number number = min number 4294967295

-- the number of the line after one: a line feed counts
abbrev pub behind : Came → ℕ → ℕ
behind Line number = number + 1
behind _ number = number
