-- What the code says of a line.
use Rattle.std.specs.Prelude.{ℕ, List}
use Rattle.ps_bench_cases.specs.Line.{Said, case_name}
use Rattle.ps_bench_cases.specs.Line.Said.{nothing, begins, asks, breaks}
use Rattle.ps_bench_cases.specs.declared.line.LineSays.{LineSays}
use Rattle.ps_bench_cases.specs.declared.line.LineSays.TheVariants.{Nothing, Case, Asks, Broken}

-- what is said of a line by an answer
abbrev pub said_by : LineSays → List ℕ → Said
said_by Nothing line = nothing
said_by Case line = begins (case_name line)
said_by (Asks deed settings) line = asks deed settings
said_by (Broken rule) line = breaks rule
