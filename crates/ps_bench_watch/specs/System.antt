-- A stream of the system, as contracts see it.
use Rattle.std.specs.Prelude.{ℕ}
use Rattle.ps_bench_watch.specs.declared.std_stream.StdStream.{StdStream}

-- how often reads of a stream of the system have failed
abbrev pub faults_of : {R : Type 0} → StdStream R → ℕ
faults_of stream = stream.faults
