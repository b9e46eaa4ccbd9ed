use Rattle.std.proofs.Common.{◌≡◌, drop}
use Rattle.ps_bench_watch.specs.Naming.{called_among}
use Rattle.ps_bench_watch.proofs.naming.name_among.Given as goal

abbrev pub invariant-loop-name : goal.invariant-loop-name
invariant-loop-name l = called_among l.app l.names l.word ≡ called_among l.app (drop l.name-index l.names) l.word
