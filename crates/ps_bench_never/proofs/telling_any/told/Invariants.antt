use Rattle.std.proofs.Common.{◌≡◌, ◌++◌, drop}
use Rattle.ps_bench_never.specs.TellingAny.{sought_of, told_text}
use Rattle.ps_bench_never.proofs.telling_any.told.Given as goal

abbrev pub invariant-loop-r : goal.invariant-loop-r
invariant-loop-r l =
    l.text ++ told_text (sought_of l.searched) l.r (drop l.r l.searched.rules.now)
    ≡ told_text (sought_of l.searched) 0 l.searched.rules.now
