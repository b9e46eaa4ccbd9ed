use Rattle.std.proofs.Common.{◌≡◌, ◌++◌, drop}
use Rattle.ps_bench_never.specs.Telling.{told_text}
use Rattle.ps_bench_never.proofs.telling.told.Given as goal

abbrev pub invariant-loop-r : goal.invariant-loop-r
invariant-loop-r l =
    l.text ++ told_text l.asking.app.now l.asking.file.now l.asking.asked.now l.asking.most l.found (drop l.r l.asking.rules.now) (drop l.r l.found.paths.items)
    ≡ told_text l.asking.app.now l.asking.file.now l.asking.asked.now l.asking.most l.found l.asking.rules.now l.found.paths.items
