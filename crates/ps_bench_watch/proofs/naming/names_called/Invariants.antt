use Rattle.std.proofs.Common.{◌≡◌, Some, map, take}
use Rattle.ps_bench_words.specs.Seen.{seen}
use Rattle.ps_bench_names.specs.declared.name.Name.{Name}
use Rattle.ps_bench_watch.specs.Naming.{name_called}
use Rattle.ps_bench_watch.proofs.naming.names_called.Given as goal

abbrev pub invariant-loop-word : goal.invariant-loop-word
invariant-loop-word l =
    map (name_called l.app) (seen (take l.word-index l.words)) ≡ map (λ (n : Name). Some n) l.names.items
