use Rattle.std.proofs.Common.{◌≡◌, take}
use Rattle.ps_bench_words.specs.Seen.{seen}
use Rattle.ps_bench_words.proofs.asking.texts_of.Given as goal

abbrev pub invariant-loop-i : goal.invariant-loop-i
invariant-loop-i l = seen l.texts.items ≡ take l.i l.words
