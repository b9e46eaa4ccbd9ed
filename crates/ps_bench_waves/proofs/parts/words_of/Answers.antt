use Rattle.std.proofs.Common.{ap}
use Rattle.ps_bench_waves.specs.Parts.{text_of}
use Rattle.ps_bench_waves.proofs.parts.words_of.Goals as goal

pub returns-in-Some : goal.returns-in-Some
returns-in-Some c = ap text_of c.in-Some.ensures.words

pub returns-in-None : goal.returns-in-None
returns-in-None c = ap text_of c.in-None.ensures.words
