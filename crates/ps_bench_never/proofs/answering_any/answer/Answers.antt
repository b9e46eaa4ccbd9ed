use Rattle.std.proofs.Common.{inr}
use Rattle.ps_bench_never.proofs.answering_any.answer.Goals as goal

pub returns-in-Ok-clause-refuses : goal.returns-in-Ok-clause-refuses
returns-in-Ok-clause-refuses g c = λ tells text held refusal e. inr (c.in-Ok.file, c.in-Ok.ensures.gives tells text held, c.answer_file.ensures.many refusal e)
