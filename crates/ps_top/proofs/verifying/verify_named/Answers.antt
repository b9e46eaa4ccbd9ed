use Rattle.std.proofs.Common.{◌∙◌}
use Rattle.ps_top.proofs.Calling.{passes_read}
use Rattle.ps_top.proofs.Ruling.{judgement_answers}
use Rattle.ps_top.proofs.verifying.verify_named.Goals as goal

pub returns-in-Ok-judge_read-clause-answers : goal.returns-in-Ok-judge_read-clause-answers
returns-in-Ok-judge_read-clause-answers g c =
    judgement_answers c.args.app.now c.args.cert.now (passes_read (λ is. cc) c.in-Ok.ensures.reads) c.in-Ok.ensures.reads.left c.in-Ok-judge_read.judgement
    (λ tells. let found = c.in-Ok.ensures.gives tells in (found.0, found.1, c.in-Ok-judge_read.ensures found.0 (c.as_slice.ensures ∙ found.2)))
    c.tell.ensures.says c.tell.ensures.refuses
