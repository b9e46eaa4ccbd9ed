use Rattle.std.proofs.Common.{◌∙◌, sym, arith}
use Rattle.std.proofs.lemmas.Grind.{common_steps}
use Rattle.ps_trace.proofs.SaidLemmas.{said_T4, said_T5, scan_at_time_said, scan_at_time_with}
use Rattle.ps_trace.proofs.scan_line.read_fields.Goals as goal

pub returns-then-found-values-clause-says : goal.returns-then-found-values-clause-says
returns-then-found-values-clause-says c =
    said_T4 _ _ _ _ _ c.in-Some.ensures.first (sym (c.is_restart.ensures _ (sym c.read_words-found.ensures.count)) ∙ c.if-is_restart.false) (grind (arith, common_steps))

pub returns-then-not-found-clause-says : goal.returns-then-not-found-clause-says
returns-then-not-found-clause-says c =
    said_T5 _ _ _ _ _ c.in-Some.ensures.first (sym (c.is_restart.ensures _ (sym c.read_words-found.ensures.count)) ∙ c.if-is_restart.false)
    (sym c.read_words-found.ensures.count ∙ grind (arith, common_steps)) (sym c.read_words-found.ensures.proper ∙ grind (arith, common_steps))

pub returns-clause-says : goal.returns-clause-says
returns-clause-says c =
    scan_at_time_said _ _ _ _ _ c.in-Some.ensures.first (sym (c.is_restart.ensures _ (sym c.read_words-found.ensures.count)) ∙ c.if-is_restart.false)
    (sym c.read_words-found.ensures.count ∙ grind (arith, common_steps)) (sym c.read_words-found.ensures.proper ∙ grind (arith, common_steps))
    ∙ sym (scan_at_time_with _ c.number.ensures (c.read_words-found.ensures.values (grind (arith, common_steps)) (grind (arith, common_steps))))
    ∙ c.judge_time.ensures.says c.read_words-found.new.values
