use Rattle.std.proofs.Common.{ap, eqb, length, not, rules, ◌∙◌}
use Rattle.std.proofs.lemmas.Iterator.Consumers.{YieldsList-from_filter, nth_from_yields_List}
use Rattle.std.proofs.lemmas.Iterator.Splits.{YieldsList-from_slice_split}
use Rattle.std.specs.Slice.Iter.{split_callee, split_done, split_rest}
use Rattle.ps_findings.specs.Usage.{is_blank}
use Rattle.ps_findings.proofs.lines.word_at.Goals as goal

pub returns : goal.returns
returns c =
    let source = c.filter.ensures.source in
    let split = c.split.ensures in
    nth_from_yields_List c.nth.result c.nth.new.self c.args.number c.nth.ensures.ran
    (YieldsList-from_filter _ (λ w. not (eqb (length w) 0))
    (YieldsList-from_slice_split _ is_blank c.args.line.now (ap split_rest source ∙ split.rest) (ap split_done source ∙ split.done)
    (ap split_callee source ∙ split.closure) (λ x r q k. search rules)) c.filter.ensures.closure (λ x r q k. search rules))
