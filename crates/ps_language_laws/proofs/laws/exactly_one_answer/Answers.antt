use Rattle.ps_language_laws.proofs.laws.exactly_one_answer.Goals as goal

pub returns : goal.returns
returns c = λ words held all.
    let source = c.every_source_is_read.ensures in
    let some = c.an_answer_exists.ensures words held source.accepted source.resolved c.every_certificate_is_judged.ensures all in
    (some.0, some.1, λ other is. c.one_answer.ensures words held other some.0 is some.1)
