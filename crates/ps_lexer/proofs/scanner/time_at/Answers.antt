use Rattle.ps_lexer.proofs.Found.{a_time, no_time_value}
use Rattle.ps_lexer.proofs.scanner.time_at.Goals as goal

pub returns-in-Some : goal.returns-in-Some
returns-in-Some c =
    let run = c.time_end-j.ensures in
    a_time c.args.text.now c.args.i c.args.head_len c.time_end-j.result c.requires.head run.from run.within run.continues run.stops c.in-Some.value c.in-Some.ensures.some

pub returns-in-None : goal.returns-in-None
returns-in-None c =
    let run = c.time_end-j.ensures in
    no_time_value c.args.text.now c.args.i c.args.head_len c.time_end-j.result c.requires.head run.from run.within run.continues run.stops c.in-None.ensures.none
