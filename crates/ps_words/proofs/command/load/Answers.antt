use Rattle.std.proofs.Common.{Ok, Err, arith}
use Rattle.ps_words.proofs.Numbers.{reads, read_taken, not_read}
use Rattle.ps_words.proofs.command.load.Goals as goal

pub returns-then-is_within-clause-asked : goal.returns-then-is_within-clause-asked
returns-then-is_within-clause-asked c =
    let digit = c.if-not-begins_above_zero.ensures.digit (grind arith) in
    let r = reads {E = Unit {0}} c.args.word.now (Ok c.in-Ok.number) digit.0 digit.1 c.in-Ok.ensures.value.0 in
    let within = c.if-is_within.ensures.within (grind arith) in
    read_taken c.args.word.now c.in-Ok.number digit.0 within.0 within.1 (r.0.0, r.1)

pub returns-in-Err-clause-asked : goal.returns-in-Err-clause-asked
returns-in-Err-clause-asked c =
    let digit = c.if-not-begins_above_zero.ensures.digit (grind arith) in
    not_read c.args.word.now digit.0 (reads c.args.word.now (Err c.in-Err.field-0) digit.0 digit.1 c.in-Err.ensures.value.0)
