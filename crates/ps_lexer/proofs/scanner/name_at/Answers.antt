use Rattle.std.proofs.Common.{arith}
use Rattle.ps_lexer.proofs.Found.{too_long, a_keyword, a_name}
use Rattle.ps_lexer.proofs.scanner.name_at.Goals as goal

pub returns-then-j-i : goal.returns-then-j-i
returns-then-j-i c =
    let run = c.name_end-j.ensures in
    too_long c.args.text.now c.args.i c.name_end-j.result (omega (arith, run.from)) run.within c.requires.begins run.continues run.stops c.requires.no_time (omega (arith, c.if-j-i.true, run.from))

pub returns-in-Some : goal.returns-in-Some
returns-in-Some c =
    let run = c.name_end-j.ensures in
    a_keyword c.args.text.now c.args.i c.name_end-j.result (omega (arith, run.from)) run.within c.requires.begins run.continues run.stops c.requires.no_time c.in-Some.known c.in-Some.ensures.some

pub returns-in_ok-from_slice-in-None : goal.returns-in_ok-from_slice-in-None
returns-in_ok-from_slice-in-None c =
    let run = c.name_end-j.ensures in
    a_name c.args.text.now c.args.i c.name_end-j.result (omega (arith, run.from)) run.within c.requires.begins run.continues run.stops c.requires.no_time _ c.in_ok-from_slice-in-None.ensures (omega (arith, c.if-j-i.false, run.from)) c.in-None.ensures.none
