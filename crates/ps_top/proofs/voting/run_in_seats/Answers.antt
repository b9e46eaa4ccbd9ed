use Rattle.std.proofs.Common.{◌∷◌, [], refl, sym, subst}
use Rattle.ps_runs.specs.Seats.{AreAtBeginning}
use Rattle.ps_runs.specs.declared.seats.StruckSeats.{StruckSeats}
use Rattle.ps_runs.proofs.SeatFaults.{first_fits}
use Rattle.ps_top.specs.Calls.{CallSeen, Answers, with_left}
use Rattle.ps_top.specs.Leaving.{left_with}
use Rattle.ps_top.specs.Program.{vote_named}
use Rattle.ps_top.specs.declared.left.Leaving.TheVariants.{Votes}
use Rattle.ps_top.proofs.InSeats.{seats_answer}
use Rattle.ps_top.proofs.voting.run_in_seats.Goals as goal

pub line_runner-requires : goal.line_runner-requires
line_runner-requires g c = first_fits c.args.app.now c.args.seats c.requires.first

pub returns-clause-answers : goal.returns-clause-answers
returns-clause-answers g c =
    let net = c.args.app.now in
    let trace = c.args.trace.now in
    let p : StruckSeats = c.in-Ok.runner.performer in
    let p' : StruckSeats = c.run_trace-ran.new.runner.performer in
    let old = g.C.Call.seen c.args.call.now in
    let new = g.C.Call.seen c.run_trace-ran.new.call in
    let left = left_with (Votes p'.world p'.again) new.left in
    let ran = c.run_trace-ran in
    let status = c.status_behind.result in
    let first = subst (λ (q : StruckSeats). AreAtBeginning net q) (sym c.in-Ok.ensures.seats) c.requires.first in
    let votes = c.vote_runs_are_right.ensures c.requires.accepted p.world.setup first.world.setup in
    let healed = c.heal_runs_are_right.ensures c.requires.accepted p.world.setup first.world.setup in
    let answers = seats_answer net c.sound.ensures p p' first votes healed c.in-Ok.runner.taker ran.new.runner.taker trace old new left refl ran.ensures.worked refl ran.result status c.status_behind.ensures
    ran.ensures.runs ran.ensures.goes ran.ensures.causes ran.ensures.refuses in
    subst (λ (x : CallSeen). Answers (vote_named c.args.seats.heals net c.args.seats.world.setup c.args.seats.faults trace) (trace ∷ []) old x status) (sym c.leave.ensures)
    (subst (λ (q : StruckSeats). Answers (vote_named q.heals net q.world.setup q.faults trace) (trace ∷ []) old (with_left left new) status) c.in-Ok.ensures.seats answers)
