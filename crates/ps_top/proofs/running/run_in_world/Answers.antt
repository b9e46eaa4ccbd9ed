use Rattle.std.proofs.Common.{◌∷◌, ◌∙◌, [], refl, sym, ap, subst}
use Rattle.ps_runs.specs.Running.{IsBeginning}
use Rattle.ps_runs.specs.declared.striking.StruckWorld.{StruckWorld}
use Rattle.ps_runs.proofs.ToCome.{first_fits}
use Rattle.ps_top.specs.Calls.{CallSeen, Answers, with_left}
use Rattle.ps_top.specs.Leaving.{left_with}
use Rattle.ps_top.specs.Program.{run_named}
use Rattle.ps_top.specs.Running.{status_behind}
use Rattle.ps_top.specs.declared.Status.{Status}
use Rattle.ps_top.specs.declared.left.Leaving.TheVariants.{World}
use Rattle.ps_top.proofs.InWorld.{world_answers}
use Rattle.ps_top.proofs.running.run_in_world.Goals as goal

pub line_runner-requires : goal.line_runner-requires
line_runner-requires g c = first_fits c.args.app.now c.args.world c.requires.first

pub returns-clause-answers : goal.returns-clause-answers
returns-clause-answers g c =
    let net = c.args.app.now in
    let trace = c.args.trace.now in
    let p : StruckWorld = c.in-Ok.runner.performer in
    let p' : StruckWorld = c.run_trace-ran.new.runner.performer in
    let old = g.C.Call.seen c.args.call.now in
    let new = g.C.Call.seen c.run_trace-ran.new.call in
    let left = left_with (World p'.world p'.trip) new.left in
    let ran = c.run_trace-ran in
    let status = c.status_behind-status.result in
    let first = subst (λ (q : StruckWorld). IsBeginning net q) (sym c.in-Ok.ensures.world) c.requires.first in
    let right = c.runs_are_right.ensures c.requires.accepted p.world.setup first.world.setup in
    let ends = c.status_behind-status.ensures ∙ ap (λ (s : Status). status_behind ran.result s) c.status_at_end.ensures in
    let answers = world_answers net c.sound.ensures p p' first right c.in-Ok.runner.taker ran.new.runner.taker trace old new left refl ran.ensures.worked refl ran.result status ends
    ran.ensures.runs ran.ensures.goes ran.ensures.causes ran.ensures.refuses in
    subst (λ (x : CallSeen). Answers (run_named net c.args.world.world.setup c.args.world.faults trace) (trace ∷ []) old x status) (sym c.leave.ensures)
    (subst (λ (q : StruckWorld). Answers (run_named net q.world.setup q.faults trace) (trace ∷ []) old (with_left left new) status) c.in-Ok.ensures.world answers)
