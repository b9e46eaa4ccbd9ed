use Rattle.std.proofs.Common.{◌∷◌, ◌∙◌, [], List, subst}
use Rattle.ps_model.specs.declared.channel.Fault.{Fault}
use Rattle.ps_world.specs.Whole.{Setup, Whole, IsSetupOf}
use Rattle.ps_top.specs.Calls.{Answers}
use Rattle.ps_top.specs.Program.{run_named}
use Rattle.ps_top.proofs.Calling.{found_of_all}
use Rattle.ps_top.proofs.running.run_quietly.Goals as goal

pub returns-in-Ok-clause-answers : goal.returns-in-Ok-clause-answers
returns-in-Ok-clause-answers g c =
    let net = c.args.app.now in
    let trace = c.args.trace.now in
    let w : Whole = c.in-Ok.world in
    let old = g.C.Call.seen c.args.call.now in
    let new = g.C.Call.seen c.run_in_world.new.call in
    let status = c.run_in_world.result in
    found_of_all Setup (IsSetupOf net) (λ setup. run_named net setup [] trace) (trace ∷ []) {old = old} {new = new} w.setup c.in-Ok.ensures.setup
    (subst (λ (v : Whole). Answers (run_named net v.setup [] trace) (trace ∷ []) old new status) c.new-world.ensures.world
    (subst (λ (fs : List Fault). Answers (run_named net c.new-world.result.world.setup fs trace) (trace ∷ []) old new status) (c.new-world.ensures.faults ∙ c.new.ensures) c.run_in_world.ensures.answers))

pub run_in_world-requires-clause-first : goal.run_in_world-requires-clause-first
run_in_world-requires-clause-first g c = c.new-world.ensures.begins c.args.app.now c.in-Ok.ensures
