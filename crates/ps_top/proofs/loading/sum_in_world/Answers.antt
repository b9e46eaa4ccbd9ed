use Rattle.std.proofs.Common.{◌∙◌, [], ap, subst, sym, refl}
use Rattle.ps_load.specs.Texts.{trace_text}
use Rattle.ps_runs.specs.Running.{IsBeginning}
use Rattle.ps_runs.specs.declared.striking.StruckWorld.{StruckWorld}
use Rattle.ps_trace.specs.Scans.{scans_of}
use Rattle.ps_world.specs.Whole.{Whole}
use Rattle.ps_top.specs.Calls.{CallSeen, Answers, with_left}
use Rattle.ps_top.specs.Leaving.{left_with}
use Rattle.ps_top.specs.Program.{sum_scans}
use Rattle.ps_top.specs.declared.left.Leaving.TheVariants.{World}
use Rattle.ps_top.proofs.loading.sum_in_world.Goals as goal

pub for_app-requires-clause-performer : goal.for_app-requires-clause-performer
for_app-requires-clause-performer g c = c.new-world.ensures.fits c.args.app.now c.requires.first

pub read_sums-status-requires-clause-first : goal.read_sums-status-requires-clause-first
read_sums-status-requires-clause-first g c =
    subst (λ (p : StruckWorld). IsBeginning c.args.app.now p) (sym c.in-Ok.ensures.performer) (c.new-world.ensures.begins c.args.app.now c.requires.first)

pub read_sums-status-requires-clause-quiet : goal.read_sums-status-requires-clause-quiet
read_sums-status-requires-clause-quiet g c = ap (λ (p : StruckWorld). p.faults) c.in-Ok.ensures.performer ∙ c.new-world.ensures.faults ∙ c.new.ensures

pub returns-clause-answers : goal.returns-clause-answers
returns-clause-answers g c =
    let net = c.args.app.now in
    let n = c.args.number in
    let p' : StruckWorld = c.read_sums-status.new.runner.performer in
    let old = g.C.Call.seen c.args.call.now in
    let new = g.C.Call.seen c.read_sums-status.new.call in
    let left = left_with (World p'.world p'.trip) new.left in
    let status = c.read_sums-status.result in
    subst (λ (x : CallSeen). Answers (sum_scans n net c.args.world.setup (scans_of (trace_text n) net)) [] old x status) (sym c.leave.ensures)
    (subst (λ (w : Whole). Answers (sum_scans n net w.setup (scans_of (trace_text n) net)) [] old (with_left left new) status)
    (ap (λ (p : StruckWorld). p.world) c.in-Ok.ensures.performer ∙ c.new-world.ensures.world) (c.read_sums-status.ensures.answers left refl refl))
