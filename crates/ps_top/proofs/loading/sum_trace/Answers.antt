use Rattle.std.proofs.Common.{[]}
use Rattle.ps_load.specs.Texts.{trace_text}
use Rattle.ps_trace.specs.Scans.{scans_of}
use Rattle.ps_world.specs.Whole.{Setup, IsSetupOf}
use Rattle.ps_top.specs.Program.{sum_scans}
use Rattle.ps_top.proofs.Calling.{found_of_all}
use Rattle.ps_top.proofs.loading.sum_trace.Goals as goal

pub returns-in-Ok-clause-answers : goal.returns-in-Ok-clause-answers
returns-in-Ok-clause-answers g c =
    let net = c.args.app.now in
    let n = c.args.number in
    found_of_all Setup (IsSetupOf net) (λ setup. sum_scans n net setup (scans_of (trace_text n) net)) [] c.in-Ok.world.setup c.in-Ok.ensures.setup c.sum_in_world.ensures.answers
