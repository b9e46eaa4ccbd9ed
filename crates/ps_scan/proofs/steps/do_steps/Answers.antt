use Rattle.std.proofs.Common.{◌<◌, ◌+◌, length, take, sym, subst, arith}
use Rattle.ps_model.specs.Running.{Interim, exec}
use Rattle.ps_model.proofs.Once.{element_at}
use Rattle.ps_model.proofs.OneSolution.{exec_next}
use Rattle.ps_scan.specs.Midway.{Midway}
use Rattle.ps_scan.proofs.steps.do_steps.Goals as goal

pub loop-k-init : goal.loop-k-init
unfolding exec
loop-k-init c = record { sizes = c.requires.sizes; diagnoses = c.requires.diagnoses; done = λ t dt m later mid. mid }

pub loop-k-preserved : goal.loop-k-preserved
loop-k-preserved c =
    let net = c.args.app.now in
    let inside : c.loop-k.k < length net.steps = omega arith in
    let e = element_at net.steps c.loop-k.k inside in
    record {
      sizes = c.do_step.ensures.sizes;
      diagnoses = c.do_step.ensures.diagnoses;
      done = λ t dt m later mid.
          subst (λ (z : Interim). Midway net t dt c.args.now (c.loop-k.k + 1) c.do_step.new.w c.do_step.new.diags z) (sym (exec_next net dt net.steps c.loop-k.k e.0 m e.1))
          (c.do_step.ensures.done t dt (exec net dt (take c.loop-k.k net.steps) m) e.0 e.1 later (c.loop-k.invariant.done t dt m later mid));
    }
