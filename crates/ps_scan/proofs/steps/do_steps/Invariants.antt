use Rattle.std.proofs.Common.{◌≡◌, ◌≤◌, ℕ, take, length}
use Rattle.ps_model.specs.Network.{instance_count}
use Rattle.ps_model.specs.Running.{Interim, exec}
use Rattle.ps_scan.specs.Cells.{IsFor}
use Rattle.ps_scan.specs.Midway.{Midway}
use Rattle.ps_scan.proofs.steps.do_steps.Given as goal

abbrev pub invariant-loop-k : goal.invariant-loop-k
invariant-loop-k l = record {
  sizes : IsFor l.app l.w;
  diagnoses : length l.diags ≡ instance_count l.app;
  done : (t dt : ℕ) (m : Interim) → t ≤ l.now → Midway l.app t dt l.now 0 l.initial.w l.initial.diags m →
      Midway l.app t dt l.now l.k l.w l.diags (exec l.app dt (take l.k l.app.steps) m);
}
