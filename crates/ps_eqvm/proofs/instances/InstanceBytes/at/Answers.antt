use Rattle.std.proofs.Common.{◌≡◌, ℕ, ◌*◌, List, take, drop, IfNone, ap, ◌∙◌, sym, subst, zero-add}
use Rattle.ps_machine.specs.Bytes.{instance_bytes}
use Rattle.ps_eqvm.specs.Plain.{complement}
use Rattle.ps_eqvm.specs.Instances.{sixteen_at, LoadNowhere}
use Rattle.ps_eqvm.proofs.instances.InstanceBytes.at.Goals as goal

pub returns-clause-none : goal.returns-clause-none
returns-clause-none c =
    let at = 16 * c.args.i in
    let same : sixteen_at at c.deref.result.now ≡ instance_bytes 0 c.args.i c.args.self.now =
    ap (λ (l : List ℕ). take 16 (drop at (complement l))) c.deref.ensures.value ∙ ap (λ (l : List ℕ). take 16 (drop at l)) c.self.view_is
    ∙ ap (λ (n : ℕ). take 16 (drop n c.args.self.now)) (sym (zero-add at)) in
    subst (λ (bytes : List ℕ). IfNone c.read.result (LoadNowhere bytes)) same c.read.ensures.none
