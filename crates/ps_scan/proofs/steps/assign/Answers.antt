use Rattle.std.proofs.Common.{◌≡◌, ◌<◌, ◌+◌, ◌∙◌, Bool, List, length, set, get_or, false, sym, ap, subst, arith}
use Rattle.ps_model.specs.Action.{assigns}
use Rattle.ps_model.specs.Exprs.{formula}
use Rattle.ps_model.specs.Formula.{value}
use Rattle.ps_model.specs.Running.{done}
use Rattle.ps_scan.specs.Cells.{Cells, signal_at}
use Rattle.ps_scan.specs.Midway.{Midway}
use Rattle.ps_scan.proofs.Going.{assigned_on}
use Rattle.ps_scan.proofs.steps.assign.Goals as goal

pub returns-clause-done : goal.returns-clause-done
returns-clause-done c =
    let net = c.args.app.now in
    let e = formula c.args.value.now in
    let w : Cells = c.args.w.now in
    let target = c.sound.ensures.targets c.args.k c.args.target e c.requires.step in
    let inside : c.args.target < length w.signals = omega (arith, target.1, c.requires.sizes.signal_each) in
    let value_is : c.evaluate-value.result ≡ value (signal_at w) e =
    c.evaluate-value.ensures ∙ ap (λ (ss : List Bool). value (λ s. get_or ss s false) e) c.signals.ensures in
    let cells : c.set_signal.new.self ≡ record { signals = set w.signals c.args.target (value (signal_at w) e); instances = w.instances } =
    c.set_signal.ensures ∙ ap (λ (b : Bool). let z : Cells = record { signals = set w.signals c.args.target b; instances = w.instances } in z) value_is in
    λ t dt now ds m mid.
    subst (λ (z : Cells). Midway net t dt now (c.args.k + 1) z ds (done net dt (assigns c.args.target e) m)) (sym cells)
    (assigned_on net t dt now c.args.k c.args.target e w ds m c.requires.step inside mid)
