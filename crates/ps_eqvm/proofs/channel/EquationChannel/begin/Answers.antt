use Rattle.std.proofs.Common.{◌≤◌, ap, ◌∙◌, sym, subst, List, ℕ, Bool, length, arith}
use Rattle.ps_eqvm.specs.Plain.{Plain, IsSized, laid_out}
use Rattle.ps_eqvm.specs.Turn.{begin_b, begin_plain}
use Rattle.ps_machine.specs.StoredChannel.{Stored}
use Rattle.ps_eqvm.proofs.Again.{begin_again}
use Rattle.ps_eqvm.proofs.Lengths.{begin_sized}
use Rattle.ps_eqvm.proofs.channel.EquationChannel.begin.Goals as goal

pub returns : goal.returns
returns c =
    let s = c.self.inside in
    let now = c.args.scan.now.now in
    let ins = c.args.scan.now.ins in
    let moved = c.begin.ensures ∙ ap (λ (values : List Bool). begin_plain now values s.plain) c.as_slice.ensures in
    ap (λ (l : List ℕ). record { sizes = s.sizes; code = s.code.items; cells = l }) (ap laid_out moved ∙ sym (begin_again s.sizes now ins s.plain c.sound.ensures c.self.invariant.0))
    ∙ ap (λ (v : Stored). record v { cells = begin_b v.sizes now ins v.cells }) c.self.view_is

pub invariant_of-self : goal.invariant_of-self
invariant_of-self c =
    let s = c.self.inside in
    let count = ap length c.as_slice.ensures in
    let same = ap (λ (v : Stored). v.sizes.inputs) c.self.view_is in
    let few : length c.as_slice.result.now ≤ s.sizes.signals = omega (arith, count, c.requires, same, s.sizes.places.declared) in
    (subst (λ (p : Plain). IsSized s.sizes.signals s.sizes.instances p) (sym c.begin.ensures) (begin_sized s.sizes.signals s.sizes.instances c.args.scan.now.now c.as_slice.result.now s.plain few c.self.invariant.0), c.self.invariant.1, c.self.invariant.2)
