use Rattle.std.proofs.Common.{ap, ◌∙◌, sym, subst, List, ℕ}
use Rattle.ps_eqvm.specs.Plain.{Plain, IsSized, laid_out}
use Rattle.ps_eqvm.specs.Turn.{turn_b, turn_plain}
use Rattle.ps_machine.specs.StoredChannel.{Stored}
use Rattle.ps_eqvm.proofs.Again.{turn_again}
use Rattle.ps_eqvm.proofs.Lengths.{turn_sized}
use Rattle.ps_eqvm.proofs.channel.EquationChannel.turn.Goals as goal

pub returns : goal.returns
returns c =
    let s = c.self.inside in
    let moved = c.turn.ensures ∙ ap (λ (code : List ℕ). turn_plain s.sizes.signals s.sizes.instances code s.plain) c.deref.ensures.value in
    ap (λ (l : List ℕ). record { sizes = s.sizes; code = s.code.items; cells = l }) (ap laid_out moved ∙ sym (turn_again s.sizes s.code.items s.plain c.sound.ensures c.self.invariant.0))
    ∙ ap (λ (v : Stored). record v { cells = turn_b v.sizes v.code v.cells }) c.self.view_is

pub invariant_of-self : goal.invariant_of-self
invariant_of-self c =
    let s = c.self.inside in
    (subst (λ (p : Plain). IsSized s.sizes.signals s.sizes.instances p) (sym c.turn.ensures) (turn_sized s.sizes.signals s.sizes.instances c.deref.result.now s.plain c.self.invariant.0), c.self.invariant.1, c.self.invariant.2)
