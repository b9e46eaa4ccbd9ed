use Rattle.std.proofs.Common.{ap, ◌∙◌, sym, subst, List, ℕ}
use Rattle.std.specs.Prelude.{nat_lt}
use Rattle.ps_eqvm.specs.Bits.{AreBitsOf}
use Rattle.ps_eqvm.specs.Plain.{Plain}
use Rattle.ps_machine.specs.StoredChannel.{Stored}
use Rattle.ps_eqvm.specs.Channel.{bit_cells}
use Rattle.ps_eqvm.proofs.Again.{again}
use Rattle.ps_eqvm.proofs.channel.EquationChannel.odd_words.Goals as goal

pub returns : goal.returns
returns c =
    let s = c.self.inside in
    let cells = sym (ap (λ (q : Plain). q.cells) (again s.sizes.signals s.sizes.instances s.plain c.sound.ensures c.self.invariant.0)) in
    subst (λ (l : List ℕ). AreBitsOf (nat_lt 1) l c.odd_words.result.now) (cells ∙ ap (λ (v : Stored). bit_cells v.sizes v.cells) c.self.view_is) c.odd_words.ensures
