use Rattle.std.proofs.Common.{◌≡◌, ℕ, List, subst, sym, ap, ◌∙◌}
use Rattle.ps_machine.specs.Machines.{turned}
use Rattle.ps_machine.specs.Progressing.{progress_said}
use Rattle.ps_machine.specs.StoredChannel.{Stored}
use Rattle.ps_eqvm.specs.Channel.{progress_of}
use Rattle.ps_eqvm.specs.Plain.{Plain, IsSized, laid_out}
use Rattle.ps_eqvm.specs.Turn.{turn_b, turn_plain}
use Rattle.ps_eqvm.proofs.StoredRuns.{run_sized, stored_run, progress_after}
use Rattle.ps_eqvm.proofs.channel.EquationChannel.turns.Goals as goal

pub returns-clause-cells : goal.returns-clause-cells
returns-clause-cells c =
    let s = c.self.inside in
    let n = s.sizes.signals in
    let k = s.sizes.instances in
    let made = c.turns.result in
    let moved : c.turns.new.plain ≡ turned (turn_plain n k s.code.items) made s.plain =
    c.turns.ensures.cells ∙ ap (λ (l : List ℕ). turned (turn_plain n k l) made s.plain) c.deref.ensures.value in
    ap (λ (l : List ℕ). record { sizes = s.sizes; code = s.code.items; cells = l })
    (ap laid_out moved ∙ sym (stored_run n k s.code.items c.self.invariant.1 made s.plain c.sound.ensures c.self.invariant.0))
    ∙ ap (λ (v : Stored). record v { cells = turned (turn_b v.sizes v.code) made v.cells }) c.self.view_is

pub returns-clause-running : goal.returns-clause-running
returns-clause-running c = λ j low.
    let s = c.self.inside in
    let n = s.sizes.signals in
    let k = s.sizes.instances in
    ap (λ (v : Stored). progress_said (progress_of (turned (turn_b v.sizes v.code) j v.cells))) (sym c.self.view_is)
    ∙ ap progress_said (
    progress_after n k s.code.items c.self.invariant.1 j s.plain c.sound.ensures c.self.invariant.0
    ∙ ap (λ (l : List ℕ). (turned (turn_plain n k l) j s.plain).progress) (sym c.deref.ensures.value)
    ∙ c.turns.ensures.running j low)

pub invariant_of-self : goal.invariant_of-self
invariant_of-self c =
    let s = c.self.inside in
    (subst (λ (p : Plain). IsSized s.sizes.signals s.sizes.instances p) (sym c.turns.ensures.cells) (run_sized s.sizes.signals s.sizes.instances c.deref.result.now c.turns.result s.plain c.self.invariant.0), c.self.invariant.1, c.self.invariant.2)
