use Rattle.std.proofs.Common.{◌≡◌, suc, ◌+◌, subst, sym, ap, ◌∙◌, arith}
use Rattle.ps_machine.specs.Machines.{turned}
use Rattle.ps_machine.proofs.Phases.{turned_next}
use Rattle.ps_machine.proofs.Progressing.{running_next}
use Rattle.ps_eqvm.specs.Plain.{Plain, IsSized}
use Rattle.ps_eqvm.specs.Turn.{turn_plain}
use Rattle.ps_eqvm.proofs.Lengths.{turn_sized}
use Rattle.ps_eqvm.proofs.turn.turns.Goals as goal

pub loop-count-preserved : goal.loop-count-preserved
loop-count-preserved c =
    let a = c.args in
    let f = turn_plain a.signals a.instances a.code.now in
    let k = c.loop-count.count in
    let before = c.loop-count.invariant in
    let next : suc k ≡ k + 1 = omega arith in
    let here : (turned f k a.plain.now).progress ≡ 0 = ap (λ (p : Plain). p.progress) (sym before.cells) ∙ sym c.progress.ensures ∙ c.if-progress-ne0.false in
    record {
      sized = subst (IsSized a.signals a.instances) (sym c.turn.ensures) (turn_sized a.signals a.instances a.code.now c.loop-count.plain before.sized);
      cells = c.turn.ensures ∙ ap f before.cells ∙ sym (turned_next f k a.plain.now) ∙ ap (λ j. turned f j a.plain.now) next;
      running = running_next f (λ (p : Plain). p.progress) a.plain.now k before.running here;
    }
