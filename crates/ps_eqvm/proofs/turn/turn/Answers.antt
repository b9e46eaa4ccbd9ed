use Rattle.std.proofs.Common.{ℕ, ◌<◌, length, Result, ap, ◌∙◌, arith}
use Rattle.ps_eqvm.specs.declared.trap.Trap.{Trap}
use Rattle.ps_eqvm.specs.Rows.{EquationRow, fetched}
use Rattle.ps_eqvm.specs.Turn.{carried_out}
use Rattle.ps_eqvm.proofs.Fetching.{fetched_none}
use Rattle.ps_eqvm.proofs.turn.turn.Goals as goal

pub returns-in-None : goal.returns-in-None
returns-in-None c =
    let a = c.args in
    let at = c.offset-at.result in
    let low : at < length a.code.now = omega arith in
    c.trap-in-None.ensures
    ∙ ap (λ (r : Result EquationRow Trap). carried_out a.signals a.instances r a.plain.now) (fetched_none a.code.now at low c.in-None.ensures.none)
    ∙ ap (λ (n : ℕ). carried_out a.signals a.instances (fetched a.code.now n) a.plain.now) c.offset-at.ensures
