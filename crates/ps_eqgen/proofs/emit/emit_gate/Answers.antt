use Rattle.std.proofs.Common.{◌≡◌, ◌∷◌, ◌++◌, subst, ap, ◌∙◌}
use Rattle.std.specs.Prelude.{OnOk}
use Rattle.std.specs.Int.{w16, to_be_bytes}
use Rattle.ps_eqgen.proofs.Written.{gate_bytes}
use Rattle.ps_eqgen.proofs.emit.emit_gate.Goals as goal

pub returns : goal.returns
returns c =
    let a = c.args in
    let before = a.code.now.items in
    subst (λ l. OnOk c.emit_two.result (c.emit_two.new.code.items ≡ l))
    (ap (λ b. before ++ b ∷ (to_be_bytes w16 a.target ++ to_be_bytes w16 a.operand)) c.byte.ensures
    ∙ ap (λ l. before ++ l) (gate_bytes a.gate a.target a.operand))
    c.emit_two.ensures
