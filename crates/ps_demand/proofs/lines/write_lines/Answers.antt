use Rattle.std.proofs.Common.{◌≤◌, ◌++◌, ap, sym, ◌∙◌, arith}
use Rattle.ps_model.specs.Network.{input_count}
use Rattle.ps_demand.specs.Lines.{demand_line}
use Rattle.ps_demand.proofs.Lined.{with_line, without_line}
use Rattle.ps_demand.proofs.lines.write_lines.Goals.{then-is_safe+in_ok-write_line, else-is_safe}
use Rattle.ps_demand.proofs.lines.write_lines.Goals as goal

pub loop-signal-preserved : goal.loop-signal-preserved
loop-signal-preserved c =
    let net = c.args.app.now in
    let s = c.loop-signal.signal in
    let behind : input_count net ≤ s = omega (arith, c.loop-signal.auto.signal, c.input_count-first.ensures) in
    elim c.if-is_safe.branch [
      | then-is_safe+in_ok-write_line w ↦
          w.bytes-is ∙ w.in_ok-write_line.ensures ∙ ap (λ b. b ++ demand_line net s) c.loop-signal.invariant
          ∙ sym (with_line net s behind (sym c.is_safe.ensures ∙ w.if-is_safe.true))
      | else-is_safe w ↦
          w.bytes-is ∙ c.loop-signal.invariant ∙ sym (without_line net s behind (sym c.is_safe.ensures ∙ w.if-is_safe.false))
    ]
