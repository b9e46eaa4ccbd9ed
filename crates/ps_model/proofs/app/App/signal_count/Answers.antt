use Rattle.std.proofs.Common.{◌≡◌, ◌+◌, length, ap, arith}
use Rattle.ps_model.specs.Network.{declared_count, signal_count}
use Rattle.ps_model.specs.Named.{pin_types}
use Rattle.ps_model.proofs.Placing.{all_signals}
use Rattle.ps_model.proofs.app.App.signal_count.Goals as goal

total : (c : goal.After-output_types) → declared_count c.args.self.now + length c.output_types.result.now ≡ signal_count c.args.self.now
total c =
    omega (
      arith,
      ap length c.output_types.ensures,
      ap (λ net. length (pin_types net.instances)) c.self.view_is,
      all_signals c.args.self.now,
    )

pub overflow_cast-result : goal.overflow_cast-result
overflow_cast-result c = omega (arith, total c, c.sound.ensures.few_signals)

pub overflow_add-result : goal.overflow_add-result
overflow_add-result c = omega (arith, total c, c.sound.ensures.few_signals)

pub returns : goal.returns
returns c = omega (arith, total c)
