use Rattle.std.proofs.Common.{refl, false}
use Rattle.ps_model.specs.Blocks.{block}
use Rattle.ps_model.specs.declared.kind.Kind.TheVariants.{EmergencyStop, Espe}
use Rattle.ps_sensors.specs.Stop.{code_of}
use Rattle.ps_block.proofs.Loading.{loads_written, small_bit}
use Rattle.ps_sensors.proofs.stop.StopState.store.Goals as goal

pub returns-clause-emergency_stop : goal.returns-clause-emergency_stop
unfolding block
returns-clause-emergency_stop c =
    let s = c.args.self.now in
    loads_written EmergencyStop c.write.new.into (record { code = c.code.result; last_reset = s.last_reset; last_auxiliary = false; mode = 0; time = s.since })
    (code_of s.phase) c.write.ensures.bytes c.code.ensures.code c.code.ensures.emergency_stop (small_bit s.last_reset) refl refl c.write.ensures.time

pub returns-clause-espe : goal.returns-clause-espe
unfolding block
returns-clause-espe c =
    let s = c.args.self.now in
    loads_written Espe c.write.new.into (record { code = c.code.result; last_reset = s.last_reset; last_auxiliary = false; mode = 0; time = s.since })
    (code_of s.phase) c.write.ensures.bytes c.code.ensures.code c.code.ensures.espe (small_bit s.last_reset) refl refl c.write.ensures.time
