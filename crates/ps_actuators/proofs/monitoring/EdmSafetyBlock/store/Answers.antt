use Rattle.std.proofs.Common.{refl, false}
use Rattle.ps_model.specs.Blocks.{block}
use Rattle.ps_model.specs.declared.kind.Kind.TheVariants.{Edm}
use Rattle.ps_actuators.specs.EdmStates.{code_of}
use Rattle.ps_block.proofs.Loading.{loads_written, small_bit}
use Rattle.ps_actuators.proofs.monitoring.EdmSafetyBlock.store.Goals as goal

pub returns : goal.returns
unfolding block
returns c =
    let s = c.args.state.now in
    loads_written Edm c.write.new.into (record { code = c.code.result; last_reset = s.last_reset; last_auxiliary = false; mode = 0; time = s.since })
    (code_of s.phase) c.write.ensures.bytes c.code.ensures.code c.code.ensures.state (small_bit s.last_reset) refl refl c.write.ensures.time
