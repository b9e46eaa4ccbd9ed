use Rattle.std.proofs.Common.{refl, false}
use Rattle.ps_model.specs.Blocks.{block}
use Rattle.ps_model.specs.declared.kind.Kind.TheVariants.{TwoHandTwo}
use Rattle.ps_operator.specs.TwoHandStates.{code_of}
use Rattle.ps_block.proofs.Loading.{loads_written}
use Rattle.ps_operator.proofs.two_hand_two.TwoHandTwoSafetyBlock.store.Goals as goal

pub returns : goal.returns
unfolding block
returns c =
    let s = c.args.state.now in
    loads_written TwoHandTwo c.write.new.into (record { code = c.code.result; last_reset = false; last_auxiliary = false; mode = 0; time = s.since })
    (code_of s.phase) c.write.ensures.bytes c.code.ensures.code c.code.ensures.state_two refl refl refl c.write.ensures.time
