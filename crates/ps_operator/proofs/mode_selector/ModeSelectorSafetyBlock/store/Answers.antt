use Rattle.std.proofs.Common.{ap, ◌∙◌, subst}
use Rattle.ps_model.specs.Blocks.{block}
use Rattle.ps_model.specs.Stored.{Loads, is_mode}
use Rattle.ps_model.specs.declared.kind.Kind.TheVariants.{ModeSelector}
use Rattle.ps_operator.specs.ModeSelectorStates.{code_of}
use Rattle.ps_block.proofs.Loading.{loads_written, small_bit}
use Rattle.ps_operator.proofs.Modes.{mode_state, mode_kept}
use Rattle.ps_operator.proofs.mode_selector.ModeSelectorSafetyBlock.store.Goals as goal

pub returns : goal.returns
unfolding block
returns c =
    let s = c.args.state.now in
    subst (λ m. Loads ModeSelector c.write.new.into (record { code = code_of s.phase; last_reset = s.last_reset; last_auxiliary = s.last_set_mode; mode = m; timer = s.since })) c.mode.ensures.mode
    (loads_written ModeSelector c.write.new.into (record { code = c.code.result; last_reset = s.last_reset; last_auxiliary = s.last_set_mode; mode = c.mode.result; time = s.since })
    (code_of s.phase) c.write.ensures.bytes c.code.ensures (mode_state s.phase) (small_bit s.last_reset) (small_bit s.last_set_mode)
    (ap (is_mode ModeSelector (code_of s.phase)) c.mode.ensures.mode ∙ mode_kept s.phase) c.write.ensures.time)
