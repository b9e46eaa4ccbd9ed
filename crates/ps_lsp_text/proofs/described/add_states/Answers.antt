use Rattle.std.proofs.Common.{[], ◌++◌, sym, ◌+◌}
use Rattle.ps_lsp_text.specs.Describing.{state_line, states_below}
use Rattle.ps_lsp_text.proofs.Growing.{extends_as, extends_both, extends_none, no_states, states_more}
use Rattle.ps_lsp_text.proofs.described.add_states.Goals as goal

pub loop-code-init : goal.loop-code-init
loop-code-init c = extends_as c.args.text.now c.args.text.now [] (states_below c.args.kind 0) (sym (no_states c.args.kind)) (extends_none c.args.text.now)

pub loop-code-preserved : goal.loop-code-preserved
loop-code-preserved c =
    let code = c.loop-code.code in
    let kind = c.args.kind in
    extends_as c.args.text.now c.add_state.new.text (states_below kind code ++ state_line kind code) (states_below kind (code + 1)) (sym (states_more kind code))
    (extends_both c.args.text.now c.loop-code.text c.add_state.new.text (states_below kind code) (state_line kind code) c.loop-code.invariant c.add_state.ensures)
