use Rattle.std.proofs.Common.{◌++◌, ◌∙◌, get_or, false}
use Rattle.ps_bench_never.specs.Casing.{change_text}
use Rattle.ps_bench_never.proofs.Joining.{one_more}
use Rattle.ps_bench_never.proofs.casing.add_changes.Goals as goal

pub loop-i-preserved : goal.loop-i-preserved
loop-i-preserved c =
    one_more (λ i. change_text c.args.app.now i (get_or c.args.before.now i false) (get_or c.args.values.now i false)) c.loop-i.i c.loop-i.text c.add_change.new.text c.args.text.now
    c.loop-i.invariant
    (c.in_ok-add_change.ensures ∙ (λ x. c.loop-i.text ++ change_text c.args.app.now c.loop-i.i (c.value_at.ensures x) (c.value_at-in-loop-i.ensures x)))
