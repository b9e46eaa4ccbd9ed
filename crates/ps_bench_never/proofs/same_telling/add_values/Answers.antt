use Rattle.std.proofs.Common.{◌+◌, ◌++◌, ◌∙◌, get_or, false}
use Rattle.ps_model.specs.Network.{input_count}
use Rattle.ps_bench_never.specs.Casing.{set_text}
use Rattle.ps_bench_never.proofs.Joining.{one_more}
use Rattle.ps_bench_never.proofs.same_telling.add_values.Goals as goal

pub loop-o-preserved : goal.loop-o-preserved
loop-o-preserved c =
    one_more (λ o. set_text c.args.app.now (input_count c.args.app.now + o) (get_or c.args.values.now o false)) c.loop-o.o c.loop-o.text c.add_set.new.text
    c.args.text.now c.loop-o.invariant
    (c.in_ok-add_set.ensures ∙ (λ x. c.loop-o.text ++ set_text c.args.app.now (c.input_count-first.ensures x + c.loop-o.o) (c.value_at.ensures x)))
