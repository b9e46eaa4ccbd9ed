use Rattle.std.proofs.Common.{◌∙◌, ◌<◌, length, ap, subst}
use Rattle.ps_model.specs.Blocks.{block}
use Rattle.ps_bench_waves.proofs.Unchanging.{still_is}
use Rattle.ps_bench_waves.proofs.reads.still_pin.Goals as goal

pub returns-then-j-input_count : goal.returns-then-j-input_count
returns-then-j-input_count c = still_is c.args.app.now c.args.i c.args.j c.still_input.result
    (subst (λ n. c.args.i < n) c.instance_count.ensures c.if-i-instance_count.true)
    (subst (λ n. c.args.j < n) (c.input_count.ensures ∙ ap (λ kind. length (block kind).inputs) c.instance_kind.ensures) c.if-j-input_count.true)
    c.still_input.ensures
