use Rattle.std.proofs.Common.{◌≡◌, ◌∙◌, length, ap, subst, arith}
use Rattle.ps_model.specs.Blocks.{block}
use Rattle.ps_model.specs.Network.{kind_at}
use Rattle.ps_model.proofs.FirstPinBound.{first_pin-bound}
use Rattle.ps_bench_names.specs.Names.{IsNameOf}
use Rattle.ps_bench_never.proofs.Pins.{pins_counted}
use Rattle.ps_bench_never.proofs.ruling.subject_of.Goals as goal

pub overflow_add-result : goal.overflow_add-result
overflow_add-result c =
    let net = c.args.app.now in
    let kind = kind_at net c.in-Pin.instance in
    let stands = subst (IsNameOf net) c.in-Pin.is c.requires in
    let bound = first_pin-bound net c.in-Pin.instance stands.0 in
    let pins = pins_counted kind in
    let inputs : c.input_count-inputs.result ≡ length (block kind).inputs = c.input_count-inputs.ensures ∙ ap (λ k. length (block k).inputs) c.instance_kind.ensures in
    omega (arith, stands.1, bound, pins, inputs, c.first_pin.ensures, c.from.ensures, c.if-pin-inputs, c.sound.ensures.few_signals)
