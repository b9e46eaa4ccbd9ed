use Rattle.std.proofs.Common.{◌≡◌, refl, ap, ◌∙◌, arith}
use Rattle.ps_model.specs.Kept.{seen}
use Rattle.ps_ways.specs.Stepping.{conditions_of, pins_of}
use Rattle.ps_model.specs.Network.{kind_at}
use Rattle.ps_model.specs.Scanning.{pins_under}
use Rattle.ps_why.specs.Scenes.{kept_in, read_in}
use Rattle.ps_why.proofs.Seeing.{conditions_are}
use Rattle.ps_why.proofs.scene_reading.conditions_at.Goals as goal

pub returns : goal.returns
returns c =
    let net = c.args.app.now in
    let call = c.args.call.now in
    let x = c.args.scene.now in
    let bits = c.read_pins-bits.result in
    let is : conditions_of c.of.result ≡ seen (kind_at net c.args.i) (pins_of bits) call.elapsed (kept_in call) =
    c.of.ensures (kept_in call) (record { reset = refl; auxiliary = refl; mode = refl })
    ∙ ap (λ kind. seen kind (pins_of bits) call.elapsed (kept_in call)) c.instance_kind-kind.ensures in
    conditions_are net x c.args.k c.args.i c.args.args.now call bits c.of.result (grind arith) is
    (λ j. c.read_pins-bits.ensures j ∙ ap (λ kind. pins_under (read_in net x c.args.k) kind c.args.args.now j) c.instance_kind-kind.ensures)
