use Rattle.std.proofs.Common.{◌++◌, ◌∙◌, codes}
use Rattle.ps_model.specs.Blocks.{block}
use Rattle.ps_model.specs.Pins.{pin_count}
use Rattle.ps_lsp_text.specs.Describing.{pins_below, states_below}
use Rattle.ps_lsp_text.proofs.Growing.{extends_as, extends_both}
use Rattle.ps_lsp_text.proofs.described.add_kind.Goals as goal

pub returns : goal.returns
returns c =
    let kind = c.args.kind in
    let states = states_below kind 65536 in
    let pins = pins_below kind (pin_count kind) in
    let said = codes ", a safety function block\n" in
    let end = c.add_states.new.text in
    extends_both c.args.text.now c.add.new.self end (block kind).name (said ++ (pins ++ (codes "\n" ++ states)))
    (extends_as c.args.text.now c.add.new.self c.as_bytes.result.now (block kind).name (c.as_bytes.ensures.value ∙ c.kind_name.ensures) c.add.ensures)
    (extends_both c.add.new.self c.add-2.new.self end said (pins ++ (codes "\n" ++ states)) c.add-2.ensures
    (extends_both c.add-2.new.self c.add_pins.new.text end pins (codes "\n" ++ states) c.add_pins.ensures
    (extends_both c.add_pins.new.text c.add-3.new.self end (codes "\n") states c.add-3.ensures c.add_states.ensures)))
