use Rattle.std.proofs.Common.{refl, ap, ◌∙◌}
use Rattle.std.specs.Prelude.{◌==◌}
use Rattle.ps_model.specs.Kept.{seen}
use Rattle.ps_model.specs.PinBits.{pin_of}
use Rattle.ps_rows.specs.Counted.{kept_of}
use Rattle.ps_ways.specs.Marks.{number_taken}
use Rattle.ps_ways.proofs.moving.number_of.Goals as goal

pub returns : goal.returns
returns c =
    let b = c.args.block.now in
    c.number_taken.ensures (kept_of b) (record { reset = refl; auxiliary = refl; mode = refl })
    ∙ ap (λ left. number_taken c.args.kind b.code (seen c.args.kind (pin_of c.args.bits) (left == 0) (kept_of b))) c.saturating_sub-elapsed.ensures
