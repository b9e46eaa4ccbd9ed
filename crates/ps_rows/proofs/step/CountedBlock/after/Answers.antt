use Rattle.std.proofs.Common.{◌≡◌, ◌∙◌, sym, subst}
use Rattle.std.specs.Prelude.{◌==◌}
use Rattle.ps_model.specs.Blocks.{block, at_pin}
use Rattle.ps_model.specs.Stored.{IsKept}
use Rattle.ps_model.proofs.Sixteen.{step_kept}
use Rattle.ps_model.specs.PinBits.{pin_of}
use Rattle.ps_rows.specs.Counted.{kept_of}
use Rattle.ps_rows.proofs.Stepping.{step_is}
use Rattle.ps_rows.proofs.step.CountedBlock.after.Goals as goal

pub returns : goal.returns
returns c =
    let k = kept_of c.args.self in
    let kind = c.args.kind in
    let pins = pin_of c.args.bits in
    let left = c.args.remains in
    let x = c.args.decided in
    let reset : c.is_on.result ≡ at_pin (block kind).reset pins = c.is_on.ensures (block kind).reset c.last_pins-pins.ensures.reset in
    let auxiliary : c.is_on-2.result ≡ at_pin (block kind).auxiliary pins = c.is_on-2.ensures (block kind).auxiliary c.last_pins-pins.ensures.auxiliary in
    let here : kept_of (record { code = x.0; last_reset = c.is_on.result; last_auxiliary = c.is_on-2.result; mode = c.mode_after.result; remains = c.timer_after.result })
    ≡ record { code = x.0; last_reset = at_pin (block kind).reset pins; last_auxiliary = at_pin (block kind).auxiliary pins; mode = c.mode_after.result; timer = c.timer_after.result } =
    λ i. record { code = x.0; last_reset = reset i; last_auxiliary = auxiliary i; mode = c.mode_after.result; timer = c.timer_after.result } in
    let counted = here
    ∙ step_is kind pins c.args.limit left k x c.mode_after.result c.timer_after.result c.requires.kept.state c.requires.decides c.mode_after.ensures c.timer_after.ensures in
    record {
      counted = counted;
      kept = subst (IsKept kind) (sym counted) (step_kept kind pins (left == 0) c.args.limit left k c.requires.kept c.ranges.limit.fits c.ranges.remains.fits);
    }
