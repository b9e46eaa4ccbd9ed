use Rattle.std.proofs.Common.{ap, ◌∙◌}
use Rattle.std.specs.Prelude.{◌==◌}
use Rattle.ps_rows.specs.Names.{complemented}
use Rattle.ps_model.specs.PinBits.{pin_of}
use Rattle.ps_rows.specs.Counted.{kept_of}
use Rattle.ps_rows.proofs.Stepping.{names_of_kept}
use Rattle.ps_rows.proofs.step.CountedBlock.decided.Goals as goal

pub returns : goal.returns
returns c =
    let k = kept_of c.args.self in
    let pins = pin_of c.args.bits in
    let elapsed = c.args.remains == 0 in
    c.next_of.ensures.decides pins elapsed k (c.conditions_in.ensures ∙ ap complemented (names_of_kept c.args.kind pins elapsed k))
