use Rattle.std.proofs.Common.{◌∙◌, ap, arith}
use Rattle.std.specs.Prelude.{◌==◌}
use Rattle.ps_model.specs.Kept.{stepped}
use Rattle.ps_model.specs.PinBits.{pin_of}
use Rattle.ps_rows.specs.Counted.{kept_of}
use Rattle.ps_rows.proofs.Stepping.{few_modes, some_answer}
use Rattle.ps_rows.proofs.step.CountedBlock.stepped.Goals as goal

pub decided-requires : goal.decided-requires
decided-requires c = omega (arith, few_modes c.args.kind c.args.self.code c.args.self.mode c.requires.mode)

pub returns-in-None : goal.returns-in-None
returns-in-None c =
    absurd (some_answer c.args.kind (pin_of c.args.bits) c.args.limit c.saturating_sub-remains.result (kept_of c.args.self) c.requires.state c.in-None.ensures)

pub returns-in-Some : goal.returns-in-Some
returns-in-Some c =
    record {
      counted = c.after.ensures.counted ∙ ap (λ left. stepped c.args.kind (pin_of c.args.bits) (left == 0) c.args.limit left (kept_of c.args.self)) c.saturating_sub-remains.ensures;
      kept = c.after.ensures.kept;
    }
