use Rattle.std.proofs.Common.{arith, length, ◌<◌, take, get_or}
use Rattle.std.specs.Str.{IsCharBoundary}
use Rattle.ps_text.specs.Columns.{units}
use Rattle.ps_text.proofs.Inverse.{beginning, next, passed}
use Rattle.ps_text.proofs.columns.byte_offset.Goals.{else-width-gt0-via-then-width-gt0+else-units-column, else-width-gt0-via-else-width-gt0}
use Rattle.ps_text.proofs.columns.byte_offset.Goals as goal

pub step-preserved : goal.step-preserved
step-preserved c =
    let low : c.step.offset < length c.args.line.now = omega arith in
    let more = next c.args.line.now c.step.offset low in
    let here : IsCharBoundary c.args.line.now c.step.offset → units (take c.step.offset c.args.line.now) < c.args.column =
    λ between. let begins = beginning (get_or c.args.line.now c.step.offset 0) (between.1 low) in
    elim c.else-width-gt0.branch [
      | else-width-gt0-via-then-width-gt0+else-units-column w ↦ omega arith
      | else-width-gt0-via-else-width-gt0 w ↦ absurd (omega arith)
    ] in
    record {
      within = omega arith;
      small = omega arith;
      counted = omega arith;
      first = passed c.args.line.now c.step.offset c.args.column c.step.invariant.first here;
    }
