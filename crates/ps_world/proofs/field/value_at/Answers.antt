use Rattle.std.proofs.Common.{◌-◌, ◌/◌, ◌%◌, sym, arith}
use Rattle.ps_world.proofs.FieldValues.{diag_value, no_value}
use Rattle.ps_world.proofs.field.value_at.Goals as goal

pub returns-then-instance-len : goal.returns-then-instance-len
returns-then-instance-len c = sym (no_value c.args.report.now c.args.field (omega arith))

pub returns : goal.returns
returns c =
    let report = c.args.report.now in
    let behind = c.args.field - c.len-outputs.result in
    sym (diag_value report (behind / 3) (behind % 3) c.args.field c.at-2.result c.part_of.result c.at-2.ensures (omega arith) (omega arith) c.part_of.ensures)
