use Rattle.std.proofs.Common.{◌∙◌, ◌-◌, ◌/◌, ◌%◌, sym, refl, arith}
use Rattle.ps_load.proofs.Parts.{trace_length, header_part, scan_part, part_is_rest}
use Rattle.ps_load.specs.Texts.{header_line, scan_line}
use Rattle.ps_load.proofs.texts.read_line.Goals as goal

pub returns-then-at-clause-there : goal.returns-then-at-clause-there
returns-then-at-clause-there c = omega (arith, trace_length c.args.number)

pub returns-then-at-clause-bytes : goal.returns-then-at-clause-bytes
returns-then-at-clause-bytes c =
    let same = header_part c.args.number c.args.at c.copy_first.result (omega arith) in
    c.copy_first.ensures.bytes ∙ part_is_rest header_line header_line c.args.at 41 c.copy_first.result refl refl ∙ sym same

pub overflow_cast-behind : goal.overflow_cast-behind
overflow_cast-behind c = omega (arith, trace_length c.args.number)

pub scan_line-line-requires : goal.scan_line-line-requires
scan_line-line-requires c = omega (arith, trace_length c.args.number)

pub returns-clause-there : goal.returns-clause-there
returns-clause-there c = omega (arith, trace_length c.args.number)

pub returns-clause-bytes : goal.returns-clause-bytes
returns-clause-bytes c =
    let same = scan_part c.args.number ((c.args.at - 41) / 27) ((c.args.at - 41) % 27) c.copy_first-2.result c.args.at (omega (arith, trace_length c.args.number)) (omega arith) (omega arith) in
    c.copy_first-2.ensures.bytes ∙ part_is_rest (scan_line ((c.args.at - 41) / 27)) c.scan_line-line.result ((c.args.at - 41) % 27) 27 c.copy_first-2.result c.scan_line-line.ensures refl ∙ sym same
