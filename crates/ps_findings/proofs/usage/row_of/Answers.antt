use Rattle.std.proofs.Common.{List, ℕ, ◌&&◌, eqb, length, not, arith, ap, sym, ◌∙◌}
use Rattle.std.specs.Str.{bytes_eq}
use Rattle.ps_findings.specs.Usage.{command_in, row_among, rows_of}
use Rattle.ps_findings.proofs.Usages.{no_row, row_is, row_is_not}
use Rattle.ps_findings.proofs.usage.row_of.Goals as goal

pub returns-then-is_of : goal.returns-then-is_of
returns-then-is_of c =
    let word = c.args.word.now in
    let table = c.args.table.now in
    let row = c.line_at-row.ensures in
    row ∙ row_is table word c.loop-number.number (omega arith) (rows_of table)
    (sym (c.is_of.ensures ∙ ap (λ (r : List ℕ). not (eqb (length word) 0) && bytes_eq (command_in r) word) row) ∙ c.if-is_of.true) c.loop-number.invariant

pub loop-number-preserved : goal.loop-number-preserved
loop-number-preserved c =
    let word = c.args.word.now in
    let table = c.args.table.now in
    row_is_not table word c.loop-number.number (omega arith) (rows_of table)
    (sym (c.is_of.ensures ∙ ap (λ (r : List ℕ). not (eqb (length word) 0) && bytes_eq (command_in r) word) c.line_at-row.ensures) ∙ c.if-is_of.false)
    c.loop-number.invariant

pub returns : goal.returns
returns c = sym (ap (row_among c.args.word.now) (no_row c.args.table.now c.loop-number.number (omega arith))) ∙ c.loop-number.invariant
