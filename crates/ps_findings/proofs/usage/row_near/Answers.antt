use Rattle.std.proofs.Common.{[], ◌+◌, ◌<◌, ◌&&◌, eqb, length, ltb, not, arith, ap, sym, ◌∙◌}
use Rattle.ps_findings.specs.Usage.{command_in, nearest, rows_from, rows_of, slips}
use Rattle.ps_findings.proofs.Usages.{is_farther, is_nearer, no_row}
use Rattle.ps_findings.proofs.usage.row_near.Goals as goal
use Rattle.ps_findings.proofs.usage.row_near.Goals.{then-is_nearer, else-is_nearer}

pub loop-number-preserved : goal.loop-number-preserved
loop-number-preserved c =
    let word = c.args.word.now in
    let table = c.args.table.now in
    let number = c.loop-number.number in
    let rest = rows_from table (number + 1) in
    let all = nearest word 3 [] (rows_of table) in
    let within : number < 20 = omega arith in
    let row = c.line_at-row.ensures in
    let count = c.slips-count.ensures ∙ ap (slips word) (c.command_in.ensures ∙ ap command_in row) in
    let test = c.is_nearer.ensures
    ∙ (λ i. not (eqb (length (command_in (row i))) 0) && ltb (count i) c.loop-number.least) in
    elim c.if-is_nearer.branch [
      | then-is_nearer w ↦
          (λ i. nearest word (w.least-is i) (w.found-is i).now rest) ∙ (λ i. nearest word (count i) (row i) rest)
          ∙ is_nearer table word number within c.loop-number.least c.loop-number.found.now all c.loop-number.invariant (sym test ∙ w.if-is_nearer.true)
      | else-is_nearer w ↦
          (λ i. nearest word (w.least-is i) (w.found-is i).now rest)
          ∙ is_farther table word number within c.loop-number.least c.loop-number.found.now all c.loop-number.invariant (sym test ∙ w.if-is_nearer.false)
    ]

pub returns : goal.returns
returns c = sym (ap (nearest c.args.word.now c.loop-number.least c.loop-number.found.now) (no_row c.args.table.now c.loop-number.number (omega arith))) ∙ c.loop-number.invariant
