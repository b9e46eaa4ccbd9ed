use Rattle.std.proofs.Common.{◌≡◌}
use Rattle.ps_findings.specs.Usage.{row_among, rows_from, rows_of}
use Rattle.ps_findings.proofs.usage.row_of.Given as goal

-- what is found among the rows that are left is what is found among all
abbrev pub invariant-loop-number : goal.invariant-loop-number
invariant-loop-number l = row_among l.word (rows_from l.table l.number) ≡ row_among l.word (rows_of l.table)
