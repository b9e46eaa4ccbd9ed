use Rattle.std.proofs.Common.{◌≡◌, []}
use Rattle.ps_findings.specs.Usage.{nearest, rows_from, rows_of}
use Rattle.ps_findings.proofs.usage.row_near.Given as goal

-- what is found among the rows that are left is what is found among all
abbrev pub invariant-loop-number : goal.invariant-loop-number
invariant-loop-number l = nearest l.word l.least l.found (rows_from l.table l.number) ≡ nearest l.word 3 [] (rows_of l.table)
