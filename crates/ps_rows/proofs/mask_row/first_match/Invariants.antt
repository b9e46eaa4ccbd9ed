use Rattle.std.proofs.Common.{◌≡◌, drop}
use Rattle.ps_rows.specs.Fitting.{first_match}
use Rattle.ps_rows.proofs.mask_row.first_match.Given as goal

-- the rows that are left decide
abbrev pub invariant-loop-row : goal.invariant-loop-row
invariant-loop-row l = first_match l.rows l.conditions ≡ first_match (drop l.row-index l.rows) l.conditions
