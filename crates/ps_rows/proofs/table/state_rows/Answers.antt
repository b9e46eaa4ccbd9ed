use Rattle.std.proofs.Common.{Option, Some, None}
use Rattle.std.specs.Prelude.{IfSome}
use Rattle.ps_rows.specs.declared.mask_row.RowRange.{RowRange}
use Rattle.ps_rows.specs.Fitting.{IsRangeOf}
use Rattle.ps_rows.specs.Rows.{rows_of}
use Rattle.ps_rows.proofs.EachKind.{each_of_states}
use Rattle.ps_rows.proofs.Placing.{holds_exactly, holds_state, not_empty, within}
use Rattle.ps_rows.proofs.table.state_rows.Goals as goal

each_some : (o : Option RowRange) (P Q : RowRange → Type 0) → ((range : RowRange) → P range → Q range) → IfSome o P → IfSome o Q
each_some None P Q f h = h
each_some (Some range) P Q f h = f range h

pub returns-clause-some : goal.returns-clause-some
returns-clause-some c = each_some _ _ _ (λ range placed. holds_exactly c.args.code range (rows_of c.args.kind) placed) c.placed.ensures.some

pub returns-clause-state : goal.returns-clause-state
returns-clause-state c = each_some _ _ _ (λ range placed. holds_state c.args.code range (rows_of c.args.kind) placed c.args.kind (each_of_states c.args.kind)) c.placed.ensures.some

pub returns-clause-within : goal.returns-clause-within
returns-clause-within c =
    let rows = rows_of c.args.kind in
    each_some _ _ _
    (λ range placed.
    let lies : IsRangeOf rows range = (not_empty c.args.code range rows placed, within c.args.code range rows placed) in lies)
    c.placed.ensures.some
