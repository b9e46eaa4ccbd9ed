use Rattle.ps_rows.proofs.EachKind.{decision_by_rows}
use Rattle.ps_rows.proofs.table.next_of.Goals as goal

pub returns : goal.returns
returns c =
    record {
      first = c.first_fit.ensures;
      decides = decision_by_rows c.args.kind c.args.code c.args.conditions c.first_fit.result c.first_fit.ensures;
    }
