use Rattle.std.proofs.Common.{List, Bool, refl, sym, subst}
use Rattle.ps_scan.specs.Cells.{Cells}
use Rattle.ps_scan.specs.Scan.{CellsStand, IsScan}
use Rattle.ps_runs.proofs.watching.Evaluated.scan.Goals as goal

pub returns-clause-evaluates : goal.returns-clause-evaluates
returns-clause-evaluates c = λ past stands due.
    let next = subst (λ (ins : List Bool). IsScan c.args.app.now past c.args.scan.now.now ins c.scan.new.report c.scan.new.self)
    c.as_slice.ensures (c.scan.ensures.solves past stands.state due) in
    record {
      state = next.state;
      solves = next.solves;
      stands = record { state = next.stands; time = refl };
      before = subst (λ (cells : Cells). CellsStand c.args.app.now past cells) (sym c.copy_from.ensures) stands.state;
      reports = next.reports;
    }
