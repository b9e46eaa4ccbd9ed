use Rattle.std.proofs.Common.{◌∙◌, Ok, sym, ap, subst}
use Rattle.ps_bench_logs.specs.Rows.{Said}
use Rattle.ps_bench_logs.specs.Saying.{said_by}
use Rattle.ps_bench_logs.specs.declared.table.RowSays.{RowSays}
use Rattle.ps_bench_logs.specs.Lines.{Took}
use Rattle.ps_bench_logs.proofs.Rows.{nothing_taken}
use Rattle.ps_bench_logs.proofs.recording.take_row.Goals as goal

pub returns-in-Nothing-clause-took : goal.returns-in-Nothing-clause-took
returns-in-Nothing-clause-took g c =
    let tells = g.S.Sink.tells in
    let taken = g.S.Sink.taken in
    let faults = g.S.Sink.faults in
    subst (λ (said : Said). Took tells taken faults said c.args.number c.args.last c.args.out.now c.args.out.now (Ok c.args.last))
    (sym (c.read_row.ensures.says ∙ ap (λ (says : RowSays). said_by says c.read_row.new.ins) c.in-Nothing.is))
    (nothing_taken tells taken faults c.args.number c.args.last c.args.out.now)
