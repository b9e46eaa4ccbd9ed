use Rattle.ps_bench_never.proofs.SameComing.{ordered_other, reads_wanting, stops_wanting, writes_wanting}
use Rattle.ps_bench_never.proofs.comparing.open_other.Goals as goal

pub returns-in-Ok-clause-app : goal.returns-in-Ok-clause-app
returns-in-Ok-clause-app g c =
    let sourced = c.in-Ok.sourced in
    ordered_other (g.F.Files.tells c.args.files.now) (g.F.Files.held c.args.files.now) c.args.name.now c.args.first.now sourced.opened.app sourced.source
    c.in_order.result (sourced.opened.sizes, c.in-Ok.ensures.app) c.in-Ok.ensures.source c.in-Ok.ensures.stands c.in_order.ensures.ordered

pub returns-in-Ok-clause-stops : goal.returns-in-Ok-clause-stops
returns-in-Ok-clause-stops g c =
    stops_wanting c.in_order.result c.in_order.ensures.stops (g.F.Files.tells c.args.files.now) (g.F.Files.held c.args.files.now) c.args.name.now
    (g.O.Sink.tells c.args.out.now) (g.O.Sink.taken c.args.out.now) _ c.in-Ok.ensures.unsaid

pub returns-in-Ok-clause-unread : goal.returns-in-Ok-clause-unread
returns-in-Ok-clause-unread g c = reads_wanting c.in_order.result c.in_order.ensures.stops _

pub returns-in-Ok-clause-unwritten : goal.returns-in-Ok-clause-unwritten
returns-in-Ok-clause-unwritten g c = writes_wanting c.in_order.result c.in_order.ensures.stops _
