use Rattle.std.proofs.Common.{false}
use Rattle.ps_bench_watch.proofs.Quiet as quiet
use Rattle.ps_bench_watch.proofs.live_laws.live_is_fault.Goals as goal

pub returns-clause-run : goal.returns-clause-run
returns-clause-run c = λ bytes left end said trips are held app trace text is lines.
    quiet.says_as_run c.args.app.now c.sound.ensures c.quiet_runs_release.ensures c.scans_in_order.ensures c.no_fault_no_trip.ensures.trips
    false bytes left end said trips are held app trace text is lines are.says

pub returns-clause-fault : goal.returns-clause-fault
returns-clause-fault c = λ bytes left end said trips are held app trace name text is has lines.
    quiet.says_as_fault c.args.app.now c.sound.ensures c.quiet_runs_release.ensures c.scans_in_order.ensures c.no_fault_no_trip.ensures.trips
    false bytes left end said trips are held app trace text is lines are.says name has

pub returns-clause-none_trips : goal.returns-clause-none_trips
returns-clause-none_trips c = λ by_name bytes left end said trips are held app trace text is lines.
    quiet.none_trips c.args.app.now c.sound.ensures c.quiet_runs_release.ensures c.scans_in_order.ensures c.no_fault_no_trip.ensures.trips
    by_name bytes left end said trips are held app trace text is lines
