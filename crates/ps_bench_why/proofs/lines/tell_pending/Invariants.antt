use Rattle.ps_bench_why.specs.Pending.{IsTelling, KeepsNotes, KeepsOrder}
use Rattle.ps_bench_why.proofs.lines.tell_pending.Given as goal

abbrev pub invariant-loop-turn : goal.invariant-loop-turn
invariant-loop-turn l =
    IsTelling l.explanation l.told l.lines.items l.pending.items × KeepsNotes l.fn.told l.told
    × KeepsOrder l.explanation l.fn.lines.items l.fn.pending.items l.lines.items l.pending.items
