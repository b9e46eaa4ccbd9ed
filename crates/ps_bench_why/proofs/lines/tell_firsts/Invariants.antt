use Rattle.std.proofs.Common.{◌≡◌, ◌<◌, ℕ, [], drop, true}
use Rattle.std.specs.Prelude.{Some, slice_get}
use Rattle.ps_bench_why.specs.Pending.{IsInOrder, IsTelling}
use Rattle.ps_bench_why.proofs.lines.tell_firsts.Given as goal

-- the facts of the lines so far are told
abbrev pub invariant-loop-line : goal.invariant-loop-line
invariant-loop-line l =
    IsTelling l.explanation l.told l.lines.items [] × (l.pending.items ≡ [])
    × ((m : ℕ) → m < l.line-index → slice_get l.told m ≡ Some true)
    × IsInOrder l.explanation l.lines.items [] (drop l.line-index l.firsts)
