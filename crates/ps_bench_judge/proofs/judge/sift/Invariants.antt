use Rattle.std.proofs.Common.{◌≡◌, ◌&&◌, ℕ, Bool, List, ◌∷◌, take}
use Rattle.std.specs.List.{list_all}
use Rattle.ps_bench_judge.specs.Holding.{AreFrom}
use Rattle.ps_bench_judge.specs.Moments.{Moment, moment_of}
use Rattle.ps_bench_judge.specs.Owing.{open_pass}
use Rattle.ps_bench_judge.specs.declared.checks.Failure.{Failure}
use Rattle.ps_bench_judge.proofs.judge.sift.Given as goal

abbrev pub invariant-loop-watch : goal.invariant-loop-watch
invariant-loop-watch l = (p : Failure → Bool) (t : ℕ) (ms : List Moment) → AreFrom l.fn.seen.now ms →
    (list_all p l.told.items && open_pass l.fn.app p l.kept.items l.fn.seen.now ms)
    ≡ ((list_all p l.fn.told.items && open_pass l.fn.app p l.fn.kept.items l.fn.seen.now ms)
    && open_pass l.fn.app p (take l.watch-index l.watches) t (moment_of l.fn.seen ∷ ms))
