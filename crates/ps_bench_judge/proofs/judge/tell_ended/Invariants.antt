use Rattle.std.proofs.Common.{◌≡◌, ◌&&◌, Bool, [], take}
use Rattle.std.specs.List.{list_all}
use Rattle.ps_model.specs.Network.{Network}
use Rattle.ps_bench_judge.specs.Owing.{open_pass}
use Rattle.ps_bench_judge.specs.declared.checks.Failure.{Failure}
use Rattle.ps_bench_judge.proofs.judge.tell_ended.Given as goal

abbrev pub invariant-loop-watch : goal.invariant-loop-watch
invariant-loop-watch l = (net : Network) (p : Failure → Bool) →
    list_all p l.told.items ≡ (list_all p l.fn.told.items && open_pass net p (take l.watch-index l.watches) l.now [])
