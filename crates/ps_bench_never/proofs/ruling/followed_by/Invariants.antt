use Rattle.std.proofs.Common.{◌≡◌, drop}
use Rattle.ps_bench_never.specs.Asked.{followed_by}
use Rattle.ps_bench_never.proofs.ruling.followed_by.Given as goal

-- what is found among those that are left is what is found among all
abbrev pub invariant-loop-follow : goal.invariant-loop-follow
invariant-loop-follow l = followed_by l.input (drop l.follow-index l.follows) ≡ followed_by l.input l.follows
