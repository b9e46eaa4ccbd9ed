use Rattle.std.proofs.Common.{◌≡◌, take}
use Rattle.ps_bench_never.proofs.single.copied_follows.Given as goal

-- those so far
abbrev pub invariant-loop-follow : goal.invariant-loop-follow
invariant-loop-follow l = l.copied ≡ take l.follow-index l.follows
