use Rattle.std.proofs.Common.{refl, arith}
use Rattle.std.proofs.lemmas.Result.{err_from_is_err_and}
use Rattle.ps_bench_watch.proofs.lines.StreamLines.start.Goals as goal

pub returns-in_err-vec : goal.returns-in_err-vec
returns-in_err-vec c =
    let p = err_from_is_err_and c.from_residual.result c.from_residual.ensures.1 in
    rw (p.1) (record { longest = tt; fresh = tt })

pub invariant_of-result : goal.invariant_of-result
invariant_of-result c = record {
  room = c.in_ok-vec.ensures.len;
  in_order = omega arith;
  held = omega arith;
  within = omega arith;
  none = refl;
  shown = omega arith;
  shown_within = omega arith;
}

pub returns : goal.returns
returns c = record { longest = refl; fresh = refl }
