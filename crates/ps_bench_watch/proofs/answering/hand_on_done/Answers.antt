use Rattle.std.proofs.Common.{inl, inr, refl, sym, arith}
use Rattle.ps_bench_watch.proofs.answering.hand_on_done.Goals as goal

pub returns-in-Ok-hand_on : goal.returns-in-Ok-hand_on
returns-in-Ok-hand_on g c = record {
  kept = c.hand_on.ensures.kept;
  handed = record {
    comes = inl (sym c.in-Ok.is);
    handed_on = c.in-Ok-hand_on.ensures.handed_on;
    writes = c.hand_on.ensures.counts;
    telling = c.hand_on.ensures.telling;
  };
}

pub returns-in-Err-hand_on : goal.returns-in-Err-hand_on
returns-in-Err-hand_on g c = record {
  kept = c.hand_on.ensures.kept;
  handed = record {
    comes = inr (c.in-Ok.is, refl, c.in-Err-hand_on.ensures.unwritten);
    handed_on = tt;
    writes = c.hand_on.ensures.counts;
    telling = c.hand_on.ensures.telling;
  };
}

pub returns-in-Err : goal.returns-in-Err
returns-in-Err g c = record {
  kept = refl;
  handed = record { comes = inl (sym c.in-Err.is); handed_on = tt; writes = omega arith; telling = refl };
}
