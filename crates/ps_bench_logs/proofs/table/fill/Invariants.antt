use Rattle.std.proofs.Common.{◌≡◌, true, length, take}
use Rattle.ps_bench_logs.specs.Saying.{are_parts, part_values}
use Rattle.ps_bench_logs.proofs.table.fill.Given as goal

-- the places so far have values, which are put
abbrev pub invariant-loop-i : goal.invariant-loop-i
invariant-loop-i l = record {
  size : length l.ins ≡ length l.initial.ins;
  are : are_parts l.parts.line.now l.parts.spans.now (take l.i l.places) ≡ true;
  put : take l.i l.ins ≡ part_values l.parts.line.now l.parts.spans.now (take l.i l.places);
}
