use Rattle.std.proofs.Common.{◌≡◌, ◌-◌, ◌++◌, length}
use Rattle.ps_bench_why.specs.Pending.{AddsChildren}
use Rattle.ps_bench_why.proofs.Ordered.{reversed_from}
use Rattle.ps_bench_why.proofs.lines.push_reasons.Given as goal

-- the reasons so far are pending, from the last one on
abbrev pub invariant-loop-i : goal.invariant-loop-i
invariant-loop-i l = record {
  adds : AddsChildren l.explanation l.fn.line l.fn.pending.items l.pending.items;
  all : l.pending.items ≡ l.fn.pending.items ++ reversed_from l.explanation l.fn.line l.reasons (length l.reasons - l.i);
}
