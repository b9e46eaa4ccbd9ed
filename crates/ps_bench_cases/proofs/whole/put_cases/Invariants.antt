use Rattle.std.proofs.Common.{◌≡◌, ◌≤◌, ◌*◌, [], length, drop}
use Rattle.ps_bench_cases.specs.Expanded.{cases_text}
use Rattle.ps_bench_cases.proofs.Pieces.{LeftOf}
use Rattle.ps_bench_cases.proofs.whole.put_cases.Given as goal

-- the cases that are left
abbrev pub invariant-loop-case : goal.invariant-loop-case
invariant-loop-case g l = record {
  size : length l.point.ins ≡ length l.fn.point.ins;
  base : l.base ≤ l.case-index * 4294967295;
  left : LeftOf g.S.Sink.tells g.S.Sink.taken g.S.Sink.faults
      (cases_text (length l.fn.point.ins) l.file.begin [] 0 l.file.cases) (cases_text (length l.fn.point.ins) l.file.begin l.lead l.base (drop l.case-index l.file.cases)) l.fn.out l.out;
}
