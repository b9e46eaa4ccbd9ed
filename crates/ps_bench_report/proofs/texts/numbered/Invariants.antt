use Rattle.std.proofs.Common.{◌≡◌, length, map}
use Rattle.std.specs.Prelude.{min}
use Rattle.ps_bench_report.specs.Numbered.{numbered_behind}
use Rattle.ps_bench_report.proofs.texts.numbered.Given as goal

abbrev pub invariant-loop-line : goal.invariant-loop-line
invariant-loop-line l =
    record {
      number : l.number ≡ min (length l.yielded) 4294967295;
      lines : l.lines ≡ numbered_behind 0 (map (λ x. x.now) l.yielded);
    }
