use Rattle.std.proofs.Common.{◌≡◌, map, take}
use Rattle.ps_why.specs.declared.keeping.Stepped.{Stepped}
use Rattle.ps_bench_why.proofs.walker.Walker.calls.Given as goal

abbrev pub invariant-loop-stepped : goal.invariant-loop-stepped
invariant-loop-stepped l = record {
  all : l.stepped-items ≡ l.fn.self.kept.items;
  sofar : l.calls.items ≡ map (λ (s : Stepped). s.call) (take l.stepped-index l.stepped-items);
}
