use Rattle.std.proofs.Common.{◌≡◌, take, map, length, get_or, false}
use Rattle.std.specs.List.{range_with_len}
use Rattle.ps_scan.proofs.scanner.put_outputs.Given as goal

abbrev pub invariant-loop-j : goal.invariant-loop-j
invariant-loop-j l = record {
  first : take l.j l.outs ≡ map (λ s. get_or l.signals s false) (range_with_len l.first l.j);
  len : length l.outs ≡ length l.initial.outs;
}
