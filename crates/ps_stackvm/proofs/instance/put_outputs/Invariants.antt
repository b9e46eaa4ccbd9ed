use Rattle.std.proofs.Common.{◌≡◌}
use Rattle.std.specs.Prelude.{map}
use Rattle.std.specs.List.{range_with_len}
use Rattle.ps_machine.specs.Bytes.{bit, replaced}
use Rattle.ps_model.specs.PinBits.{pin_of}
use Rattle.ps_stackvm.proofs.instance.put_outputs.Given as goal

abbrev pub invariant-loop-j : goal.invariant-loop-j
invariant-loop-j l = l.cells ≡ replaced l.initial.cells l.at (map bit (map (pin_of l.outs.safe) (range_with_len 0 l.j)))
