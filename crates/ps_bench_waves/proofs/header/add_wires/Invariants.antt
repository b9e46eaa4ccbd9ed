use Rattle.std.proofs.Common.{◌≡◌, ◌++◌, [], drop}
use Rattle.ps_bench_waves.specs.Declarations.{wires_text}
use Rattle.ps_bench_waves.proofs.header.add_wires.Given as goal

-- the wires that are left
abbrev pub invariant-loop-wire : goal.invariant-loop-wire
invariant-loop-wire l = record {
  number : l.number ≡ l.wire-index;
  bytes : l.text ++ wires_text l.opened l.number (drop l.wire-index l.wires) ≡ l.initial.text ++ wires_text [] 0 l.wires;
}
