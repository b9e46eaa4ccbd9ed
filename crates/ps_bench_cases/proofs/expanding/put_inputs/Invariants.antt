use Rattle.std.proofs.Common.{ℕ, List, ◌∷◌, drop, flat_map}
use Rattle.ps_model.specs.declared.named.Signal.{Signal}
use Rattle.ps_bench_cases.proofs.Pieces.{LeftOf}
use Rattle.ps_bench_cases.proofs.expanding.put_inputs.Given as goal

-- the inputs that are left
abbrev pub invariant-loop-i : goal.invariant-loop-i
invariant-loop-i g l =
    let named : Signal → List ℕ = λ s. 32 ∷ s.name in
    LeftOf g.S.Sink.tells g.S.Sink.taken g.S.Sink.faults (flat_map named l.app.inputs) (flat_map named (drop l.i l.app.inputs)) l.fn.out l.out
