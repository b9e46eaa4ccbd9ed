use Rattle.std.proofs.Common.{◌≡◌, ◌+◌, ◌∷◌, ℕ, List, drop, flat_map, length}
use Rattle.ps_model.specs.declared.named.Signal.{Signal}
use Rattle.ps_bench_cases.proofs.room.behind_inputs.Given as goal

-- what is left after the names so far
abbrev pub invariant-loop-i : goal.invariant-loop-i
invariant-loop-i l =
    let named : Signal → List ℕ = λ s. 32 ∷ s.name in
    l.room.left + length (flat_map named l.app.inputs) ≡ l.fn.room.left + length (flat_map named (drop l.i l.app.inputs))
