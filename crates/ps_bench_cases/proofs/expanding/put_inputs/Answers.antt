use Rattle.std.proofs.Common.{◌≡◌, ◌<◌, ◌+◌, ◌++◌, ◌∷◌, List, ℕ, Err, length, drop, flat_map, get_or, ap, ◌∙◌, sym, subst, arith}
use Rattle.std.proofs.lemmas.Result.{err_from_is_err_and}
use Rattle.std.proofs.lemmas.List.{get_or_append_left}
use Rattle.ps_model.specs.declared.named.Signal.{Signal}
use Rattle.ps_model.specs.Network.{no_signal}
use Rattle.ps_bench_cases.proofs.Pieces.{LeftOf, left_at, left_exit, left_next}
use Rattle.ps_bench_cases.proofs.expanding.put_inputs.Goals as goal

pub returns-in_err-put_input : goal.returns-in_err-put_input
returns-in_err-put_input g c =
    let p = err_from_is_err_and c.from_residual.result c.from_residual.ensures.1 in
    let named : Signal → List ℕ = λ s. 32 ∷ s.name in
    let inputs = c.args.app.now.inputs in let i = c.loop-i.i in
    let within : i < length inputs = omega (arith, c.input_count-i-end.ensures, c.loop-i-test.true) in
    let name : named (get_or inputs i no_signal) ≡ 32 ∷ c.signal_name.result.now = ap (λ (s : Signal). 32 ∷ s.name) (sym (get_or_append_left inputs (c.args.app.now.outputs ++ c.args.app.now.locals) no_signal i within)) ∙ ap (λ (bytes : List ℕ). 32 ∷ bytes) (sym c.signal_name.ensures) in
    let left = subst (λ (piece : List ℕ). LeftOf g.S.Sink.tells g.S.Sink.taken g.S.Sink.faults (flat_map named inputs) (piece ++ flat_map named (drop (i + 1) inputs)) c.args.out.now c.loop-i.out) name (left_at g.S.Sink.tells g.S.Sink.taken g.S.Sink.faults named inputs i no_signal within c.loop-i.invariant) in
    left_exit g.S.Sink.tells g.S.Sink.taken g.S.Sink.faults (32 ∷ c.signal_name.result.now) (flat_map named (drop (i + 1) inputs)) c.put_input.new.out c.in_err-put_input.field-0.0 c.from_residual.result (p.1 ∙ ap Err p.2) left c.in_err-put_input.ensures

pub loop-i-preserved : goal.loop-i-preserved
loop-i-preserved g c =
    let named : Signal → List ℕ = λ s. 32 ∷ s.name in
    let inputs = c.args.app.now.inputs in let i = c.loop-i.i in
    let within : i < length inputs = omega (arith, c.input_count-i-end.ensures, c.loop-i-test.true) in
    let name : named (get_or inputs i no_signal) ≡ 32 ∷ c.signal_name.result.now = ap (λ (s : Signal). 32 ∷ s.name) (sym (get_or_append_left inputs (c.args.app.now.outputs ++ c.args.app.now.locals) no_signal i within)) ∙ ap (λ (bytes : List ℕ). 32 ∷ bytes) (sym c.signal_name.ensures) in
    let left = subst (λ (piece : List ℕ). LeftOf g.S.Sink.tells g.S.Sink.taken g.S.Sink.faults (flat_map named inputs) (piece ++ flat_map named (drop (i + 1) inputs)) c.args.out.now c.loop-i.out) name (left_at g.S.Sink.tells g.S.Sink.taken g.S.Sink.faults named inputs i no_signal within c.loop-i.invariant) in
    left_next g.S.Sink.tells g.S.Sink.taken g.S.Sink.faults (32 ∷ c.signal_name.result.now) (flat_map named (drop (i + 1) inputs)) c.put_input.new.out left c.in_ok-put_input.ensures
