use Rattle.std.proofs.Common.{◌≡◌, ◌<◌, ◌∷◌, ◌++◌, ℕ, List, [], length, drop, flat_map, get_or, ap, ◌∙◌, sym, subst, arith}
use Rattle.std.proofs.lemmas.List.{get_or_append_left, drop_all}
use Rattle.ps_model.specs.declared.named.Signal.{Signal}
use Rattle.ps_model.specs.Network.{no_signal}
use Rattle.ps_bench_cases.specs.Rooms.{IsLeft}
use Rattle.ps_bench_cases.proofs.Rooming.{texts_left}
use Rattle.ps_bench_cases.proofs.room.behind_inputs.Goals as goal

pub returns-in_err-room : goal.returns-in_err-room
returns-in_err-room c =
    let named : Signal → List ℕ = λ s. 32 ∷ s.name in
    let net = c.args.app.now in let i = c.loop-i.i in
    let within : i < length net.inputs = omega (arith, c.input_count-i-end.ensures, c.loop-i-test.true) in
    let name : length (named (get_or net.inputs i no_signal)) ≡ length (32 ∷ c.signal_name.result.now) =
    ap (λ (s : Signal). length (named s)) (sym (get_or_append_left net.inputs (net.outputs ++ net.locals) no_signal i within)) ∙ ap (λ (bytes : List ℕ). length (32 ∷ bytes)) (sym c.signal_name.ensures) in
    let one = texts_left named net.inputs i no_signal within in
    let large : c.args.room.left < length (flat_map named net.inputs) = omega (arith, one, name, c.in_err-room.ensures.left, c.loop-i.invariant) in
    subst (IsLeft c.args.room.left (length (flat_map named net.inputs))) (sym c.from_residual.ensures) large

pub loop-i-preserved : goal.loop-i-preserved
loop-i-preserved c =
    let named : Signal → List ℕ = λ s. 32 ∷ s.name in
    let net = c.args.app.now in let i = c.loop-i.i in
    let within : i < length net.inputs = omega (arith, c.input_count-i-end.ensures, c.loop-i-test.true) in
    let name : length (named (get_or net.inputs i no_signal)) ≡ length (32 ∷ c.signal_name.result.now) =
    ap (λ (s : Signal). length (named s)) (sym (get_or_append_left net.inputs (net.outputs ++ net.locals) no_signal i within)) ∙ ap (λ (bytes : List ℕ). length (32 ∷ bytes)) (sym c.signal_name.ensures) in
    let one = texts_left named net.inputs i no_signal within in
    omega (arith, one, name, c.in_ok-room.ensures.left, c.loop-i.invariant)

pub returns : goal.returns
returns c =
    let named : Signal → List ℕ = λ s. 32 ∷ s.name in
    let net = c.args.app.now in
    let none : drop c.loop-i.i net.inputs ≡ [] = drop_all c.loop-i.i net.inputs (omega arith) in
    let rest : length (flat_map named (drop c.loop-i.i net.inputs)) ≡ 0 = ap (λ (xs : List Signal). length (flat_map named xs)) none in
    omega (arith, rest, c.loop-i.invariant)
