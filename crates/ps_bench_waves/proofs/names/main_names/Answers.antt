use Rattle.std.proofs.Common.{◌∙◌, ◌++◌, ◌+◌, ◌∷◌, [], List, ap, sym, append_assoc, arith, length, map, refl}
use Rattle.std.specs.List.{range_with_len}
use Rattle.std.proofs.lemmas.List.FromFn.{map-range_with_len_more}
use Rattle.ps_bench_names.specs.declared.name.Name.{Name}
use Rattle.ps_bench_names.specs.declared.name.Name.TheVariants.{Code, Signal}
use Rattle.ps_model.specs.Network.{input_count}
use Rattle.ps_bench_waves.proofs.names.main_names.Goals as goal

pub loop-output-preserved : goal.loop-output-preserved
loop-output-preserved c =
    let net = c.args.app.now in
    let j = c.loop-output.output in
    let place = ap (λ n. n + j) c.input_count-first.ensures in
    c.in_ok-push.ensures.items
    ∙ ap (λ (xs : List Name). xs ++ Signal (c.input_count-first.result + j) ∷ []) c.loop-output.invariant
    ∙ ap (λ n. map Signal (range_with_len (input_count net) j) ++ Signal n ∷ []) place
    ∙ sym (map-range_with_len_more Signal (input_count net) j (input_count net + j) refl)

pub loop-instance-preserved : goal.loop-instance-preserved
loop-instance-preserved c =
    let net = c.args.app.now in
    let i = c.loop-instance.instance in
    let outputs : List Name = map Signal (range_with_len (input_count net) (length net.outputs)) in
    c.in_ok-push-2.ensures.items
    ∙ ap (λ (xs : List Name). xs ++ Code i ∷ []) c.loop-instance.invariant
    ∙ append_assoc outputs (map Code (range_with_len 0 i)) (Code i ∷ [])
    ∙ ap (λ (xs : List Name). outputs ++ xs) (sym (map-range_with_len_more Code 0 i i (omega arith)))
