use Rattle.std.proofs.Common.{◌∙◌, ◌++◌, ◌∷◌, [], List, ap, sym, append_assoc, arith, map}
use Rattle.std.specs.List.{flat_map, range_with_len}
use Rattle.std.proofs.lemmas.List.FromFn.{map-range_with_len_more}
use Rattle.ps_bench_names.specs.declared.name.Name.{Name}
use Rattle.ps_bench_names.specs.declared.name.Name.TheVariants.{Signal}
use Rattle.ps_model.specs.Network.{declared_count}
use Rattle.ps_bench_waves.specs.Names.{names_of_instance}
use Rattle.ps_bench_waves.proofs.Ranges.{flat_map_more}
use Rattle.ps_bench_waves.proofs.names.all_names.Goals as goal

pub loop-signal-preserved : goal.loop-signal-preserved
loop-signal-preserved c =
    let s = c.loop-signal.signal in
    c.in_ok-push.ensures.items ∙ ap (λ (xs : List Name). xs ++ Signal s ∷ []) c.loop-signal.invariant
    ∙ sym (map-range_with_len_more Signal 0 s s (omega arith))

pub loop-instance-preserved : goal.loop-instance-preserved
loop-instance-preserved c =
    let net = c.args.app.now in
    let i = c.loop-instance.instance in
    let signals : List Name = map Signal (range_with_len 0 (declared_count net)) in
    let f = names_of_instance net in
    c.in_ok-add_instance.ensures
    ∙ ap (λ (xs : List Name). xs ++ f i) c.loop-instance.invariant
    ∙ append_assoc signals (flat_map f (range_with_len 0 i)) (f i)
    ∙ ap (λ (xs : List Name). signals ++ xs) (sym (flat_map_more f i))
