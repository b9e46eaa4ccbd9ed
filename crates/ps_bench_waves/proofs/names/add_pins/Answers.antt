use Rattle.std.proofs.Common.{◌∙◌, ◌++◌, List, ap, sym, append_assoc}
use Rattle.std.specs.List.{flat_map, range_with_len}
use Rattle.ps_bench_names.specs.declared.name.Name.{Name}
use Rattle.ps_bench_waves.specs.Names.{pin_of}
use Rattle.ps_bench_waves.proofs.Ranges.{flat_map_more}
use Rattle.ps_bench_waves.proofs.names.add_pins.Goals as goal

pub loop-pin-preserved : goal.loop-pin-preserved
loop-pin-preserved c =
    let before : List Name = c.args.names.now.items in
    let f = pin_of c.args.instance c.args.kind in
    c.in_ok-add_pin.ensures
    ∙ ap (λ (xs : List Name). xs ++ f c.loop-pin.pin) c.loop-pin.invariant
    ∙ append_assoc before (flat_map f (range_with_len 0 c.loop-pin.pin)) (f c.loop-pin.pin)
    ∙ ap (λ (xs : List Name). before ++ xs) (sym (flat_map_more f c.loop-pin.pin))
