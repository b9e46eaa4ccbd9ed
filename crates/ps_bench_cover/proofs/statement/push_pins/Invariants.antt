use Rattle.std.proofs.Common.{◌≡◌, ◌++◌, map, take}
use Rattle.std.specs.List.{flat_map}
use Rattle.ps_model.specs.Blocks.{Pin, block}
use Rattle.ps_parser.specs.ArgumentView.{argument_tree}
use Rattle.ps_bench_cover.specs.Operands.{pin_operands, place_of}
use Rattle.ps_bench_cover.proofs.statement.push_pins.Given as goal

abbrev pub invariant-loop-j : goal.invariant-loop-j
invariant-loop-j l =
    l.places.items ≡ l.fn.places.items
    ++ map place_of (flat_map (λ (p : Pin). pin_operands (map argument_tree l.arguments) p.name) (take l.j (block l.kind).inputs))
