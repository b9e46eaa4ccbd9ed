-- How many pins a kind has.
use Rattle.std.proofs.Common.{◌≡◌, ℕ, ◌+◌, List, [], ◌∷◌, length, map, arith, length-append}
use Rattle.std.specs.Prelude.{◌++◌, codes}
use Rattle.std.proofs.lemmas.List.{length-map}
use Rattle.ps_model.specs.declared.kind.Kind.{Kind}
use Rattle.ps_model.specs.Blocks.{Pin, Output, block, output_count}
use Rattle.ps_model.specs.Pins.{pin_count}
use Rattle.ps_model.proofs.OutputLengths.{output_count_is}

pub pins_counted : (kind : Kind) → pin_count kind ≡ length (block kind).inputs + output_count kind
pins_counted kind =
    let behind : List (List ℕ) = codes "Ready" ∷ codes "Error" ∷ [] in
    let outputs = map (λ (o : Output). o.name) (block kind).outputs in
    omega (
      arith,
      output_count_is kind,
      length-append (map (λ (p : Pin). p.name) (block kind).inputs) (outputs ++ behind),
      length-append outputs behind,
      length-map (block kind).inputs (λ (p : Pin). p.name),
      length-map (block kind).outputs (λ (o : Output). o.name),
    )
