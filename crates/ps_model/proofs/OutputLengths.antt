-- How many outputs a kind shows.
use Rattle.std.proofs.Common.{◌≡◌, ℕ, ◌+◌, [], ◌∷◌, length, map, refl, ap, ◌∙◌, length-append}
use Rattle.std.specs.List.{range_with_len}
use Rattle.std.proofs.lemmas.List.FromFn.{length-map-range_with_len}
use Rattle.ps_model.specs.declared.kind.Kind.{Kind}
use Rattle.ps_model.specs.Blocks.{block, outs, output_count, safe_output, ready_in, error_in}

-- the outputs are the safe outputs, Ready and Error
pub output_count_is : (kind : Kind) → output_count kind ≡ length (block kind).outputs + 2
unfolding output_count
output_count_is kind = refl

-- a kind shows each of its outputs
pub length-outs : (kind : Kind) (code mode : ℕ) → length (outs kind code mode) ≡ output_count kind
unfolding outs output_count
length-outs kind code mode =
    length-append (map (safe_output kind code mode) (range_with_len 0 (length (block kind).outputs))) (ready_in code ∷ error_in code ∷ [])
    ∙ ap (λ n. n + 2) (length-map-range_with_len (safe_output kind code mode) 0 (length (block kind).outputs))
