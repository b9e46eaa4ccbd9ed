use Rattle.std.proofs.Common.{◌+◌, ◌≤◌, [], ◌∷◌, length, map, ◌∙◌, sym, arith}
use Rattle.std.specs.List.{range_with_len}
use Rattle.std.proofs.lemmas.List.FromFn.{length-map-range_with_len}
use Rattle.ps_model.specs.Blocks.{block, outs, safe_output, ready_in, error_in}
use Rattle.ps_eqvm.proofs.outputs.outputs.Goals as goal

pub returns : goal.returns
unfolding outs
returns c =
    let a = c.args in
    let n = length (block a.kind).outputs in
    let safe = map (safe_output a.kind a.code a.mode) (range_with_len 0 (length (block a.kind).outputs)) in
    let rest = ready_in a.code ∷ error_in a.code ∷ [] in
    let long = length-map-range_with_len (safe_output a.kind a.code a.mode) 0 (length (block a.kind).outputs) in
    let few : length safe + length rest ≤ 32 = omega (arith, long, c.requires.count, c.requires.few) in
    c.low_then_high.ensures safe rest (long ∙ sym c.requires.count) few c.safe_outputs.ensures c.two_bits-ready_and_error.ensures
