use Rattle.std.proofs.Common.{◌<◌, ◌++◌, ◌∷◌, ◌/◌, ◌%◌, [], ℕ, List, get_or, length, slice_index, take, ap, sym, ◌∙◌, append_assoc, arith}
use Rattle.std.proofs.lemmas.List.{take_more}
use Rattle.hex.specs.Hex.{encode_lower, lower_digits}
use Rattle.ps_bench_cases.proofs.HexPairs.{encode_more, encode_none}
use Rattle.ps_bench_cases.proofs.point.hold_bytes.Goals as goal

pub loop-byte-init : goal.loop-byte-init
loop-byte-init c = λ done. (done, encode_none lower_digits c.args.lines.now)

pub loop-byte-preserved : goal.loop-byte-preserved
loop-byte-preserved c = λ done.
    let bytes = c.args.bytes.now in
    let i = c.loop-byte.byte-index in
    let byte = get_or bytes i 0 in
    let pair : List ℕ = slice_index lower_digits (byte / 16) ∷ slice_index lower_digits (byte % 16) ∷ [] in
    let below : i < length bytes = omega arith in
    let added = c.add-done.ensures done in
    let before = c.loop-byte.invariant added.0 in (
      before.0,
      added.1
          ∙ ap (λ (digits : List ℕ). c.loop-byte.lines ++ digits) c.hex_digits.ensures
          ∙ ap (λ (lines : List ℕ). lines ++ pair) before.1
          ∙ append_assoc c.args.lines.now (encode_lower (take i bytes)) pair
          ∙ ap (λ (digits : List ℕ). c.args.lines.now ++ digits) (sym (ap encode_lower (take_more bytes i 0 below) ∙ encode_more lower_digits (take i bytes) byte)),
    )
