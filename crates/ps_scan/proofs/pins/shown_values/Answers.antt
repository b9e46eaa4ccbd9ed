use Rattle.std.proofs.Common.{◌∙◌, ◌++◌, ◌∷◌, [], Bool, List, sym, ap, map, arith}
use Rattle.std.specs.List.{range_with_len}
use Rattle.std.proofs.lemmas.List.{take_more_set, length-set}
use Rattle.std.proofs.lemmas.List.FromFn.{map-range_with_len_more}
use Rattle.ps_model.specs.PinBits.{pin_of}
use Rattle.ps_scan.proofs.pins.shown_values.Goals as goal

pub loop-j-preserved : goal.loop-j-preserved
loop-j-preserved c =
    let j = c.loop-j.j in
    let f = pin_of c.args.outs.safe in
    record {
      first = take_more_set c.loop-j.values j c.is_on.result (omega (arith, c.loop-j.invariant.room))
          ∙ ap (λ (bs : List Bool). bs ++ c.is_on.result ∷ []) c.loop-j.invariant.first
          ∙ ap (λ (b : Bool). map f (range_with_len 0 j) ++ b ∷ []) c.is_on.ensures
          ∙ sym (map-range_with_len_more f 0 j j (omega arith));
      room = length-set c.loop-j.values j c.is_on.result ∙ c.loop-j.invariant.room;
    }
