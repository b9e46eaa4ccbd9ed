use Rattle.std.proofs.Common.{◌∙◌, ◌+◌, ◌++◌, ◌∷◌, [], ℕ, Bool, List, length, take, get_or, false, refl, sym, ap, arith}
use Rattle.std.proofs.lemmas.List.{take_more_set, length-set}
use Rattle.std.proofs.lemmas.List.FromFn.{map-range_with_len_more}
use Rattle.ps_scan.proofs.scanner.put_outputs.Goals as goal

pub loop-j-preserved : goal.loop-j-preserved
loop-j-preserved c =
    let j = c.loop-j.j in
    let f = λ (s : ℕ). get_or c.args.signals.now s false in
    let v = f (c.args.first + j) in
    record {
      first = ap (λ (bs : List Bool). take (j + 1) bs) c.set.ensures
          ∙ take_more_set c.loop-j.outs j v (omega (arith, c.loop-j.invariant.len, c.len-j-end.ensures, c.loop-j-test.true))
          ∙ ap (λ (bs : List Bool). bs ++ v ∷ []) c.loop-j.invariant.first
          ∙ sym (map-range_with_len_more f c.args.first j (c.args.first + j) refl);
      len = ap (λ (bs : List Bool). length bs) c.set.ensures ∙ length-set c.loop-j.outs j v ∙ c.loop-j.invariant.len;
    }
