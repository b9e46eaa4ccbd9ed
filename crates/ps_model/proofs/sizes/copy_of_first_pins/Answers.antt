use Rattle.std.proofs.Common.{◌++◌, ◌∷◌, [], take, sym, ap, ◌∙◌, arith}
use Rattle.std.proofs.lemmas.List.{take_more}
use Rattle.std.proofs.lemmas.Option.{get_or_from_slice_get}
use Rattle.ps_model.proofs.sizes.copy_of_first_pins.Goals as goal

pub loop-i-preserved : goal.loop-i-preserved
loop-i-preserved c =
    let all = c.args.first_pins.now in
    let i = c.loop-i.i in
    c.in_ok-push.ensures ∙ ap (λ l. l ++ c.at.result ∷ []) c.loop-i.invariant
    ∙ ap (λ x. take i all ++ x ∷ []) (sym (get_or_from_slice_get all i c.at.result 0 c.at.ensures))
    ∙ sym (take_more all i 0 (omega arith))
