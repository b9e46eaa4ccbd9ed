use Rattle.std.proofs.Common.{◌++◌, ◌∷◌, [], take, sym, ap, ◌∙◌, arith}
use Rattle.std.proofs.lemmas.List.{take_more}
use Rattle.std.proofs.lemmas.Option.{get_or_from_slice_get}
use Rattle.ps_model.specs.declared.kind.Kind.TheVariants.{Equivalent}
use Rattle.ps_model.proofs.sizes.copy_of_kinds.Goals as goal

pub loop-i-preserved : goal.loop-i-preserved
loop-i-preserved c =
    let all = c.args.kinds.now in
    let i = c.loop-i.i in
    c.in_ok-push.ensures ∙ ap (λ l. l ++ c.at.result ∷ []) c.loop-i.invariant
    ∙ ap (λ x. take i all ++ x ∷ []) (sym (get_or_from_slice_get all i c.at.result Equivalent c.at.ensures))
    ∙ sym (take_more all i Equivalent (omega arith))
