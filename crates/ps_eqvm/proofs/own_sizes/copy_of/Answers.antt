use Rattle.std.proofs.Common.{◌++◌, ◌∷◌, [], take, sym, ap, ◌∙◌, arith}
use Rattle.std.proofs.lemmas.List.{take_more}
use Rattle.std.proofs.lemmas.Option.{get_or_from_slice_get}
use Rattle.ps_model.specs.declared.kind.Kind.TheVariants.{Equivalent}
use Rattle.ps_eqvm.proofs.own_sizes.copy_of.Goals as goal

pub loop-i-preserved : goal.loop-i-preserved
loop-i-preserved c =
    let firsts = c.args.sizes.now.first_pins in
    let kinds = c.args.sizes.now.kinds in
    let i = c.loop-i.i in
    record {
      first_pins = c.in_ok-push.ensures ∙ ap (λ l. l ++ c.at-first.result ∷ []) c.loop-i.invariant.first_pins
          ∙ ap (λ x. take i firsts ++ x ∷ []) (sym (get_or_from_slice_get firsts i c.at-first.result 0 c.at-first.ensures))
          ∙ sym (take_more firsts i 0 (omega arith));
      kinds = c.in_ok-push-2.ensures ∙ ap (λ l. l ++ c.at-kind.result ∷ []) c.loop-i.invariant.kinds
          ∙ ap (λ x. take i kinds ++ x ∷ []) (sym (get_or_from_slice_get kinds i c.at-kind.result Equivalent c.at-kind.ensures))
          ∙ sym (take_more kinds i Equivalent (omega arith));
    }
