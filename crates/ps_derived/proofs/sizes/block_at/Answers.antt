use Rattle.std.proofs.Common.{sym, ap, ◌∙◌}
use Rattle.std.proofs.lemmas.Result.{IfOk-weaker}
use Rattle.ps_derived.specs.declared.sizes.BlockSize.{BlockSize}
use Rattle.ps_derived.specs.Bodies.{same, type_in}
use Rattle.ps_derived.specs.Counting.{item_at}
use Rattle.ps_derived.proofs.Lookups.{found_item}
use Rattle.ps_derived.proofs.sizes.block_at.Goals as goal

pub returns-in-Local : goal.returns-in-Local
returns-in-Local c =
    let sizes = c.args.sizes.now in
    let ty = c.args.declared.now.ty in
    IfOk-weaker c.place_of.result _ _
    (λ k is.
    ap (item_at sizes) (is ∙ c.requires ty.text) ∙ sym (found_item (λ (s : BlockSize). same ty s.name) sizes)
    ∙ ap (λ part. type_in (λ (s : BlockSize). s.name) sizes part ty) (sym c.in-Local.is))
    c.place_of.ensures
