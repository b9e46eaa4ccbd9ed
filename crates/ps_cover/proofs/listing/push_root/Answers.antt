use Rattle.std.proofs.Common.{◌≡◌, ◌++◌, ◌∙◌, OnOk, ap, false, inl, inr, map, subst, sym, true}
use Rattle.ps_model.specs.Exprs.{formula}
use Rattle.ps_model.proofs.Formulas.{formula-And, formula-Or}
use Rattle.ps_cover.specs.Deciding.{is_and}
use Rattle.ps_cover.specs.Covering.{point_of}
use Rattle.ps_cover.specs.Listing.{operand_points, root_points}
use Rattle.ps_cover.proofs.Listings.{listed_are}
use Rattle.ps_cover.proofs.listing.push_root.Goals as goal

pub returns-in-And : goal.returns-in-And
returns-in-And c =
    let es = c.in-And.es in
    let k = c.args.step in
    let xs = map formula es.items.items in
    let is : root_points k (formula c.args.e.now) ≡ operand_points k c.is_and.result xs =
    elim c.in-And.is [
      | inl is ↦ ap (λ e. root_points k (formula e)) is ∙ ap (root_points k) (formula-And es) ∙ ap (operand_points k true) (listed_are xs)
          ∙ ap (λ b. operand_points k b xs) (sym (c.is_and.ensures ∙ ap (λ e. is_and (formula e)) is ∙ ap is_and (formula-And es)))
      | inr is ↦ ap (λ e. root_points k (formula e)) is ∙ ap (root_points k) (formula-Or es) ∙ ap (operand_points k false) (listed_are xs)
          ∙ ap (λ b. operand_points k b xs) (sym (c.is_and.ensures ∙ ap (λ e. is_and (formula e)) is ∙ ap is_and (formula-Or es)))
    ] in
    subst (λ ps. OnOk c.push_operands.result (map point_of c.push_operands.new.points.items ≡ map point_of c.args.points.now.items ++ ps)) (sym is)
    c.push_operands.ensures
