use Rattle.std.proofs.Common.{ℕ, List, subst}
use Rattle.ps_base.specs.LetterCase.{SameName}
use Rattle.ps_model.specs.Blocks.{block}
use Rattle.ps_lsp_text.proofs.AmongTokens.{typed_once}
use Rattle.ps_lsp_text.proofs.Definitions.{if_none, if_none_then}
use Rattle.ps_lsp_text.proofs.sight.Sight.kind_at.Goals as goal

pub returns-in_err-type_at-clause-none : goal.returns-in_err-type_at-clause-none
returns-in_err-type_at-clause-none c = if_none c.from_residual.result _ (λ kind i. c.in_err-type_at.ensures.none i.ty i.typed)

pub returns-clause-none : goal.returns-clause-none
returns-clause-none c =
    if_none_then c.kind_named.result c.kind_named.ensures.none
    (λ none kind i. none kind
    (subst (λ (t : List ℕ). SameName (block kind).name t) (typed_once c.args.self.now.today c.args.self.now.earlier c.args.at i.ty c.in_ok-type_at.field-0.now i.typed c.in_ok-type_at.ensures.some) i.named))
