use Rattle.ps_lsp_text.proofs.Definitions.{if_none, undeclared_in, declaration_in}
use Rattle.ps_lsp_text.proofs.sight.Sight.declaration.Goals as goal

pub returns-in_err-at-clause-none : goal.returns-in_err-at-clause-none
returns-in_err-at-clause-none c =
    if_none c.from_residual.result _
    (undeclared_in c.today.result.now _ c.args.name.now c.today.ensures c.in_default.ensures.none, undeclared_in c.earlier.result.now _ c.args.name.now c.earlier.ensures c.in_err-at.ensures.none)

pub returns-clause-some : goal.returns-clause-some
returns-clause-some c = (
  undeclared_in c.today.result.now _ c.args.name.now c.today.ensures c.in_default.ensures.none,
  declaration_in c.earlier.result.now c.earlier-2.result.now _ c.args.name.now c.in_ok-at.at c.earlier.ensures c.earlier-2.ensures c.in_ok-at.ensures.some,
)
