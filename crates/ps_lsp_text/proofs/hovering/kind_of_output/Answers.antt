use Rattle.std.proofs.Common.{ℕ, subst, sym}
use Rattle.ps_lsp_text.specs.Declaring.{IsInstance}
use Rattle.ps_lsp_text.proofs.hovering.kind_of_output.Goals as goal

pub returns-in-None-clause-none : goal.returns-in-None-clause-none
returns-in-None-clause-none c = λ kind instance. c.in-None.ensures.none kind
    (subst (λ (k : ℕ). IsInstance c.args.sight.now.today c.args.sight.now.earlier k kind) (sym c.saturating_sub.ensures) instance)
