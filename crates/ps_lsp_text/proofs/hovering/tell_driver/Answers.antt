use Rattle.std.proofs.Common.{List, ℕ, subst}
use Rattle.ps_lexer.specs.declared.token.Token.{Token}
use Rattle.ps_lsp_text.specs.Driving.{IsDriverTold}
use Rattle.ps_lsp_text.specs.Hovering.{driven_from}
use Rattle.ps_lsp_text.proofs.hovering.tell_driver.Goals as goal

pub returns : goal.returns
returns c =
    let told = c.add_driver.ensures in
    let text = c.args.asked.text.now in
    let name = c.args.name.now in (
      told.0,
      subst (λ (l : List Token). IsDriverTold text l name (driven_from c.args.declared) told.0) c.today.ensures
          (subst (λ (n : ℕ). IsDriverTold text c.today.result.now name n told.0) c.driven_from.ensures told.1),
      told.2,
    )
