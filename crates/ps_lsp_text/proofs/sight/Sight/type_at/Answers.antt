use Rattle.std.proofs.Common.{◌≡◌, ℕ, List, Option, Some, cond}
use Rattle.ps_lsp_text.specs.Looking.{name_in}
use Rattle.ps_lsp_text.specs.Declaring.{IsTypeOf}
use Rattle.ps_lsp_text.proofs.AmongTokens.{undeclared_untyped, untyped}
use Rattle.ps_lsp_text.proofs.Definitions.{if_none, if_no_name, name_known}
use Rattle.ps_lsp_text.proofs.sight.Sight.type_at.Goals as goal

pub returns-in_err-declaration-clause-none : goal.returns-in_err-declaration-clause-none
returns-in_err-declaration-clause-none c =
    let today = c.args.self.now.today in
    let known : name_in today c.args.at ≡ Some c.in_ok-name.name.now =
    name_known c.today.result.now today c.args.at c.name_at.result c.in_ok-name.name c.name_at.ensures c.today.ensures c.in_ok-name.was in
    if_none c.from_residual-in_err-declaration.result _
    (undeclared_untyped today c.args.self.now.earlier c.args.at c.in_ok-name.name.now known c.in_err-declaration.ensures.none)

pub returns-clause-none : goal.returns-clause-none
returns-clause-none c =
    let today = c.args.self.now.today in
    let earlier = c.args.self.now.earlier in
    let declared = c.in_ok-declaration.field-0 in
    let known : name_in today c.args.at ≡ Some c.in_ok-name.name.now =
    name_known c.today.result.now today c.args.at c.name_at.result c.in_ok-name.name c.name_at.ensures c.today.ensures c.in_ok-name.was in
    if_no_name c.type_of.result (λ (o : Option (List ℕ)). IsTypeOf (cond declared.is_today today earlier) declared.at o) _ c.type_of.ensures
    (untyped today earlier c.args.at c.in_ok-name.name.now declared known c.in_ok-declaration.ensures.some)
