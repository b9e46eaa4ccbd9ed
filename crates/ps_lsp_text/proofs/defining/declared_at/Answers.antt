use Rattle.std.proofs.Common.{◌≡◌, ◌-◌, false, Option, Some, Bor, option_copied, is_some, slice_get, ap, refl, sym, ◌∙◌, arith}
use Rattle.ps_lexer.specs.declared.token.Token.{Token}
use Rattle.ps_lsp_text.specs.Defining.{is_behind_dot}
use Rattle.ps_lsp_text.specs.Looking.{name_in}
use Rattle.ps_lsp_text.proofs.AtTokens.{got}
use Rattle.ps_lsp_text.proofs.Definitions.{name_known, first_apart, dot_apart, not_defined, never_lost, defined}
use Rattle.ps_lsp_text.proofs.defining.declared_at.Goals as goal
use Rattle.ps_lsp_text.proofs.defining.declared_at.Goals.{else-at-ge1-via-then-at-ge1+else-is_dot, else-at-ge1-via-else-at-ge1}

pub returns-in_err-declared : goal.returns-in_err-declared
returns-in_err-declared c =
    let today = c.args.sight.now.today in
    let known : name_in today c.args.at ≡ Some c.in_ok-name_at.field-0.now =
    name_known c.today-2.result.now today c.args.at c.name_at.result c.in_ok-name_at.field-0 c.name_at.ensures c.today-2.ensures c.in_ok-name_at.was in
    not_defined today c.args.sight.now.earlier c.args.at c.in_ok-name_at.field-0.now known c.from_residual-in_err-declared.result c.in_err-declared.ensures.none
    c.from_residual-in_err-declared.ensures

pub returns-in_err-token : goal.returns-in_err-token
returns-in_err-token c =
    let today = c.args.sight.now.today in
    let known : name_in today c.args.at ≡ Some c.in_ok-name_at.field-0.now =
    name_known c.today-2.result.now today c.args.at c.name_at.result c.in_ok-name_at.field-0 c.name_at.ensures c.today-2.ensures c.in_ok-name_at.was in
    absurd (never_lost today c.args.sight.now.earlier c.args.at c.in_ok-name_at.field-0.now known c.tokens_with.result.now c.in_ok-declared.declared c.tokens_with.ensures.by_text
    c.in_ok-declared.ensures.some (is_some c.get.result) c.get.ensures.lookup.0 (ap is_some c.in_err-token.was))

pub returns : goal.returns
returns c =
    let today = c.args.sight.now.today in
    let known : name_in today c.args.at ≡ Some c.in_ok-name_at.field-0.now =
    name_known c.today-2.result.now today c.args.at c.name_at.result c.in_ok-name_at.field-0 c.name_at.ensures c.today-2.ensures c.in_ok-name_at.was in
    let there : slice_get c.tokens_with.result.now c.in_ok-declared.declared.at ≡ Some c.in_ok-token.token.now =
    sym (got c.tokens_with.result.now c.in_ok-declared.declared.at c.get.result c.get.ensures.lookup.0 c.get.ensures.lookup.1)
    ∙ ap (λ (o : Option (Bor Token)). option_copied o) c.in_ok-token.was in
    let apart : is_behind_dot today c.args.at ≡ false = elim c.else-at-ge1.branch [
      | else-at-ge1-via-then-at-ge1+else-is_dot w ↦
          dot_apart w.today.result.now today c.args.at (c.args.at - 1) w.is_dot.result w.is_dot.ensures w.today.ensures refl w.if-is_dot.false
      | else-at-ge1-via-else-at-ge1 w ↦ first_apart today c.args.at (omega arith)
    ] in
    defined today c.args.sight.now.earlier c.args.at c.in_ok-name_at.field-0.now known c.tokens_with.result.now c.in_ok-declared.declared c.tokens_with.ensures.by_text
    c.in_ok-declared.ensures.some c.in_ok-token.token.now c.width.result there c.width.ensures apart
