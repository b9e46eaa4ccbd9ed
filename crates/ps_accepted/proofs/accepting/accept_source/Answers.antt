use Rattle.std.proofs.Common.{sym, subst}
use Rattle.ps_model.specs.Network.{Network}
use Rattle.ps_names.specs.Stands.{Stands}
use Rattle.ps_parser.specs.Tree.{SourceTree}
use Rattle.ps_accepted.specs.Source.{IsProgram}
use Rattle.ps_accepted.proofs.accepting.accept_source.Goals as goal

pub returns-in-Ok : goal.returns-in-Ok
returns-in-Ok c =
    let tree = c.in_ok-source.source in
    let net = c.in_ok-source.app in
    let made = c.with_check.ensures in (
      subst (λ (s : SourceTree). IsProgram c.args.text.now s) (sym made.source) c.in_ok-source.ensures.0,
      subst (λ (s : SourceTree). Stands s c.with_check.result.app) (sym made.source)
          (subst (λ (n : Network). Stands tree n) (sym made.app) c.in_ok-source.ensures.1),
      made.checked,
    )
