use Rattle.std.proofs.Common.{◌≡◌, ◌∙◌, ap, map, subst}
use Rattle.std.specs.Prelude.{fold, IfOk}
use Rattle.std.proofs.lemmas.Result.{IfOk-weaker}
use Rattle.clap.specs.Simple.{App, with_subcommand}
use Rattle.clap.specs.Words.{app_of}
use Rattle.ps_bench_words.specs.Seen.{shape_seen}
use Rattle.ps_bench_words.proofs.command.with_group.Goals as goal

pub returns-in-Ok : goal.returns-in-Ok
returns-in-Ok c = λ app is.
    let first = subst (λ r. IfOk r (λ p. app_of p ≡ app)) c.in-Ok.is is in
    IfOk-weaker c.with_forms.result _ _ (λ p adds. adds ∙ ap (λ (a : App). fold with_subcommand a (map shape_seen c.args.forms.now)) first) c.with_forms.ensures
