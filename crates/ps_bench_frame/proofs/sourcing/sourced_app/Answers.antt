use Rattle.std.proofs.Common.{◌∙◌, Err, sym, subst}
use Rattle.ps_outside.specs.declared.text_fail.TextFail.{TextFail}
use Rattle.ps_accepted.specs.Source.{IsAcceptedAs}
use Rattle.ps_accepted.specs.Answering.{Reads}
use Rattle.ps_accepted.proofs.Decided.{reads_given, reads_none}
use Rattle.ps_bench_frame.proofs.Giving.{kept_given, none_kept}
use Rattle.ps_bench_frame.specs.Sourcing.{GivesKept}
use Rattle.ps_bench_frame.proofs.sourcing.sourced_app.Goals as goal

pub returns-in-Ok-clause-read : goal.returns-in-Ok-clause-read
returns-in-Ok-clause-read g c = λ tells.
    let text = c.in_ok-text.text in
    reads_given GivesKept IsAcceptedAs (g.F.Files.held c.args.files.now c.args.name.now) text (text, c.in-Ok.source, c.in-Ok.app) (c.in_ok-text.ensures.read tells)
    (λ whole is. kept_given text c.as_slice.result.now whole c.in-Ok.source c.in-Ok.app c.as_slice.ensures c.in-Ok.ensures.program is c.in-Ok.ensures.decides)

pub returns-in-Err-clause-read : goal.returns-in-Err-clause-read
returns-in-Err-clause-read g c = λ tells.
    subst (λ (fail : TextFail). Reads GivesKept IsAcceptedAs (g.F.Files.held c.args.files.now c.args.name.now) (Err fail)) (sym c.into.ensures)
    (reads_none GivesKept IsAcceptedAs (g.F.Files.held c.args.files.now c.args.name.now) c.in_ok-text.text c.in-Err.why (c.in_ok-text.ensures.read tells)
    (λ whole is. none_kept whole c.in-Err.why (c.in-Err.ensures.decides whole (c.as_slice.ensures ∙ is))))
