use Rattle.std.proofs.Common.{◌≡◌, ◌∙◌, Err, sym, ap, subst}
use Rattle.ps_bench_frame.specs.declared.ending.Input.TheVariants.{Trace}
use Rattle.ps_bench_frame.specs.declared.ending.InputStop.TheVariants.{Refused}
use Rattle.ps_bench_frame.specs.declared.ending.Stop.TheVariants.{Input}
use Rattle.ps_outside.specs.declared.text_fail.TextFail.TheVariants as text_fail
use Rattle.ps_accepted.proofs.Sourced.{some_of}
use Rattle.ps_trace.specs.Reading.{IsRead}
use Rattle.ps_trace.specs.Scans.{scans_behind}
use Rattle.ps_bench_trace.proofs.opening.open_trace.Goals as goal

pub returns-in-Err-clause-refuses : goal.returns-in-Err-clause-refuses
returns-in-Err-clause-refuses g c = λ refusal is.
    let stop_is : c.end_without.result ≡ Input (Refused Trace refusal) = cc in
    let said = c.end_without.ensures.says refusal stop_is in
    let started : c.start.result ≡ Err (text_fail.Refused refusal) = c.in-Err.is ∙ ap Err said.0 in (
      λ tells.
          let text = some_of (g.F.Files.held c.args.files.now c.args.name.now)
          (c.start.ensures.found tells (subst IsRead (sym started) tt)) in
          (text.0, text.1, ap scans_behind (c.start.ensures.refuses tells text.0 text.1 refusal started)),
      said.1,
    )
