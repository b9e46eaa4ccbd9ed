use Rattle.std.proofs.Common.{◌≡◌, List, ℕ, Err, inl}
use Rattle.ps_bench_never.specs.declared.answering.NeverFail.TheVariants.{Refused}
use Rattle.ps_bench_never.specs.AnsweringAny.{IsRefusedFor}
use Rattle.ps_bench_never.proofs.Coming.{with_text}
use Rattle.ps_bench_never.proofs.forbidding.never_app.Goals as goal

pub returns-in-Err-Refused-clause-answers : goal.returns-in-Err-Refused-clause-answers
returns-in-Err-Refused-clause-answers g c =
    let app = c.args.opened.now.app in
    let held = g.F.Files.held c.args.files.now in
    let rules = c.args.asked.now.rules.now in
    let refusal = c.in-Err-Refused.refusal in
    let is = c.in-Err-Refused.is in
    let field-is = c.in-Err-Refused.field-0-is in
    let here : c.answer.result ≡ Err (Refused refusal) = cc in
    inl (
      refusal,
      (λ told. with_text (λ (text : List ℕ). IsRefusedFor app text refusal) (held rules)
          (c.answer.ensures.found told (λ e. cc) (λ e. cc))
          (λ text at. c.answer.ensures.refuses told text at refusal here)),
      c.refuse_rules.ensures.stops,
    )
