use Rattle.std.proofs.Common.{◌≡◌, Option, arith}
use Rattle.std.proofs.lemmas.Result.{IfOk-weaker}
use Rattle.ps_bench_rules.specs.File.{has_begun, said_after}
use Rattle.ps_bench_rules.specs.Line.{line_said}
use Rattle.ps_bench_rules.specs.Saying.{IsLineTaken, after_by}
use Rattle.ps_bench_rules.specs.declared.flaw.RulesRefusal.{RulesRefusal}
use Rattle.ps_bench_rules.proofs.ReadLines.{line_is_taken}
use Rattle.ps_bench_rules.proofs.reading.take_line.Goals as goal

pub returns-in_default : goal.returns-in_default
returns-in_default c =
    let net = c.args.app.now in
    let d = c.args.draft.now in
    let number = c.args.number in
    let line = c.args.line.now in
    IfOk-weaker c.take.result (λ (refusal : Option RulesRefusal). said_after d number (line_said net c.args.purpose (has_begun d) line) ≡ after_by refusal c.take.new.self)
    (IsLineTaken net c.args.purpose c.args.got number line d c.take.new.self)
    (λ refusal says. line_is_taken net c.args.purpose c.args.got d c.take.new.self number line refusal c.requires c.in_default.not-TooLong c.in_default.not-TooLarge
    (omega arith) says) c.take.ensures
