use Rattle.std.proofs.Common.{◌≡◌, ◌∙◌, ℕ, List, [], ap, subst, arith}
use Rattle.ps_flow.specs.Derivation.{certificate}
use Rattle.ps_flow.specs.declared.certificate.CertLine.{CertLine}
use Rattle.ps_model.specs.Network.{Network}
use Rattle.ps_parser.specs.Tree.{SourceTree}
use Rattle.ps_report.specs.Short.{check_text}
use Rattle.ps_accepted.specs.Answering.{app_of, source_of}
use Rattle.ps_accepted.specs.Source.{counts}
use Rattle.ps_top.specs.Asking.{Worked, worked}
use Rattle.ps_top.specs.Calls.{CallSeen, SaysAnswer}
use Rattle.ps_top.specs.Leaving.{left_with}
use Rattle.ps_top.specs.Program.{answer, checked, with_app, with_checked}
use Rattle.ps_top.specs.declared.Status.TheVariants.{Done}
use Rattle.ps_top.specs.declared.left.Leaving.TheVariants.{App, Checked}
use Rattle.ps_top.proofs.Applied.{checked_none}
use Rattle.ps_top.proofs.Calling.{passes_both, passes_left, said_answers}
use Rattle.ps_top.proofs.Checks.{check_answers}
use Rattle.ps_top.proofs.Refusals.{otherwise_refuses}
use Rattle.ps_top.proofs.checking.check.Goals as goal

pub returns-in-Ok-clause-answers : goal.returns-in-Ok-clause-answers
returns-in-Ok-clause-answers g c =
    let net : Network = app_of c.in-Ok.accepted in
    let flat : SourceTree = source_of c.in-Ok.accepted in
    let old = g.C.Call.seen c.args.call.now in
    let there = g.C.Call.seen c.accept.new.call in
    let counted = g.C.Call.seen c.leave.new.self in
    let mid = g.C.Call.seen c.leave-in-Ok.new.self in
    let new = g.C.Call.seen c.say.new.call in
    let parts = c.into_sourced-source.result in
    let is = c.into_sourced-source.ensures in
    let counts_are : parts.2 ≡ counts net (certificate net) =
    is.checked ∙ c.in-Ok.ensures.checked.counts_are ∙ ap (λ (ls : List CertLine). counts net ls) c.in-Ok.ensures.checked.derivation in
    let text = c.as_slice.ensures ∙ c.check_line-line.ensures ∙ ap check_text is.app in
    let said = subst (λ (bytes : List ℕ). SaysAnswer (answer bytes Done) mid new c.say.result) text c.say.ensures.says in
    let left_is = ap (λ (s : CallSeen). worked s.left) c.leave-in-Ok.ensures ∙ ap (λ (s : CallSeen). with_app parts.1 parts.0 (worked s.left)) c.leave.ensures
    ∙ (λ i. with_app (is.app i) (is.source i) (with_checked (counts_are i) (worked there.left))) in
    check_answers c.args.app.now net flat {old = old} {mid = mid} {new = new}
    (passes_both {old = old} {mid = there} {new = mid} c.in-Ok.ensures.finds.passes
    (passes_both {old = there} {mid = counted} {new = mid} (passes_left (left_with (Checked parts.2) there.left) c.leave.ensures)
    (passes_left (left_with (App parts.1 parts.0) counted.left) c.leave-in-Ok.ensures)))
    (λ tells. let found = c.in-Ok.ensures.finds.gives tells in (
      found.0,
      found.1,
      record {
        accepted = found.2;
        program = c.in-Ok.ensures.sourced tells found.0 found.1;
        left = left_is ∙ ap (λ (w : Worked). with_app net flat (with_checked (counts net (certificate net)) w)) found.3;
      },
    ))
    (said_answers (answer (check_text net) Done) [] {old = mid} {new = new} (λ cut. grind arith) said
    (otherwise_refuses Done c.say.result new.left new.out (λ refusing. grind arith) said.ends) (ap worked c.say.ensures.left))

pub returns-in-Err-clause-answers : goal.returns-in-Err-clause-answers
returns-in-Err-clause-answers g c = checked_none c.args.app.now checked [] c.in-Err.ensures.none
