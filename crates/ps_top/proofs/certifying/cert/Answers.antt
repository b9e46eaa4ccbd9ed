use Rattle.std.proofs.Common.{◌∙◌, ℕ, List, [], ap, subst, arith}
use Rattle.ps_checker.specs.Counts.{Counts}
use Rattle.ps_flow.specs.Derivation.{certificate}
use Rattle.ps_flow.specs.Written.{written}
use Rattle.ps_flow.specs.declared.certificate.CertLine.{CertLine}
use Rattle.ps_model.specs.Network.{Network}
use Rattle.ps_accepted.specs.Answering.{app_of}
use Rattle.ps_accepted.specs.Source.{counts}
use Rattle.ps_top.specs.Asking.{Asking, Worked, worked}
use Rattle.ps_top.specs.Asking.Asking.{Says}
use Rattle.ps_top.specs.Calls.{CallSeen, SaysAnswer}
use Rattle.ps_top.specs.Leaving.{left_with}
use Rattle.ps_top.specs.Program.{answer, with_checked}
use Rattle.ps_top.specs.declared.Status.TheVariants.{Done}
use Rattle.ps_top.specs.declared.left.Leaving.TheVariants.{Checked}
use Rattle.ps_top.proofs.Applied.{accepted_answers, checked_none}
use Rattle.ps_top.proofs.Calling.{passes_both, passes_left, said_answers}
use Rattle.ps_top.proofs.Refusals.{otherwise_refuses}
use Rattle.ps_top.proofs.certifying.cert.Goals as goal

abbrev certified : Network → Asking
certified net = Says (answer (written (certificate net)) Done)

pub returns-in-Ok-certificate_text-clause-answers : goal.returns-in-Ok-certificate_text-clause-answers
returns-in-Ok-certificate_text-clause-answers g c =
    let net : Network = app_of c.in-Ok.accepted in
    let old = g.C.Call.seen c.args.call.now in
    let there = g.C.Call.seen c.accept.new.call in
    let mid = g.C.Call.seen c.leave.new.self in
    let new = g.C.Call.seen c.say_lines.new.call in
    let text = c.as_slice.ensures ∙ c.in-Ok-certificate_text.ensures ∙ ap (λ (ls : List CertLine). written ls) c.in-Ok.ensures.checked.derivation in
    let said = subst (λ (bytes : List ℕ). SaysAnswer (answer bytes Done) mid new c.say_lines.result) text c.say_lines.ensures.says in
    let counts_are = c.into_parts-checked.ensures.checked ∙ c.in-Ok.ensures.checked.counts_are ∙ ap (λ (ls : List CertLine). counts net ls) c.in-Ok.ensures.checked.derivation in
    let left_is = ap (λ (s : CallSeen). worked s.left) c.leave.ensures ∙ ap (λ (x : Counts). with_checked x (worked there.left)) counts_are in
    accepted_answers c.args.app.now certified [] net {old = old} {mid = mid} {new = new}
    (passes_both {old = old} {mid = there} {new = mid} c.in-Ok.ensures.finds.passes (passes_left (left_with (Checked c.into_parts-checked.result.1) there.left) c.leave.ensures))
    (λ tells. let found = c.in-Ok.ensures.finds.gives tells in (
      found.0,
      found.1,
      found.2,
      left_is ∙ ap (λ (w : Worked). with_checked (counts net (certificate net)) w) found.3,
    ))
    (said_answers (answer (written (certificate net)) Done) [] {old = mid} {new = new} (λ cut. grind arith) said
    (otherwise_refuses Done c.say_lines.result new.left new.out (λ refusing. grind arith) said.ends) (ap worked c.say_lines.ensures.left))

pub returns-in-Err-clause-answers : goal.returns-in-Err-clause-answers
returns-in-Err-clause-answers g c = checked_none c.args.app.now (λ source. certified) [] c.in-Err.ensures.none
