use Rattle.std.proofs.Common.{◌∙◌, [], List, ap, subst, sym}
use Rattle.std.specs.Prelude.{codes}
use Rattle.ps_checker.specs.Counts.{Counts}
use Rattle.ps_flow.specs.Derivation.{certificate}
use Rattle.ps_flow.specs.declared.certificate.CertLine.{CertLine}
use Rattle.ps_load.specs.Holding.{Load, held_of}
use Rattle.ps_load.specs.Texts.{app_text}
use Rattle.ps_model.specs.Network.{Network}
use Rattle.ps_accepted.specs.Answering.{app_of}
use Rattle.ps_accepted.specs.Source.{Reading, IsAcceptedAs, counts}
use Rattle.ps_accepted.specs.Source.Reading.{stands_for}
use Rattle.ps_top.specs.Asking.{worked}
use Rattle.ps_top.specs.Calls.{CallSeen}
use Rattle.ps_top.specs.Leaving.{left_with}
use Rattle.ps_top.specs.Program.{leaves_checked, with_application, with_checked, sum_trace}
use Rattle.ps_top.specs.declared.left.Leaving.TheVariants.{Checked}
use Rattle.ps_top.proofs.Calling.{answers_behind, found_of_all, leaves_on, passes_left}
use Rattle.ps_top.proofs.Counted.{none_answers}
use Rattle.ps_top.proofs.Applied.{with_counts}
use Rattle.ps_top.proofs.loading.load.Goals as goal

pub returns-in-Ok-clause-answers : goal.returns-in-Ok-clause-answers
returns-in-Ok-clause-answers g c =
    let net : Network = c.into_parts-app.result.0 in
    let is = c.into_parts-app.ensures.app in
    let n = c.args.number in
    let accepts = c.in-Ok.ensures.accepts in
    let old = g.C.Call.seen c.args.call.now in
    let mid = g.C.Call.seen c.leave.new.self in
    let new = g.C.Call.seen c.sum_trace.new.call in
    let status = c.sum_trace.result in
    let stands : IsAcceptedAs app_text (stands_for net) = subst (λ (m : Network). IsAcceptedAs app_text (stands_for m)) (sym is) accepts.0 in
    let left_counts =
    ap (λ (x : CallSeen). worked x.left) c.leave.ensures
    ∙ ap (λ (x : Counts). with_checked x (worked old.left))
    (c.into_parts-app.ensures.checked ∙ accepts.1.counts_are ∙ ap (λ (ls : List CertLine). counts (app_of c.in-Ok.accepted) ls) accepts.1.derivation
    ∙ ap (λ (m : Network). counts m (certificate m)) (sym is)) in
    found_of_all Reading (IsAcceptedAs app_text) (with_application (with_counts (sum_trace n))) [] {old = old} {new = new} (stands_for net) stands
    (answers_behind (with_counts (sum_trace n) net) (sum_trace n net) [] {old = old} {mid = mid} {new = new}
    (passes_left (left_with (Checked c.into_parts-app.result.1) old.left) c.leave.ensures)
    (λ tells. leaves_on old.files.held (worked old.left) status (leaves_checked (counts net (certificate net))) (sum_trace n net) (worked mid.left) (λ not_cut. left_counts))
    c.sum_trace.ensures.answers)

pub sum_trace-requires-clause-held : goal.sum_trace-requires-clause-held
sum_trace-requires-clause-held g c = ap (λ held. held (codes "trace")) c.in-Ok.ensures.held ∙ ap (λ (l : Load). held_of l (codes "trace")) c.new-files.ensures

pub returns-in-Err-clause-answers : goal.returns-in-Err-clause-answers
returns-in-Err-clause-answers g c = none_answers c.args.number c.in-Err.why c.in-Err.ensures.accepts c.say_none.ensures.says c.say_none.ensures.refuses c.say_none.ensures.worked
