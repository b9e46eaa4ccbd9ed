use Rattle.std.proofs.Common.{◌≡◌, ◌∙◌, true, [], inl, inr, refl, ap, subst}
use Rattle.std.proofs.lemmas.Result.{IfOk-weaker}
use Rattle.clap.specs.Kinds.{HasKind}
use Rattle.clap.specs.Words.{App, HasMatchesOf, fault_of, is_simple, is_simple_and_free}
use Rattle.ps_bench_words.specs.Asking.{matched_asks}
use Rattle.ps_bench_words.specs.Commands.{commands, workbench}
use Rattle.ps_bench_words.specs.Seen.{seen}
use Rattle.ps_bench_words.proofs.asking.asked_of.Goals as goal

is_simple_app : is_simple workbench ≡ true
unfolding workbench commands
is_simple_app = refl

free_app : is_simple_and_free workbench ≡ true
unfolding workbench commands
free_app = refl

pub returns-in-Ok : goal.returns-in-Ok
returns-in-Ok c =
    let words = seen c.args.words.now in
    let matches = subst (λ (a : App). HasMatchesOf a words c.in-Ok.matches) c.in_ok-program.ensures c.in-Ok.ensures.matches in
    let none = subst (λ (a : App). fault_of a words ≡ []) c.in_ok-program.ensures
    (c.in-Ok.ensures.kinds (ap is_simple_and_free c.in_ok-program.ensures ∙ free_app)) in
    IfOk-weaker c.matched.result _ _ (λ asked is. inl (none, is ∙ ap matched_asks (matches is_simple_app).1)) c.matched.ensures

pub returns-in-Err : goal.returns-in-Err
returns-in-Err c =
    let words = seen c.args.words.now in
    IfOk-weaker c.refused.result _ _ (λ asked is. inr is)
    (c.refused.ensures (subst (λ (a : App). HasKind (fault_of a words) c.in-Err.error) c.in_ok-program.ensures
    (c.in-Err.ensures.kinds (ap is_simple_and_free c.in_ok-program.ensures ∙ free_app))))
