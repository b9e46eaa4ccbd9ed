use Rattle.std.proofs.Common.{◌≡◌, ◌∙◌, ◌++◌, List, ℕ, OnOk, Some, ap, append-nil, slice_get, subst, sym}
use Rattle.ps_model.specs.Action.{calls}
use Rattle.ps_model.specs.Steps.{action}
use Rattle.ps_cover.specs.Telling.{known_of}
use Rattle.ps_cover.specs.Text.{head_line, missed_marks, step_text}
use Rattle.ps_cover.proofs.Chains.{carry, chain2}
use Rattle.ps_cover.proofs.text.add_step.Goals as goal

pub returns-in_ok-add_head-in-Call : goal.returns-in_ok-add_head-in-Call
returns-in_ok-add_head-in-Call c =
    let x = known_of c.args.told.now in
    let k = c.args.k in
    let format = c.args.format in
    let at : slice_get x.net.steps k ≡ Some (calls c.in-Call.instance c.in-Call.args) = c.step.ensures ∙ ap (λ s. Some (action s)) c.in-Call.is in
    subst (λ a. OnOk c.add_missed_marks.result (c.add_missed_marks.new.text ≡ c.args.text.now ++ step_text x format k a)) (sym at)
    (carry c.add_missed_marks.result (λ last. chain2 c.args.text.now (head_line x format k c.in-Call.instance) (missed_marks x format k) c.in_ok-add_head-in-Call.ensures last)
    c.add_missed_marks.ensures)

pub returns-in-Assign : goal.returns-in-Assign
returns-in-Assign c =
    let x = known_of c.args.told.now in
    sym (append-nil c.args.text.now)
    ∙ ap (λ (line : List ℕ). c.args.text.now ++ line) (sym (ap (step_text x c.args.format c.args.k) (c.step.ensures ∙ ap (λ s. Some (action s)) c.in-Assign.is)))
