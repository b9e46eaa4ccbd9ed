use Rattle.std.proofs.Common.{◌≡◌, ◌∙◌, ℕ, List, rules, inr, ap, sym, subst, arith}
use Rattle.std.proofs.lemmas.Grind.{common_steps}
use Rattle.ps_top.specs.Asking.{worked}
use Rattle.ps_top.specs.Calls.{SaysAnswer}
use Rattle.ps_top.specs.Judging.{SaysJudgement}
use Rattle.ps_top.specs.Leaving.{left_with}
use Rattle.ps_top.specs.Lines.{verified_line}
use Rattle.ps_top.specs.Program.{answer}
use Rattle.ps_top.specs.declared.Status.TheVariants.{Done}
use Rattle.ps_top.specs.declared.left.Leaving.TheVariants.{Checked}
use Rattle.ps_top.specs.declared.verifying.Judgement.{Judgement}
use Rattle.ps_top.proofs.Calling.{says_left}
use Rattle.ps_top.proofs.verifying.tell.Goals as goal

pub returns-in-Ok-clause-says : goal.returns-in-Ok-clause-says
returns-in-Ok-clause-says g c =
    let old = g.C.Call.seen c.args.call.now in
    let mid = g.C.Call.seen c.leave.new.self in
    let new = g.C.Call.seen c.say.new.call in
    let checked = c.in-Derives.checked in
    let line : c.as_bytes.result.now ≡ verified_line c.in-Derives.checked.lines = first_of (search rules, grind (arith, common_steps)) in
    subst (λ (j : Judgement). SaysJudgement j old new c.say.result) (sym c.in-Derives.is)
    (inr (
      says_left {old = old} {mid = mid} {new = new} (left_with (Checked checked) old.left) c.leave.ensures
          (subst (λ (bytes : List ℕ). SaysAnswer (answer bytes Done) mid new c.say.result) line c.say.ensures.says),
      ap worked c.say.ensures.left ∙ ap (λ s. worked s.left) c.leave.ensures,
    ))
