use Rattle.std.proofs.Common.{◌∙◌, ◌+◌, ℕ, List, length, refl, sym, ap, subst, inl, inr, arith}
use Rattle.std.proofs.lemmas.List.{take_all, length-take}
use Rattle.std.specs.Prelude.{IfOk}
use Rattle.ps_base.specs.declared.failing.Refusal.{Refusal}
use Rattle.ps_base.specs.declared.limits.TheConstants.{LARGEST_CERTIFICATE}
use Rattle.ps_top.specs.Judging.{IsJudged}
use Rattle.ps_top.specs.Program.{Judges}
use Rattle.ps_top.specs.Program.Ruling.{objects}
use Rattle.ps_top.proofs.verifying.judge_read.Goals as goal

pub returns-then-text : goal.returns-then-text
returns-then-text c = λ whole is.
    subst (λ (r : Refusal). Judges c.args.app.now whole (objects r)) (sym c.at_line.ensures)
    (inl (refl, inr (omega (arith, ap length is, length-take (LARGEST_CERTIFICATE + 1) whole))))

pub returns : goal.returns
returns c = λ whole is.
    subst (λ (t : List ℕ). IfOk c.judge.result (IsJudged c.args.app.now t))
    (is ∙ take_all (LARGEST_CERTIFICATE + 1) whole (omega (arith, ap length is, length-take (LARGEST_CERTIFICATE + 1) whole))) c.judge.ensures
