-- What the judge of a certificate's text answers.
use Rattle.std.specs.Prelude.{◌≡◌, ◌⊎◌, ℕ, List}
use Rattle.ps_flow.specs.declared.certificate.CertLine.{CertLine}
use Rattle.ps_model.specs.Network.{Network}
use Rattle.ps_report.specs.Short.{refusal_text}
use Rattle.ps_top.specs.Lines.{verified_line}
use Rattle.ps_top.specs.Asking.{Answer, worked}
use Rattle.ps_accepted.specs.Source.{counts}
use Rattle.ps_top.specs.Calls.{CallSeen, SaysAnswer}
use Rattle.ps_top.specs.Program.{answer, leaves_checked, Judges}
use Rattle.ps_top.specs.Program.Ruling.{derives, objects}
use Rattle.ps_top.specs.declared.Status.{Status}
use Rattle.ps_top.specs.declared.Status.TheVariants.{Done, BadInput, Memory}
use Rattle.ps_top.specs.declared.verifying.Judgement.{Judgement}
use Rattle.ps_top.specs.declared.verifying.Judgement.TheVariants.{Derives, Objects}

-- the text of a certificate comes to this
abbrev pub IsJudged : Network → List ℕ → Judgement → Type 0
IsJudged net text (Derives c) = (lines : List CertLine) × Judges net text (derives lines) × (c ≡ counts net lines)
IsJudged net text (Objects refusal) = Judges net text (objects refusal)

-- a judgement has its line
abbrev pub told_of : Judgement → Answer
told_of (Derives c) = answer (verified_line c.lines) Done
told_of (Objects refusal) = answer (refusal_text refusal) BadInput

-- The line of a judgement is said, and the counts of what was checked are left. Or memory ran out, and nothing was
-- done.
abbrev pub SaysJudgement : Judgement → (old new : CallSeen) → Status → Type 0
SaysJudgement (Derives c) old new status =
    ((status ≡ Memory) × (new ≡ old))
    ⊎ (SaysAnswer (told_of (Derives c)) old new status × leaves_checked c (worked old.left) (worked new.left))
SaysJudgement (Objects refusal) old new status =
    SaysAnswer (told_of (Objects refusal)) old new status × (worked new.left ≡ worked old.left)
