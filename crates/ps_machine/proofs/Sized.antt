-- The sizes of the reports that a channel gives.
use Rattle.std.proofs.Common.{◌≡◌, ℕ, List, length, Option, Some, None}
use Rattle.ps_model.specs.declared.channel.Progress.{Progress}
use Rattle.ps_model.specs.declared.channel.Progress.TheVariants.{Running, Done, Trapped}
use Rattle.ps_model.specs.declared.report.Report.{Report}
use Rattle.ps_machine.specs.Machines.{Machine}
use Rattle.ps_machine.specs.Outcomes.{Outcome, gives, outcome_by, outcome, GivesSized}

-- the sizes of a report that a channel gives
pub record IsSized (outputs instances : ℕ) (o : Outcome) : Type 0 where
  pub outs : (r : Report) → o ≡ gives r → length r.outs ≡ outputs
  pub diags : (r : Report) → o ≡ gives r → length r.diags ≡ instances

report_is : (p : Progress) (o : Option Report) (r : Report) → outcome_by p o ≡ gives r → o ≡ Some r
report_is (Trapped n) o r h = absurd (cc)
report_is Running o r h = absurd (cc)
report_is Done None r h = absurd (cc)
report_is Done (Some q) r h = cc

pub outcome_sized : (m : Machine) (outputs instances : ℕ) (cells : List ℕ) → GivesSized m outputs instances → IsSized outputs instances (outcome m cells)
outcome_sized m outputs instances cells sized = record {
  outs = λ r h. (sized cells r (report_is (m.progress cells) (m.report cells) r h)).0;
  diags = λ r h. (sized cells r (report_is (m.progress cells) (m.report cells) r h)).1;
}
