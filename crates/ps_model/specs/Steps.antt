-- What a step of the program is, and what is kept beside steps.
use Rattle.std.specs.Prelude.{◌≡◌, ℕ, List, Option}
use Rattle.ps_model.specs.declared.step.Step.{Step}
use Rattle.ps_model.specs.declared.step.Step.TheVariants.{Assign, Call}
use Rattle.ps_model.specs.declared.node.Node.{Node}
use Rattle.ps_model.specs.Exprs.{formula}
use Rattle.ps_model.specs.Action.{Action, assigns, calls}
use Rattle.ps_model.specs.NodeList.{listed_of_steps}
use Rattle.ps_model.specs.FirstSteps.{NotesFirst, is_assignment_to, is_call}

-- an assignment or a call, with its expressions as formulas
abbrev pub action : Step → Action
action (Assign target value) = assigns target (formula value)
action (Call instance args) = calls instance args

-- beside these steps are kept the list of their nodes, the first step that assigns each signal, and the first that
-- calls each instance
pub record KeepsBeside (steps : List Action) (list : List Node) (assigning calling : List (Option ℕ)) : Type 0 where
  pub nodes : list ≡ listed_of_steps steps
  pub first_assignments : NotesFirst is_assignment_to steps assigning
  pub first_calls : NotesFirst is_call steps calling
