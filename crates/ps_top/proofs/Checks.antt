-- How `check` goes on from an application that was accepted.
use Rattle.std.proofs.Common.{◌≡◌, ℕ, List, [], ◌∷◌, Some, IsTrue, refl}
use Rattle.ps_flow.specs.Derivation.{certificate}
use Rattle.ps_model.specs.Network.{Network}
use Rattle.ps_parser.specs.Tree.{SourceTree}
use Rattle.ps_report.specs.Short.{check_text}
use Rattle.ps_accepted.specs.Source.{IsAcceptedAs, IsProgram, counts}
use Rattle.ps_accepted.specs.Source.Reading.{stands_for}
use Rattle.ps_top.specs.Asking.{Worked, worked}
use Rattle.ps_top.specs.Asking.Asking.{Says}
use Rattle.ps_top.specs.Calls.{Answers, CallSeen, Passes}
use Rattle.ps_top.specs.Program.{answer, check, checked, leaves_app, with_app, with_checked, with_text}
use Rattle.ps_top.specs.declared.Status.{Status}
use Rattle.ps_top.specs.declared.Status.TheVariants.{Done}
use Rattle.ps_top.proofs.Applied.{checked_on}
use Rattle.ps_top.proofs.Calling.{answers_behind, answers_wider, goes_both, leaves_on}

-- An application was accepted, and it is left with its flat source.
pub record LeavesAll (net : Network) (flat : SourceTree) (text : List ℕ) (before work : Worked) : Type 0 where
  pub accepted : IsAcceptedAs text (stands_for net)
  pub program : IsProgram text flat
  pub left : work ≡ with_app net flat (with_checked (counts net (certificate net)) (with_text text before))

-- and the line of its counts was said
pub check_answers : (app : List ℕ) (net : Network) (flat : SourceTree) {old mid new : CallSeen} {status : Status} → Passes old mid →
    (IsTrue old.files.tells → (text : List ℕ) × (old.files.held app ≡ Some text) × LeavesAll net flat text (worked old.left) (worked mid.left)) →
    Answers (Says (answer (check_text net) Done)) [] mid new status → Answers (check app) (app ∷ []) old new status
check_answers app net flat {old} {mid} {new} {status} passes left answers =
    let said = Says (answer (check_text net) Done) in
    let before = worked old.left in
    answers_wider app (answers_behind (check app) said [] {old = old} {mid = mid} {new = new} passes
    (λ tells.
    let l = left tells in
    let counted = with_checked (counts net (certificate net)) (with_text l.0 before) in
    goes_both old.files.held before status counted (worked mid.left) (check app) (checked l.0 net) said
    (checked_on app l.0 IsAcceptedAs checked net old.files.held before counted status l.1 l.2.accepted refl)
    (leaves_on old.files.held counted status (leaves_app l.0 net) said (worked mid.left) (λ not_cut. (flat, l.2.program, l.2.left)))) answers)
