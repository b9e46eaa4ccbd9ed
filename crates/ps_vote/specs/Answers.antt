-- What the runs of `vote` and `heal` answer, scan by scan, and that it is right.
use Rattle.std.specs.Prelude.{◌≡◌, ◌≢◌, ℕ, true, false, List, [], ◌∷◌, map, length, None}
use Rattle.ps_model.specs.declared.report.Report.{Report}
use Rattle.ps_model.specs.Network.{Network, input_count, instance_count}
use Rattle.ps_model.specs.Scanning.{State}
use Rattle.ps_model.specs.Meaning.{Item, Meaning, report}
use Rattle.ps_trace.specs.FaultOrder.{StrikeOne}
use Rattle.ps_machine.specs.Items.{AreTimely}
use Rattle.ps_vote.specs.declared.faults.VoteFault.{VoteFault}
use Rattle.ps_vote.specs.declared.seat.Vote.{Vote}
use Rattle.ps_vote.specs.declared.seat.Vote.TheVariants.{Split}
use Rattle.ps_vote.specs.Faults.{line_of_fault}
use Rattle.ps_vote.specs.Worlds.{Machines, World_state}
use Rattle.ps_vote.specs.Votes.{vote, report_given}
use Rattle.ps_vote.specs.Orders.{Course, course}

-- the answer of a scan: its vote, and the report that is given
pub record Answer : Type 0 where
  pub vote : Vote
  pub report : Report

-- the answers of scans whose votes come in these worlds, for an application with so many outputs and instances
abbrev pub answers : Machines → (outputs instances : ℕ) → List World_state → List Answer
answers m outputs instances votes = map (λ x. record { vote = vote m x; report = report_given m outputs instances x }) votes

-- no answer is Split, and each gives the report of its scan's state
abbrev pub AnswerRight : Network → List Answer → List State → Type 0
AnswerRight net [] ws = Unit {0}
AnswerRight net (a ∷ later) [] = ⊥
AnswerRight net (a ∷ later) (w ∷ ws) = (a.vote ≢ Split) × (a.report ≡ report net w) × AnswerRight net later ws

module _ (net : Network) (m : Machines) where
  -- A run is right over items that mean these states: each scan that was closed answers right, and where the run ends
  -- at no fault all items were done.
  pub record IsRight (run : Course) (items : List Item) (ws : List State) : Type 0 where
    pub answers_right : AnswerRight net (answers m (length net.outputs) (instance_count net) run.votes) ws
    pub whole : run.refused ≡ None → (run.done ≡ items) × (length run.votes ≡ length ws)

  -- A run of `vote` is right and ends at no fault, where all faults strike one seat.
  abbrev pub VoteRunsAreRight : Type 0
  VoteRunsAreRight = (items : List Item) (faults : List VoteFault) (ws : List State) → AreTimely (input_count net) 0 items → StrikeOne line_of_fault faults →
      Meaning net items ws → IsRight (course false m items faults) items ws × ((course false m items faults).refused ≡ None)

  -- A run of `heal` is right, whichever seats the faults strike.
  abbrev pub HealRunsAreRight : Type 0
  HealRunsAreRight = (items : List Item) (faults : List VoteFault) (ws : List State) → AreTimely (input_count net) 0 items → Meaning net items ws →
      IsRight (course true m items faults) items ws
