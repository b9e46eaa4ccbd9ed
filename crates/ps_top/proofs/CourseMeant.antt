-- A run of three seats is answered by what its scans mean.
use Rattle.std.proofs.Common.{◌≡◌, ◌∙◌, ◌++◌, ℕ, Bool, true, false, List, [], ◌∷◌, Option, None, length, map, refl, sym, ap, subst}
use Rattle.ps_base.specs.declared.failing.Refusal.{Refusal}
use Rattle.ps_model.specs.Network.{Network, input_count, instance_count}
use Rattle.ps_model.specs.Scanning.{State}
use Rattle.ps_model.specs.Sound.{IsSound}
use Rattle.ps_model.specs.Meaning.{Item, Meaning, nothing}
use Rattle.ps_model.specs.Meaning.Item.{scan, restart}
use Rattle.ps_model.proofs.Runs.{one_run}
use Rattle.ps_report.specs.Short.{refusal_text}
use Rattle.ps_machine.specs.Items.{AreTimely}
use Rattle.ps_trace.specs.FaultOrder.{StrikeOne}
use Rattle.ps_trace.specs.Reading.{only_refused}
use Rattle.ps_trace.specs.Scans.{Scans}
use Rattle.ps_vote.specs.declared.faults.VoteFault.{VoteFault}
use Rattle.ps_vote.specs.Faults.{line_of_fault}
use Rattle.ps_vote.specs.Worlds.{Machines, World_state}
use Rattle.ps_vote.specs.Votes.{vote}
use Rattle.ps_vote.specs.Orders.{course}
use Rattle.ps_vote.specs.Answers.{answers, AnswerRight, IsRight, VoteRunsAreRight, HealRunsAreRight}
use Rattle.ps_vote.specs.Whole.{Whole, machines_in, IsWorldOf}
use Rattle.ps_top.specs.Asking.{Answer, IsAnswer, IsLeftAfter, Worked}
use Rattle.ps_runs.specs.Lines.{restart_line, voted_text}
use Rattle.ps_top.specs.Program.{answer, first_seats, voted_lines, end_line, end_status, vote_scans, with_votes}
use Rattle.ps_runs.specs.Seats.{run_end}
use Rattle.ps_runs.specs.Seats.{coming, course_lines, first_outvoted_again, voted_world}
use Rattle.ps_runs.specs.declared.seats.Again.{Again}
use Rattle.ps_top.specs.Resting.{vote_answer}
use Rattle.ps_top.specs.declared.Status.TheVariants.{BadInput}

-- the lines of items by the reports that are given are those by the reports that are meant
lines_are_meant : (net : Network) (m : Machines) (items : List Item) (votes : List World_state) (ws : List State) →
    AnswerRight net (answers m (length net.outputs) (instance_count net) votes) ws → course_lines net m items votes ≡ voted_lines net items (map (vote m) votes) ws
lines_are_meant net m [] votes ws right = refl
lines_are_meant net m (restart ∷ items) votes ws right = ap (λ l. restart_line ++ l) (lines_are_meant net m items votes ws right)
lines_are_meant net m (scan now ins ∷ items) [] ws right = refl
lines_are_meant net m (scan now ins ∷ items) (z ∷ votes) [] right = absurd right
lines_are_meant net m (scan now ins ∷ items) (z ∷ votes) (w ∷ ws) right =
    let more = lines_are_meant net m items votes ws right.2 in (λ i. voted_text net now (right.1 i) (vote m z) ++ more i)

-- the faults of a run that heals none strike one seat
abbrev pub StrikeOneUnless : Bool → List VoteFault → Type 0
StrikeOneUnless heals faults = heals ≡ false → StrikeOne line_of_fault faults

runs_right : (net : Network) (m : Machines) → VoteRunsAreRight net m → HealRunsAreRight net m → (heals : Bool) (faults : List VoteFault) → StrikeOneUnless heals faults →
    (items : List Item) (ws : List State) → AreTimely (input_count net) 0 items → Meaning net items ws → IsRight net m (course heals m items faults) items ws
runs_right net m votes healed true faults one items ws timely means = healed items faults ws timely means
runs_right net m votes healed false faults one items ws timely means = (votes items faults ws timely (one refl) means).0

module _ (net : Network) (sound : IsSound net) (heals : Bool) (faults : List VoteFault) (w : Whole) (built : IsWorldOf net w) where
  at_first : w ≡ first_seats w.setup
  at_first = λ i. record { setup = w.setup; state = built.beginning i }

  module _ (one : StrikeOneUnless heals faults) (votes : VoteRunsAreRight net (machines_in w.setup)) (healed : HealRunsAreRight net (machines_in w.setup)) where
    -- what is written of a run answers it
    pub run_answers : (scans : Scans) → AreTimely (input_count net) 0 scans.items → (held : List ℕ → Option (List ℕ)) (said : Answer) → said ≡ vote_answer heals net faults w scans →
        IsAnswer (vote_scans heals net w.setup faults scans) held said
    run_answers scans timely held said is =
        let m = machines_in w.setup in
        let meant = one_run net sound nothing scans.items in
        let run = course heals m scans.items faults in
        let right = runs_right net m votes healed heals faults one scans.items meant.0 timely meant.1 in
        let end = run_end run.refused scans.end in (
          meant.0,
          meant.1,
          is
              ∙ (λ i. vote_answer heals net faults (at_first i) scans)
              ∙ (λ i. answer (lines_are_meant net m run.done run.votes meant.0 right.answers_right i ++ end_line end) (end_status end [])),
        )

  -- a trace whose header is refused
  pub refusal_answers : (held : List ℕ → Option (List ℕ)) (scans : Scans) (r : Refusal) (said : Answer) → scans ≡ only_refused r → said ≡ answer (refusal_text r) BadInput →
      IsAnswer (vote_scans heals net w.setup faults scans) held said
  refusal_answers held scans r said is e = subst (λ (s : Scans). IsAnswer (vote_scans heals net w.setup faults s) held said) (sym is) ([], refl, e)

  -- what is left of a run whose world this is, and the first seat that was outvoted again
  pub run_leaves : (scans scans' : Scans) → scans ≡ scans' → (held : List ℕ → Option (List ℕ)) (behind : Whole) (again : Option Again) (before work : Worked) →
      work ≡ with_votes behind again before → behind ≡ voted_world heals faults scans.items w →
      again ≡ first_outvoted_again heals (machines_in w.setup) (coming heals faults 1 scans.items w) →
      IsLeftAfter (vote_scans heals net w.setup faults scans') held before work
  run_leaves scans scans' same held behind again before work is_left ends outvoted =
      let run = one_run net sound nothing scans'.items in
      let m = machines_in w.setup in
      let ended = ends ∙ ap (λ (s : Scans). voted_world heals faults s.items w) same ∙ (λ i. voted_world heals faults scans'.items (at_first i)) in
      let first = outvoted ∙ ap (λ (s : Scans). first_outvoted_again heals m (coming heals faults 1 s.items w)) same
      ∙ (λ i. first_outvoted_again heals m (coming heals faults 1 scans'.items (at_first i))) in
      (work, is_left ∙ (λ i. with_votes (ended i) (first i) before), (run.0, run.1, refl))

  -- and of one whose trace's header is refused: the world at the beginning
  pub refusal_leaves : (scans : Scans) (r : Refusal) → scans ≡ only_refused r → (held : List ℕ → Option (List ℕ)) (before work : Worked) → work ≡ with_votes w None before →
      IsLeftAfter (vote_scans heals net w.setup faults scans) held before work
  refusal_leaves scans r is held before work is_left = run_leaves (only_refused r) scans (sym is) held w None before work is_left refl refl
