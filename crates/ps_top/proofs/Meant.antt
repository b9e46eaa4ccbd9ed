-- A run is answered by what its scans mean.
use Rattle.std.proofs.Common.{◌≡◌, ◌<◌, ◌∙◌, ◌++◌, ℕ, suc, false, List, [], ◌∷◌, Option, None, length, refl, sym, ap, subst, arith}
use Rattle.std.specs.Prelude.{slice_index_or}
use Rattle.ps_base.specs.declared.failing.Refusal.{Refusal}
use Rattle.ps_model.specs.declared.channel.Channel.{Channel}
use Rattle.ps_model.specs.declared.channel.Channel.TheVariants.{A, B}
use Rattle.ps_model.specs.declared.channel.Fault.{Fault}
use Rattle.ps_model.specs.Network.{Network, input_count}
use Rattle.ps_model.specs.Sound.{IsSound}
use Rattle.ps_model.specs.Meaning.{Item, nothing}
use Rattle.ps_model.proofs.Runs.{one_run}
use Rattle.ps_report.specs.Short.{refusal_text}
use Rattle.ps_machine.specs.Items.{AreTimely}
use Rattle.ps_trace.specs.FaultOrder.{AreOfOneChannel}
use Rattle.ps_trace.specs.Reading.{only_refused}
use Rattle.ps_trace.specs.Scans.{Scans}
use Rattle.ps_world.specs.Worlds.{World_state}
use Rattle.ps_world.specs.Steps.{after}
use Rattle.ps_world.specs.Lists.{is_same}
use Rattle.ps_world.specs.Orders.{other, events, run_events}
use Rattle.ps_world.specs.Answers.{SpareChannel, ReleaseRight, RunsAreRight, answers_of_run}
use Rattle.ps_world.specs.Whole.{Whole, machines_in, after_events, IsWorldOf}
use Rattle.ps_top.specs.Asking.{Answer, IsAnswer, IsLeftAfter, Worked}
use Rattle.ps_top.specs.Program.{answer, end_line, first_world, answer_scans, with_world}
use Rattle.ps_runs.specs.Tripping.{first_trip}
use Rattle.ps_runs.specs.declared.striking.Trip.{Trip}
use Rattle.ps_runs.specs.Resting.{answered, ran, answer_lines, any_trips}
use Rattle.ps_top.specs.Resting.{status_of, run_answer}
use Rattle.ps_top.specs.declared.Status.TheVariants.{BadInput}
use Rattle.ps_top.proofs.Joined.{lines_are_meant, status_is_meant}

-- faults of one channel spare the other
pub one_spared : (faults : List Fault) → AreOfOneChannel faults → (ch : Channel) × SpareChannel ch faults
one_spared [] one = (A, tt)
one_spared (f ∷ faults) one = (other f.channel, (others_differ f.channel f.channel refl, all_spared faults (λ i d lt. one 0 (suc i) d (omega arith) (omega (arith, lt)))))
  where
    others_differ : (c d : Channel) → c ≡ d → is_same (other c) d ≡ false
    others_differ A A same = refl
    others_differ B B same = refl
    others_differ A B same = cc
    others_differ B A same = cc

    all_spared : (fs : List Fault) → ((i : ℕ) (d : Fault) → i < length fs → f.channel ≡ (slice_index_or fs i d).channel) → SpareChannel (other f.channel) fs
    all_spared [] each = tt
    all_spared (g ∷ gs) each = (others_differ f.channel g.channel (each 0 g (omega arith)), all_spared gs (λ i d lt. each (suc i) d (omega (arith, lt))))

-- the world after a run is that of all its events
pub ran_is : (net : Network) (faults : List Fault) (w : Whole) → IsWorldOf net w → (items : List Item) →
    ran faults 1 items w ≡ after_events (events (machines_in w.setup) items faults) (first_world w.setup)
ran_is net faults w built items = λ i. record { setup = w.setup; state = (after_run (built.beginning i)) }
  where
    after_run : World_state → World_state
    after_run x = after (machines_in w.setup) (run_events (machines_in w.setup) faults 1 items x) x

module _ (net : Network) (sound : IsSound net) (faults : List Fault) (one : AreOfOneChannel faults) (w : Whole) (built : IsWorldOf net w) (right : RunsAreRight net (machines_in w.setup)) where
  -- what is written of a run answers it
  pub run_answers : (scans : Scans) → AreTimely (input_count net) 0 scans.items → (held : List ℕ → Option (List ℕ)) (said : Answer) → said ≡ run_answer net faults w scans →
      IsAnswer (answer_scans net w.setup faults scans) held said
  run_answers scans timely held said is =
      let m = machines_in w.setup in
      let run = one_run net sound nothing scans.items in
      let spared = one_spared faults one in
      let released : ReleaseRight net (answers_of_run net m scans.items faults) run.0 = right scans.items faults run.0 spared.0 timely spared.1 run.1 in (
        run.0,
        run.1,
        is
            ∙ (λ i. answer (answer_lines net scans.items (answered net faults 1 scans.items (at_first i)) ++ end_line scans.end) (status_of scans.end (any_trips (answered net faults 1 scans.items (at_first i)))))
            ∙ (λ i. answer (lines_are_meant net m faults scans.items run.0 released i ++ end_line scans.end) (status_is_meant net m faults scans.end scans.items i)),
      )
    where
      at_first : w ≡ first_world w.setup
      at_first = λ i. record { setup = w.setup; state = built.beginning i }

  -- a trace whose header is refused
  pub refusal_answers : (held : List ℕ → Option (List ℕ)) (scans : Scans) (r : Refusal) (said : Answer) → scans ≡ only_refused r → said ≡ answer (refusal_text r) BadInput →
      IsAnswer (answer_scans net w.setup faults scans) held said
  refusal_answers held scans r said is e = subst (λ (s : Scans). IsAnswer (answer_scans net w.setup faults s) held said) (sym is) ([], refl, e)

  -- what is left of a run whose world and first trip these are
  pub run_leaves : (scans scans' : Scans) → scans ≡ scans' → (held : List ℕ → Option (List ℕ)) (behind : Whole) (trip : Option Trip) (before work : Worked) →
      work ≡ with_world behind trip before → behind ≡ ran faults 1 scans.items w → trip ≡ first_trip (machines_in w.setup) faults 1 scans.items w.state →
      IsLeftAfter (answer_scans net w.setup faults scans') held before work
  run_leaves scans scans' same held behind trip before work is_left ends trips =
      let run = one_run net sound nothing scans'.items in
      let m = machines_in w.setup in
      let ended = ends ∙ ap (λ (s : Scans). ran faults 1 s.items w) same ∙ ran_is net faults w built scans'.items in
      let tripped = trips ∙ ap (λ (s : Scans). first_trip m faults 1 s.items w.state) same ∙ ap (λ (x : World_state). first_trip m faults 1 scans'.items x) built.beginning in
      (work, is_left ∙ (λ i. with_world (ended i) (tripped i) before), (run.0, run.1, refl))

  -- and of one whose trace's header is refused: the world at the beginning
  pub refusal_leaves : (scans : Scans) (r : Refusal) → scans ≡ only_refused r → (held : List ℕ → Option (List ℕ)) (before work : Worked) → work ≡ with_world w None before →
      IsLeftAfter (answer_scans net w.setup faults scans) held before work
  refusal_leaves scans r is held before work is_left = run_leaves (only_refused r) scans (sym is) held w None before work is_left refl refl
