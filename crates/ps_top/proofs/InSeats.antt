-- A trace that is run in a world of three seats, from its beginning, answers what is asked of it.
use Rattle.std.specs.Prelude.{IfErr, OnOk}
use Rattle.std.proofs.Common.{◌≡◌, ◌∷◌, [], ◌∙◌, ℕ, List, Option, IsTrue, Result, Ok, Err, map, refl, sym, ap, subst, inl, arith}
use Rattle.std.specs.Option.{option_or}
use Rattle.ps_base.specs.declared.failing.Refusal.{Refusal}
use Rattle.ps_model.specs.Network.{Network}
use Rattle.ps_model.specs.Sound.{IsSound}
use Rattle.ps_report.specs.Short.{refusal_text}
use Rattle.ps_runs.specs.Outcomes.{Outcome, vote_lines, IsTold}
use Rattle.ps_runs.specs.Again.{again_among}
use Rattle.ps_runs.specs.Seats.{VotesItem, AreAtBeginning, coming, first_outvoted_again}
use Rattle.ps_runs.specs.declared.items.Cut.{Cut}
use Rattle.ps_runs.specs.declared.seats.Again.{Again}
use Rattle.ps_runs.specs.declared.seats.StruckSeats.{StruckSeats}
use Rattle.ps_runs.proofs.Courses.{again_in}
use Rattle.ps_runs.proofs.SeatFaults.{first_stands}
use Rattle.ps_trace.specs.Reading.{only_refused}
use Rattle.ps_trace.specs.Scans.{scans_of}
use Rattle.ps_vote.specs.Answers.{VoteRunsAreRight, HealRunsAreRight}
use Rattle.ps_vote.specs.Orders.{Course}
use Rattle.ps_vote.specs.Votes.{vote}
use Rattle.ps_vote.specs.Whole.{machines_in}
use Rattle.ps_vote.specs.declared.seat.Vote.{Vote}
use Rattle.ps_top.specs.Asking.{Answer, Asking, IsAnswer, IsLeftAfter, Worked, worked}
use Rattle.ps_top.specs.Calls.{CallSeen, NameRose, GoesOn, Causes, Answers, LeavesRefusal, with_left}
use Rattle.ps_top.specs.Meets.{IsCut}
use Rattle.ps_top.specs.Program.{answer, vote_scans, vote_named, with_votes}
use Rattle.ps_top.specs.Resting.{vote_answer}
use Rattle.ps_top.specs.Running.{DoesTrace, RunsTrace, status_behind}
use Rattle.ps_top.specs.declared.Status.{Status}
use Rattle.ps_top.specs.declared.Status.TheVariants.{Done, BadInput}
use Rattle.ps_top.specs.declared.left.Left.{Left}
use Rattle.ps_top.proofs.Calling.{any_only, causes_left, done_causes}
use Rattle.ps_top.proofs.CourseMeant.{run_answers, refusal_answers, run_leaves, refusal_leaves}
use Rattle.ps_top.proofs.Courses.{items_give, items_end}
use Rattle.ps_top.proofs.Ending.{AsEnded, IsEnd, whole_meets, stops_meets, whole_leaves, stops_leaves}
use Rattle.ps_top.proofs.Refusals.{otherwise_refuses}
use Rattle.ps_top.proofs.Timely.{scans_timely}

-- a run from its beginning, where no seat was healed before
again_first : (net : Network) (p : StruckSeats) → AreAtBeginning net p → (run : Course) → again_in net p.heals p.faults run p ≡ first_outvoted_again p.heals (machines_in p.world.setup) run
again_first net p begins run = λ i. option_or (begins.none_again i) (again_among p.heals (begins.none_healed i) run.done (map (vote (machines_in p.world.setup)) run.votes))

module _ (net : Network) (sound : IsSound net) (p p' : StruckSeats) (first : AreAtBeginning net p)
    (votes : VoteRunsAreRight net (machines_in p.world.setup)) (healed : HealRunsAreRight net (machines_in p.world.setup))
    {T : Type 0} (t t' : T) (name : List ℕ) (old new : CallSeen) (left : Left) (behind : worked left ≡ with_votes p'.world p'.again (worked new.left)) (same : worked new.left ≡ worked old.left) (refusal : left.refusal ≡ new.left.refusal) where
  abbrev said : T → StruckSeats → Outcome Vote → List ℕ
  said u q outcome = vote_lines net outcome

  abbrev takes : T → StruckSeats → Outcome Vote → T → Type 0
  takes u q outcome u' = IsTold outcome

  abbrev asking : List ℕ → Asking
  asking text = vote_scans p.heals net p.world.setup p.faults (scans_of text net)

  abbrev wanted : List ℕ → Answer
  wanted text = vote_answer p.heals net p.faults p.world (scans_of text net)

  abbrev Runs : Result (Unit {0}) Status → Type 0
  Runs ran = RunsTrace (VotesItem net) said takes net name p p' t t' old new ran

  abbrev Does : (text written : List ℕ) → Result (Unit {0}) Cut → Type 0
  Does text written ended = DoesTrace (VotesItem net) said takes net text p p' t t' old.out.tells old.out.taken written ended

  answers : (text : List ℕ) → IsAnswer (asking text) old.files.held (wanted text)
  answers text = run_answers net sound p.heals p.faults p.world first.world first.one_seat votes healed (scans_of text net) (scans_timely text net) old.files.held (wanted text) refl

  refused : (text : List ℕ) (r : Refusal) → scans_of text net ≡ only_refused r → IsAnswer (asking text) old.files.held (answer (refusal_text r) BadInput)
  refused text r none = refusal_answers net sound p.heals p.faults p.world first.world old.files.held (scans_of text net) r (answer (refusal_text r) BadInput) none refl

  gives : (text written : List ℕ) (ended : Result (Unit {0}) Cut) → Does text written ended → AsEnded (wanted text) Done old.out.tells old.out.taken written ended
  gives text written ended does =
      items_give net p.heals p.faults (scans_of text net) p p' t t' 0 does.bytes ended (first_stands net p first, refl) does.did old.out.tells old.out.taken written does.written

  left_is : worked left ≡ with_votes p'.world p'.again (worked old.left)
  left_is = behind ∙ ap (λ (w : Worked). with_votes p'.world p'.again w) same

  ends : (text written : List ℕ) (ended : Result (Unit {0}) Cut) → IsEnd ended → Does text written ended → IsLeftAfter (asking text) old.files.held (worked old.left) (worked left)
  ends text written ended end does =
      let end_is = items_end net p.heals p.faults (scans_of text net) p p' t t' 0 does.bytes ended (first_stands net p first, refl) does.did end in
      run_leaves net sound p.heals p.faults p.world first.world (scans_of text net) (scans_of text net) refl old.files.held p'.world p'.again (worked old.left) (worked left)
      left_is end_is.0 (end_is.1 ∙ again_first net p first (coming p.heals p.faults 1 (scans_of text net).items p.world))

  beginning : (text : List ℕ) (r : Refusal) → scans_of text net ≡ only_refused r → p' ≡ p → IsLeftAfter (asking text) old.files.held (worked old.left) (worked left)
  beginning text r none still =
      refusal_leaves net sound p.heals p.faults p.world first.world (scans_of text net) r none old.files.held (worked old.left) (worked left)
      (left_is ∙ ap (λ (q : StruckSeats). with_votes q.world q.again (worked old.left)) still ∙ ap (λ (o : Option Again). with_votes p.world o (worked old.left)) first.none_again)

  -- what is asked of the trace is answered, with the world that is left
  pub seats_answer : (ran : Result (Unit {0}) Status) (status : Status) → status ≡ status_behind ran Done → (IsTrue old.files.tells → Runs ran) → OnOk ran (GoesOn old new) →
      IfErr ran (Causes (name ∷ []) old new) → IfErr ran (LeavesRefusal new.left new.out) →
      Answers (vote_named p.heals net p.world.setup p.faults name) (name ∷ []) old (with_left left new) status
  seats_answer (Ok x) status is runs goes causes refuses =
      let no_cut : ¬ IsCut Done = λ cut. grind arith in
      subst (λ (s : Status). Answers (vote_named p.heals net p.world.setup p.faults name) (name ∷ []) old (with_left left new) s) (sym is) (record {
        meets = λ tells. whole_meets (VotesItem net) said takes net name asking p p' t t' old new wanted Done (λ fault. cc) answers refused gives x (runs tells);
        leaves = λ tells not_cut. whole_leaves (VotesItem net) said takes net name asking p p' t t' old new (worked old.left) (worked left) ends beginning x (runs tells);
        refuses = otherwise_refuses Done Done left new.out (λ refusing. grind arith) (inl refl);
        causes = causes_left left (done_causes (name ∷ []) Done no_cut goes);
      })
  seats_answer (Err s) status is runs goes causes refuses =
      subst (λ (s' : Status). Answers (vote_named p.heals net p.world.setup p.faults name) (name ∷ []) old (with_left left new) s') (sym is) (record {
        meets = λ tells. stops_meets (VotesItem net) said takes net name asking p p' t t' old new wanted Done (λ fault. cc) answers refused gives s (runs tells)
            (λ fault. any_only (NameRose old new) name (causes.read_fault fault));
        leaves = λ tells not_cut. stops_leaves (VotesItem net) said takes net name asking p p' t t' old new (worked old.left) (worked left) ends beginning s not_cut (runs tells);
        refuses = λ refusing. let r = refuses refusing in (r.0, refusal ∙ r.1, r.2);
        causes = causes_left left causes;
      })
