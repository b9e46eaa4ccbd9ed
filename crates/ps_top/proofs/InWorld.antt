-- A trace that is run in a world of two channels, from its beginning, answers what is asked of it.
use Rattle.std.specs.Prelude.{IfErr, OnOk, ⊤}
use Rattle.std.proofs.Common.{◌≡◌, ◌∷◌, [], ◌∙◌, ℕ, Bool, true, false, List, Option, IsTrue, Result, Ok, Err, refl, sym, ap, subst, inl, arith}
use Rattle.ps_base.specs.declared.failing.Refusal.{Refusal}
use Rattle.ps_model.specs.declared.channel.Verdict.{Verdict}
use Rattle.ps_model.specs.Network.{Network}
use Rattle.ps_model.specs.Sound.{IsSound}
use Rattle.ps_report.specs.Short.{refusal_text}
use Rattle.ps_runs.specs.Outcomes.{Outcome, outcome_line}
use Rattle.ps_runs.specs.Performing.{Performs}
use Rattle.ps_runs.specs.Running.{IsBeginning}
use Rattle.ps_runs.specs.declared.items.Cut.{Cut}
use Rattle.ps_runs.specs.declared.striking.StruckWorld.{StruckWorld}
use Rattle.ps_runs.specs.declared.striking.Trip.{Trip}
use Rattle.ps_runs.proofs.ToCome.{first_stands}
use Rattle.ps_trace.specs.Reading.{only_refused}
use Rattle.ps_trace.specs.Scans.{scans_of}
use Rattle.ps_world.specs.Answers.{RunsAreRight}
use Rattle.ps_world.specs.Whole.{machines_in}
use Rattle.ps_top.specs.Asking.{Answer, Asking, IsAnswer, IsLeftAfter, Worked, worked}
use Rattle.ps_top.specs.Calls.{CallSeen, NameRose, GoesOn, Causes, Answers, LeavesRefusal, IsRefusing, with_left}
use Rattle.ps_top.specs.Program.{answer, answer_scans, run_named, status_if, with_world}
use Rattle.ps_top.specs.Resting.{run_answer}
use Rattle.ps_top.specs.Running.{DoesTrace, RunsTrace, status_behind}
use Rattle.ps_top.specs.declared.Status.{Status}
use Rattle.ps_top.specs.declared.Status.TheVariants.{BadInput}
use Rattle.ps_top.specs.declared.left.Left.{Left}
use Rattle.ps_top.proofs.Calling.{any_only, causes_left, done_causes}
use Rattle.ps_top.proofs.Ending.{AsEnded, IsEnd, whole_meets, stops_meets, whole_leaves, stops_leaves}
use Rattle.ps_top.proofs.Meant.{run_answers, refusal_answers, run_leaves, refusal_leaves}
use Rattle.ps_top.proofs.Refusals.{otherwise_refuses}
use Rattle.ps_top.proofs.Standing.{no_cut_status, items_give, items_end}
use Rattle.ps_top.proofs.Timely.{scans_timely}

-- of these statuses none refuses a text
no_refusing : (b : Bool) → ¬ IsRefusing (status_if b)
no_refusing true refusing = grind arith
no_refusing false refusing = grind arith

module _ (net : Network) (sound : IsSound net) (p p' : StruckWorld) (first : IsBeginning net p) (right : RunsAreRight net (machines_in p.world.setup))
    {T : Type 0} (t t' : T) (name : List ℕ) (old new : CallSeen) (left : Left) (behind : worked left ≡ with_world p'.world p'.trip (worked new.left)) (same : worked new.left ≡ worked old.left) (refusal : left.refusal ≡ new.left.refusal) where
  abbrev said : T → StruckWorld → Outcome Verdict → List ℕ
  said u q outcome = outcome_line net outcome

  abbrev takes : T → StruckWorld → Outcome Verdict → T → Type 0
  takes u q outcome u' = ⊤

  abbrev asking : List ℕ → Asking
  asking text = answer_scans net p.world.setup p.faults (scans_of text net)

  abbrev wanted : List ℕ → Answer
  wanted text = run_answer net p.faults p.world (scans_of text net)

  abbrev Runs : Result (Unit {0}) Status → Type 0
  Runs ran = RunsTrace (Performs net) said takes net name p p' t t' old new ran

  abbrev Does : (text written : List ℕ) → Result (Unit {0}) Cut → Type 0
  Does text written ended = DoesTrace (Performs net) said takes net text p p' t t' old.out.tells old.out.taken written ended

  answers : (text : List ℕ) → IsAnswer (asking text) old.files.held (wanted text)
  answers text = run_answers net sound p.faults first.one_channel p.world first.world right (scans_of text net) (scans_timely text net) old.files.held (wanted text) refl

  refused : (text : List ℕ) (r : Refusal) → scans_of text net ≡ only_refused r → IsAnswer (asking text) old.files.held (answer (refusal_text r) BadInput)
  refused text r none = refusal_answers net sound p.faults first.one_channel p.world first.world right old.files.held (scans_of text net) r (answer (refusal_text r) BadInput) none refl

  gives : (text written : List ℕ) (ended : Result (Unit {0}) Cut) → Does text written ended → AsEnded (wanted text) (status_if p'.tripped) old.out.tells old.out.taken written ended
  gives text written ended does =
      items_give net p.faults (scans_of text net) p p' first.none_tripped (λ u outcome u'. ⊤) t t' 0 does.bytes old.out.tells old.out.taken written ended (first_stands net p first) does.did does.written

  left_is : worked left ≡ with_world p'.world p'.trip (worked old.left)
  left_is = behind ∙ ap (λ (w : Worked). with_world p'.world p'.trip w) same

  ends : (text written : List ℕ) (ended : Result (Unit {0}) Cut) → IsEnd ended → Does text written ended → IsLeftAfter (asking text) old.files.held (worked old.left) (worked left)
  ends text written ended end does =
      let end_is = items_end net p.faults (scans_of text net) p p' first.none_tripped (λ u outcome u'. ⊤) t t' 0 does.bytes ended first.no_trip end (first_stands net p first) does.did in
      run_leaves net sound p.faults first.one_channel p.world first.world right (scans_of text net) (scans_of text net) refl old.files.held p'.world p'.trip (worked old.left) (worked left)
      left_is end_is.0 end_is.1

  beginning : (text : List ℕ) (r : Refusal) → scans_of text net ≡ only_refused r → p' ≡ p → IsLeftAfter (asking text) old.files.held (worked old.left) (worked left)
  beginning text r none still =
      refusal_leaves net sound p.faults first.one_channel p.world first.world right (scans_of text net) r none old.files.held (worked old.left) (worked left)
      (left_is ∙ ap (λ (q : StruckWorld). with_world q.world q.trip (worked old.left)) still ∙ ap (λ (o : Option Trip). with_world p.world o (worked old.left)) first.no_trip)

  -- what is asked of the trace is answered, with the world that is left
  pub world_answers : (ran : Result (Unit {0}) Status) (status : Status) → status ≡ status_behind ran (status_if p'.tripped) → (IsTrue old.files.tells → Runs ran) → OnOk ran (GoesOn old new) →
      IfErr ran (Causes (name ∷ []) old new) → IfErr ran (LeavesRefusal new.left new.out) →
      Answers (run_named net p.world.setup p.faults name) (name ∷ []) old (with_left left new) status
  world_answers (Ok x) status is runs goes causes refuses =
      let final = status_if p'.tripped in
      let no_cut = no_cut_status p'.tripped final refl in
      subst (λ (s : Status). Answers (run_named net p.world.setup p.faults name) (name ∷ []) old (with_left left new) s) (sym is) (record {
        meets = λ tells. whole_meets (Performs net) said takes net name asking p p' t t' old new wanted final (λ fault. no_cut (inl fault)) answers refused gives x (runs tells);
        leaves = λ tells not_cut. whole_leaves (Performs net) said takes net name asking p p' t t' old new (worked old.left) (worked left) ends beginning x (runs tells);
        refuses = otherwise_refuses final final left new.out (no_refusing p'.tripped) (inl refl);
        causes = causes_left left (done_causes (name ∷ []) final no_cut goes);
      })
  world_answers (Err s) status is runs goes causes refuses =
      subst (λ (s' : Status). Answers (run_named net p.world.setup p.faults name) (name ∷ []) old (with_left left new) s') (sym is) (record {
        meets = λ tells. stops_meets (Performs net) said takes net name asking p p' t t' old new wanted (status_if p'.tripped)
            (λ fault. no_cut_status p'.tripped (status_if p'.tripped) refl (inl fault)) answers refused gives s (runs tells)
            (λ fault. any_only (NameRose old new) name (causes.read_fault fault));
        leaves = λ tells not_cut. stops_leaves (Performs net) said takes net name asking p p' t t' old new (worked old.left) (worked left) ends beginning s not_cut (runs tells);
        refuses = λ refusing. let r = refuses refusing in (r.0, refusal ∙ r.1, r.2);
        causes = causes_left left causes;
      })
