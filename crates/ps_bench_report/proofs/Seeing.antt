-- What a taker comes to know by the items of a trace of which it sees each scan: whichever taker it is.
use Rattle.std.proofs.Common.{◌≡◌, ◌≤◌, ◌∙◌, ◌++◌, ℕ, suc, Bool, true, false, List, [], ◌∷◌, Result, length, sym, ap, subst, append_assoc, append-nil, arith}
use Rattle.std.specs.Prelude.{OnOk}
use Rattle.ps_bench_judge.specs.Runs.{moments_of, seen_as}
use Rattle.ps_bench_judge.specs.Moments.{Moment as Sight}
use Rattle.ps_model.specs.declared.channel.Fault.{Fault}
use Rattle.ps_model.specs.declared.channel.Verdict.{Verdict}
use Rattle.ps_model.specs.declared.report.Report.{Report}
use Rattle.ps_model.specs.Meaning.{Item, Past, Runs, last, last_time, nothing, old_state, passed}
use Rattle.ps_model.specs.Meaning.Item.{scan, restart}
use Rattle.ps_model.specs.Network.{Network, instance_count}
use Rattle.ps_model.specs.Scanning.{State}
use Rattle.ps_model.specs.Sound.{IsSound}
use Rattle.ps_model.proofs.OneSolution.{has_one_solution}
use Rattle.ps_trace.specs.Scans.{Scans}
use Rattle.ps_world.specs.Answers.{Answer}
use Rattle.ps_world.specs.Orders.{at_compare, of_scan, scan_events}
use Rattle.ps_world.specs.Verdicts.{verdict, report_given}
use Rattle.ps_world.specs.Whole.{Whole, machines_in, after_events}
use Rattle.ps_runs.specs.Doing.{Did, IsDue, time_behind, all, refused, unread, refused_item, unwritten, next}
use Rattle.ps_runs.specs.Outcomes.{Outcome, performed, anew}
use Rattle.ps_runs.specs.Performing.{Performs, due}
use Rattle.ps_runs.specs.Resting.{answered}
use Rattle.ps_runs.specs.Watching.{StandsAt, Watches}
use Rattle.ps_runs.specs.declared.items.Cut.{Cut}
use Rattle.ps_runs.specs.declared.striking.StruckWorld.{StruckWorld}
use Rattle.ps_runs.specs.declared.watching.Watched.{Watched}
use Rattle.ps_runs.proofs.ToCome.{Stands, due_of_scan, stands_behind}
use Rattle.ps_bench_report.specs.Recorder.{seen_behind}
use Rattle.ps_bench_report.specs.Recording.{Made, made_in}

module _ (net : Network) (sound : IsSound net) (faults : List Fault) {T : Type 0}
    -- what the taker writes of an outcome, and what it becomes by it
    (said : T → Watched StruckWorld → Outcome Verdict → List ℕ)
    (takes : T → Watched StruckWorld → Outcome Verdict → T → Type 0)
    -- the taker knows the scans that were made, and whether the next one is the first after a restart
    (Knows : List Made → Bool → T → Type 0)
    (knows_scan : (made : List Made) (r : Bool) (w : T) (p : Watched StruckWorld) (now : ℕ) (v : Verdict) (report : Report) (w' : T) → Knows made r w →
    takes w p (performed now v report) w' → Knows (made ++ record { sight = seen_behind p now v report; restarted = r } ∷ []) false w')
    (knows_anew : (made : List Made) (r : Bool) (w : T) (p : Watched StruckWorld) (w' : T) → Knows made r w → takes w p anew w' → Knows made true w')
  where
    -- the scans that are to come of items, by the answers of a world
    abbrev coming : (done : ℕ) → Past → Bool → List Item → Whole → List State → List Made
    coming done past r items world ws = made_in r items (moments_of net past items (answered net faults (suc done) items world) ws)

    -- A run goes on after an item: where it stands then, and that the scans are those that there were.
    record GoesOn (time done : ℕ) (past : Past) (made : List Made) (r : Bool) (item : Item) (items : List Item) (ws : List State)
        (p p' : Watched StruckWorld) (w' : T) : Type 0 where
      done' : ℕ
      past' : Past
      made' : List Made
      r' : Bool
      ws' : List State
      stands : Stands faults done' p'.performer
      evaluator : StandsAt net past' p'.evaluator
      timely : last_time past' ≤ time_behind time item
      means : Runs net past' items ws'
      knows : Knows made' r' w'
      scans : made' ++ coming done' past' r' items p'.performer.world ws' ≡ made ++ coming done past r (item ∷ items) p.performer.world ws

    module _ (time done now : ℕ) (ins : List Bool) (past : Past) (made : List Made) (r : Bool) (items : List Item) (v : State) (ws : List State)
        (p p' : Watched StruckWorld) (w w' : T)
        (stands : Stands faults done p.performer) (evaluator : StandsAt net past p.evaluator) (timely : last_time past ≤ time)
        (is_due : time ≤ now) (means : Runs net past (scan now ins ∷ items) (v ∷ ws)) (knows : Knows made r w)
        (watches : Watches Performs net p (scan now ins) (performed now (verdict (machines_in p.performer.world.setup)
        (at_compare (machines_in p.performer.world.setup) (due p.performer) now ins p.performer.world.state))
        (report_given (machines_in p.performer.world.setup) (length net.outputs) (instance_count net)
        (at_compare (machines_in p.performer.world.setup) (due p.performer) now ins p.performer.world.state))) p') where
      abbrev world : Whole
      world = p.performer.world

      abbrev answer_by : List Fault → Answer
      answer_by struck =
          let z = at_compare (machines_in world.setup) struck now ins world.state in
          record { verdict = verdict (machines_in world.setup) z; report = report_given (machines_in world.setup) (length net.outputs) (instance_count net) z }

      abbrev behind : List Fault → Whole
      behind struck = after_events (scan_events (machines_in world.setup) struck now ins world.state) world

      abbrev answer : Answer
      answer = answer_by (due p.performer)

      -- what the taker sees of the scan
      abbrev seen : Sight
      seen = seen_behind p' now answer.verdict answer.report

      abbrev made_now : List Made
      made_now = made ++ record { sight = seen; restarted = r } ∷ []

      same_due : of_scan (suc done) faults ≡ due p.performer
      same_due = sym (due_of_scan faults done p.performer stands)

      not_before : last_time past ≤ now
      not_before = omega (arith, timely, is_due)

      -- the state that the evaluator came to is the one that is meant
      state_same : (watches.evaluates past evaluator not_before).state ≡ v
      state_same =
          let next = watches.evaluates past evaluator not_before in
          let one = has_one_solution net sound (old_state net past) ins (passed past now) in
          one.only next.state next.solves ∙ sym (one.only v means.0)

      scans_same : made_now ++ coming (suc done) (last now v) false items p'.performer.world ws
          ≡ made ++ coming done past r (scan now ins ∷ items) p.performer.world (v ∷ ws)
      scans_same =
          let next = watches.evaluates past evaluator not_before in
          let before_is : p'.evaluator.before.signals ≡ (old_state net past).signals = next.before.signals in
          let behind_is : p'.evaluator.behind.signals ≡ v.signals = next.stands.state.signals ∙ ap (λ (s : State). s.signals) state_same in
          let seen_is : seen ≡ seen_as net past now (answer_by (of_scan (suc done) faults)) v = λ i. record {
            now = now;
            verdict = (answer_by (sym same_due i)).verdict;
            report = (answer_by (sym same_due i)).report;
            before = before_is i;
            signals = behind_is i;
          } in
          let world_is : p'.performer.world ≡ behind (of_scan (suc done) faults) =
          watches.done.happens ∙ ap behind (sym same_due) in
          append_assoc made (record { sight = seen; restarted = r } ∷ []) (coming (suc done) (last now v) false items p'.performer.world ws)
          ∙ (λ i. made ++ record { sight = seen_is i; restarted = r } ∷ coming (suc done) (last now v) false items (world_is i) ws)

      goes_scan : takes w p' (performed now answer.verdict answer.report) w' →
          GoesOn time done past made r (scan now ins) items (v ∷ ws) p p' w'
      goes_scan takes_it = record {
        done' = suc done;
        past' = last now v;
        made' = made_now;
        r' = false;
        ws' = ws;
        stands = stands_behind faults done p.performer p'.performer stands watches.done.leaves watches.done.counts;
        evaluator = subst (λ (s : State). StandsAt net (last now s) p'.evaluator) state_same
            (watches.evaluates past evaluator not_before).stands;
        timely = omega arith;
        means = means.1;
        knows = knows_scan made r w p' now answer.verdict answer.report w' knows takes_it;
        scans = scans_same;
      }

    goes_restart : (time done : ℕ) (past : Past) (made : List Made) (r : Bool) (items : List Item) (ws : List State)
        (p p' : Watched StruckWorld) (w w' : T) → Stands faults done p.performer → Runs net past (restart ∷ items) ws →
        Knows made r w → Watches Performs net p restart anew p' → takes w p' anew w' →
        GoesOn time done past made r restart items ws p p' w'
    goes_restart time done past made r items ws p p' w w' stands means knows watches takes_it =
        let begins = watches.done in
        record {
          done' = done;
          past' = nothing;
          made' = made;
          r' = true;
          ws' = ws;
          stands = subst (λ (q : StruckWorld). Stands faults done q) (sym begins.1) (record { same = stands.same; counted = stands.counted });
          evaluator = watches.evaluates;
          timely = omega arith;
          means = means;
          knows = knows_anew made r w p' w' knows takes_it;
          scans = (λ i. made ++ made_in true items (moments_of net nothing items (answered net faults (suc done) items (begins.1 i).world) ws));
        }

    -- the run goes on after an item, whatever its outcome
    goes_on : (time done : ℕ) (past : Past) (made : List Made) (r : Bool) (item : Item) (items : List Item) (ws : List State)
        (p p' : Watched StruckWorld) (w w' : T) (outcome : Outcome Verdict) → Stands faults done p.performer →
        StandsAt net past p.evaluator → last_time past ≤ time → IsDue time item → Runs net past (item ∷ items) ws →
        Knows made r w → Watches Performs net p item outcome p' → takes w p' outcome w' →
        GoesOn time done past made r item items ws p p' w'
    goes_on time done past made r (scan now ins) items [] p p' w w' outcome stands evaluator timely is_due means knows watches takes_it =
        absurd means
    goes_on time done past made r (scan now ins) items (v ∷ ws) p p' w w' outcome stands evaluator timely is_due means knows watches takes_it =
        let compares = watches.done.compares in
        goes_scan time done now ins past made r items v ws p p' w w' stands evaluator timely is_due means knows
        (subst (λ (o : Outcome Verdict). Watches Performs net p (scan now ins) o p') compares watches)
        (subst (λ (o : Outcome Verdict). takes w p' o w') compares takes_it)
    goes_on time done past made r restart items ws p p' w w' outcome stands evaluator timely is_due means knows watches takes_it =
        let begins = watches.done.0 in
        goes_restart time done past made r items ws p p' w w' stands means knows
        (subst (λ (o : Outcome Verdict). Watches Performs net p restart o p') begins watches)
        (subst (λ (o : Outcome Verdict). takes w p' o w') begins takes_it)

    -- the taker knows all scans that were made
    abbrev KnowsAll : List Made → T → Type 0
    KnowsAll made w = (r : Bool) × Knows made r w

    -- What was done of items from anywhere on, where the taker knows what was made before.
    pub known : (time done : ℕ) (p : Watched StruckWorld) (w : T) (scans : Scans) (bytes : List ℕ)
        (ended : Result (Unit {0}) Cut) (after : Watched StruckWorld) (w' : T) (past : Past) (made : List Made) (r : Bool) (ws : List State) →
        Stands faults done p.performer → StandsAt net past p.evaluator → last_time past ≤ time → Runs net past scans.items ws →
        Knows made r w → Did (Watches Performs net) said takes time p w scans bytes ended after w' →
        OnOk ended (KnowsAll (made ++ coming done past r scans.items p.performer.world ws) w')
    known _ done _ _ _ _ _ _ _ past made r ws stands evaluator timely means knows (all time p w scans is) =
        subst (λ (s : Scans). KnowsAll (made ++ coming done past r s.items p.performer.world ws) w) (sym is)
        (r, subst (λ (m : List Made). Knows m r w) (sym (append-nil made)) knows)
    known _ done _ _ _ _ _ _ _ past made r ws stands evaluator timely means knows (refused time p w scans refusal is) = tt
    known _ done _ _ _ _ _ _ _ past made r ws stands evaluator timely means knows (unread time p w scans) = tt
    known _ done _ _ _ _ _ _ _ past made r ws stands evaluator timely means knows (refused_item time p w scans item rest refusal p' begins is_due watches) = tt
    known _ done _ _ _ _ _ _ _ past made r ws stands evaluator timely means knows (unwritten time p w scans item rest outcome p' w' n begins is_due watches) = tt
    known _ done _ _ _ _ _ _ _ past made r ws stands evaluator timely means knows (next time p w scans item rest outcome p' w' bytes ended p'' w'' begins is_due watches takes_it did) =
        let runs = subst (λ (s : Scans). Runs net past s.items ws) begins means in
        let goes = goes_on time done past made r item rest.items ws p p' w w' outcome stands evaluator timely is_due runs knows watches takes_it in
        let rest_is = known (time_behind time item) goes.done' p' w' rest bytes ended p'' w'' goes.past' goes.made' goes.r' goes.ws'
        goes.stands goes.evaluator goes.timely goes.means goes.knows did in
        subst (λ (s : Scans). OnOk ended (KnowsAll (made ++ coming done past r s.items p.performer.world ws) w'')) (sym begins)
        (subst (λ (m : List Made). OnOk ended (KnowsAll m w'')) goes.scans rest_is)
