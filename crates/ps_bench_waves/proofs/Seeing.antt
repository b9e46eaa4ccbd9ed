-- What a taker writes of the items of a trace that sees each scan, by what its world answers and what the items mean:
-- whichever taker it is, and whatever it keeps of the scans before.
use Rattle.std.proofs.Common.{◌≡◌, ◌≤◌, ◌∙◌, ◌++◌, ℕ, suc, Bool, List, [], ◌∷◌, Result, Ok, Err, length, refl, sym, ap, subst, take, drop, append_assoc, arith}
use Rattle.std.proofs.lemmas.List.{take-append-drop}
use Rattle.ps_base.specs.declared.failing.Refusal.{Refusal}
use Rattle.ps_bench_judge.specs.Runs.{moments_of, seen_as}
use Rattle.ps_bench_judge.specs.Moments.{Moment}
use Rattle.ps_model.specs.declared.channel.Fault.{Fault}
use Rattle.ps_model.specs.declared.channel.Verdict.{Verdict}
use Rattle.ps_model.specs.declared.report.Report.{Report}
use Rattle.ps_model.specs.Meaning.{Item, Past, Runs, last, last_time, nothing, old_state, passed}
use Rattle.ps_model.specs.Meaning.Item.{scan, restart}
use Rattle.ps_model.specs.Network.{Network, instance_count}
use Rattle.ps_model.specs.Scanning.{State}
use Rattle.ps_model.specs.Sound.{IsSound}
use Rattle.ps_model.proofs.OneSolution.{has_one_solution}
use Rattle.ps_trace.specs.Scans.{Scans, End}
use Rattle.ps_world.specs.Answers.{Answer}
use Rattle.ps_world.specs.Orders.{at_compare, of_scan, scan_events}
use Rattle.ps_world.specs.Verdicts.{verdict, report_given}
use Rattle.ps_world.specs.Whole.{Whole, machines_in, after_events}
use Rattle.ps_runs.specs.Doing.{Did, IsDue, time_behind, all, refused, unread, refused_item, unwritten, next}
use Rattle.ps_runs.specs.Outcomes.{Outcome, performed, refuses, anew}
use Rattle.ps_runs.specs.Performing.{Performs, due}
use Rattle.ps_runs.specs.Resting.{answered}
use Rattle.ps_runs.specs.Watching.{StandsAt, Watches}
use Rattle.ps_runs.specs.Written.{IsBeginningOf, WritesLines}
use Rattle.ps_runs.specs.declared.items.Cut.{Cut}
use Rattle.ps_runs.specs.declared.items.Cut.TheVariants.{Refused, Unread, Unwritten}
use Rattle.ps_runs.specs.declared.striking.StruckWorld.{StruckWorld}
use Rattle.ps_runs.specs.declared.watching.Watched.{Watched}
use Rattle.ps_runs.proofs.ToCome.{Stands, due_of_scan, stands_behind}
use Rattle.ps_bench_waves.specs.Watcher.{seen_behind}
use Rattle.ps_bench_waves.specs.Watching.{written_of}

-- ---- what was written, by how it ended

-- a piece was written, and then what is to be written after it
pub lines_behind : (lines piece more : List ℕ) (end : End) (bytes : List ℕ) (ended : Result (Unit {0}) Cut) →
    piece ++ more ≡ lines → WritesLines more end bytes ended → WritesLines lines end (piece ++ bytes) ended
lines_behind lines piece more end bytes (Ok x) is w = (ap (λ l. piece ++ l) w.0 ∙ is, w.1)
lines_behind lines piece more end bytes (Err (Refused refusal)) is w = (ap (λ l. piece ++ l) w.0 ∙ is, w.1)
lines_behind lines piece more end bytes (Err Unread) is w =
    (w.0, append_assoc piece bytes w.0 ∙ ap (λ l. piece ++ l) w.1 ∙ is)
lines_behind lines piece more end bytes (Err Unwritten) is w =
    (w.0, append_assoc piece bytes w.0 ∙ ap (λ l. piece ++ l) w.1 ∙ is)

-- a part of a piece was written
pub part_begins : (lines piece more : List ℕ) (n : ℕ) → piece ++ more ≡ lines → IsBeginningOf (take n piece) lines
part_begins lines piece more n is = (
  drop n piece ++ more,
  sym (append_assoc (take n piece) (drop n piece) more)
      ∙ ap (λ front. front ++ more) (take-append-drop n piece) ∙ is,
)

-- ---- a run

module _ (net : Network) (sound : IsSound net) (faults : List Fault) {T B : Type 0}
    -- what the taker writes of an outcome, and what it becomes by it
    (said : T → Watched StruckWorld → Outcome Verdict → List ℕ)
    (takes : T → Watched StruckWorld → Outcome Verdict → T → Type 0)
    -- what is to be written of a scan after what was seen before, and what was seen then; and the same of a restart
    (told_of : B → Moment → List ℕ) (seen_then : B → Moment → B) (line : List ℕ) (anew_from : B → B)
    -- the taker knows what was seen before, writes what is to be written, and then knows what was seen then
    (Knows : B → T → Type 0)
    (tells_scan : (b : B) (w : T) (p : Watched StruckWorld) (now : ℕ) (v : Verdict) (r : Report) → Knows b w →
    said w p (performed now v r) ≡ told_of b (seen_behind p now v r))
    (knows_scan : (b : B) (w : T) (p : Watched StruckWorld) (now : ℕ) (v : Verdict) (r : Report) (w' : T) → Knows b w →
    takes w p (performed now v r) w' → Knows (seen_then b (seen_behind p now v r)) w')
    (tells_anew : (b : B) (w : T) (p : Watched StruckWorld) → Knows b w → said w p anew ≡ line)
    (knows_anew : (b : B) (w : T) (p : Watched StruckWorld) (w' : T) → Knows b w → takes w p anew w' → Knows (anew_from b) w')
  where
    -- what is to be written of items from a number on, by the answers of a world
    abbrev writing : (done : ℕ) → Past → B → List Item → Whole → List State → List ℕ
    writing done past b items world ws =
        written_of told_of seen_then line anew_from b items
        (moments_of net past items (answered net faults (suc done) items world) ws)

    -- ---- an item

    -- A run goes on after an item: where it stands then, and what is to be written of the item and later ones.
    record GoesOn (time done : ℕ) (past : Past) (b : B) (item : Item) (items : List Item) (ws : List State)
        (p p' : Watched StruckWorld) (w' : T) (piece : List ℕ) : Type 0 where
      done' : ℕ
      past' : Past
      b' : B
      ws' : List State
      stands : Stands faults done' p'.performer
      evaluator : StandsAt net past' p'.evaluator
      timely : last_time past' ≤ time_behind time item
      means : Runs net past' items ws'
      knows : Knows b' w'
      lines : piece ++ writing done' past' b' items p'.performer.world ws'
          ≡ writing done past b (item ∷ items) p.performer.world ws

    -- the verdict and the report of an outcome that was performed
    abbrev verdict_in : Verdict → Outcome Verdict → Verdict
    verdict_in other (performed now v report) = v
    verdict_in other (refuses refusal) = other
    verdict_in other anew = other

    abbrev report_in : Report → Outcome Verdict → Report
    report_in other (performed now v report) = report
    report_in other (refuses refusal) = other
    report_in other anew = other

    module _ (time done now : ℕ) (ins : List Bool) (past : Past) (b : B) (items : List Item) (v : State) (ws : List State)
        (p p' : Watched StruckWorld) (w w' : T)
        (stands : Stands faults done p.performer) (evaluator : StandsAt net past p.evaluator) (timely : last_time past ≤ time)
        (is_due : time ≤ now) (means : Runs net past (scan now ins ∷ items) (v ∷ ws)) (knows : Knows b w)
        (watches : Watches Performs net p (scan now ins) (performed now (verdict (machines_in p.performer.world.setup)
        (at_compare (machines_in p.performer.world.setup) (due p.performer) now ins p.performer.world.state))
        (report_given (machines_in p.performer.world.setup) (length net.outputs) (instance_count net)
        (at_compare (machines_in p.performer.world.setup) (due p.performer) now ins p.performer.world.state))) p') where
      abbrev world : Whole
      world = p.performer.world

      abbrev answer_by : List Fault → Answer
      answer_by struck =
          let z = at_compare (machines_in world.setup) struck now ins world.state in
          record { verdict = verdict (machines_in world.setup) z; report = report_given (machines_in world.setup) (length net.outputs) (instance_count net) z }

      abbrev behind : List Fault → Whole
      behind struck = after_events (scan_events (machines_in world.setup) struck now ins world.state) world

      abbrev answer : Answer
      answer = answer_by (due p.performer)

      -- what the taker sees of the scan
      abbrev seen : Moment
      seen = seen_behind p' now answer.verdict answer.report

      same_due : of_scan (suc done) faults ≡ due p.performer
      same_due = sym (due_of_scan faults done p.performer stands)

      not_before : last_time past ≤ now
      not_before = omega (arith, timely, is_due)

      -- the state that the evaluator came to is the one that is meant
      state_same : (watches.evaluates past evaluator not_before).state ≡ v
      state_same =
          let next = watches.evaluates past evaluator not_before in
          let one = has_one_solution net sound (old_state net past) ins (passed past now) in
          one.only next.state next.solves ∙ sym (one.only v means.0)

      -- what the taker writes of the scan, and what is to be written after it
      lines_scan : said w p' (performed now answer.verdict answer.report)
          ++ writing (suc done) (last now v) (seen_then b seen) items p'.performer.world ws
          ≡ writing done past b (scan now ins ∷ items) p.performer.world (v ∷ ws)
      lines_scan =
          let next = watches.evaluates past evaluator not_before in
          let before_is : p'.evaluator.before.signals ≡ (old_state net past).signals = next.before.signals in
          let behind_is : p'.evaluator.behind.signals ≡ v.signals = next.stands.state.signals ∙ ap (λ (s : State). s.signals) state_same in
          let seen_is : seen ≡ seen_as net past now (answer_by (of_scan (suc done) faults)) v = λ i. record {
            now = now;
            verdict = (answer_by (sym same_due i)).verdict;
            report = (answer_by (sym same_due i)).report;
            before = before_is i;
            signals = behind_is i;
          } in
          let world_is : p'.performer.world ≡ behind (of_scan (suc done) faults) =
          watches.done.happens ∙ ap behind (sym same_due) in
          ap (λ (piece : List ℕ). piece ++ writing (suc done) (last now v) (seen_then b seen) items p'.performer.world ws)
          (tells_scan b w p' now answer.verdict answer.report knows)
          ∙ (λ i. told_of b (seen_is i)
          ++ written_of told_of seen_then line anew_from (seen_then b (seen_is i)) items
          (moments_of net (last now v) items (answered net faults (suc (suc done)) items (world_is i)) ws))

      goes_scan : takes w p' (performed now answer.verdict answer.report) w' →
          GoesOn time done past b (scan now ins) items (v ∷ ws) p p' w' (said w p' (performed now answer.verdict answer.report))
      goes_scan takes_it = record {
        done' = suc done;
        past' = last now v;
        b' = seen_then b seen;
        ws' = ws;
        stands = stands_behind faults done p.performer p'.performer stands watches.done.leaves watches.done.counts;
        evaluator = subst (λ (s : State). StandsAt net (last now s) p'.evaluator) state_same
            (watches.evaluates past evaluator not_before).stands;
        timely = omega arith;
        means = means.1;
        knows = knows_scan b w p' now answer.verdict answer.report w' knows takes_it;
        lines = lines_scan;
      }

    lines_restart : (done : ℕ) (past : Past) (b : B) (items : List Item) (ws : List State) (p p' : Watched StruckWorld)
        (w : T) → Knows b w → Watches Performs net p restart anew p' →
        said w p' anew ++ writing done nothing (anew_from b) items p'.performer.world ws
        ≡ writing done past b (restart ∷ items) p.performer.world ws
    lines_restart done past b items ws p p' w knows watches =
        let world_is = watches.done.1 in
        ap (λ (said_line : List ℕ). said_line ++ writing done nothing (anew_from b) items p'.performer.world ws)
        (tells_anew b w p' knows)
        ∙ (λ i. line ++ written_of told_of seen_then line anew_from (anew_from b) items
        (moments_of net nothing items (answered net faults (suc done) items (world_is i).world) ws))

    goes_restart : (time done : ℕ) (past : Past) (b : B) (items : List Item) (ws : List State)
        (p p' : Watched StruckWorld) (w w' : T) → Stands faults done p.performer → Runs net past (restart ∷ items) ws →
        Knows b w → Watches Performs net p restart anew p' → takes w p' anew w' →
        GoesOn time done past b restart items ws p p' w' (said w p' anew)
    goes_restart time done past b items ws p p' w w' stands means knows watches takes_it =
        let begins = watches.done in
        record {
          done' = done;
          past' = nothing;
          b' = anew_from b;
          ws' = ws;
          stands = subst (λ (q : StruckWorld). Stands faults done q) (sym begins.1) (record { same = stands.same; counted = stands.counted });
          evaluator = watches.evaluates;
          timely = omega arith;
          means = means;
          knows = knows_anew b w p' w' knows takes_it;
          lines = lines_restart done past b items ws p p' w knows watches;
        }

    -- the run goes on after an item, whatever its outcome
    goes_on : (time done : ℕ) (past : Past) (b : B) (item : Item) (items : List Item) (ws : List State)
        (p p' : Watched StruckWorld) (w w' : T) (outcome : Outcome Verdict) → Stands faults done p.performer →
        StandsAt net past p.evaluator → last_time past ≤ time → IsDue time item → Runs net past (item ∷ items) ws →
        Knows b w → Watches Performs net p item outcome p' → takes w p' outcome w' →
        GoesOn time done past b item items ws p p' w' (said w p' outcome)
    goes_on time done past b (scan now ins) items [] p p' w w' outcome stands evaluator timely is_due means knows watches takes_it =
        absurd means
    goes_on time done past b (scan now ins) items (v ∷ ws) p p' w w' outcome stands evaluator timely is_due means knows watches takes_it =
        let compares = watches.done.compares in
        subst (λ (o : Outcome Verdict). GoesOn time done past b (scan now ins) items (v ∷ ws) p p' w' (said w p' o)) (sym compares)
        (goes_scan time done now ins past b items v ws p p' w w' stands evaluator timely is_due means knows
        (subst (λ (o : Outcome Verdict). Watches Performs net p (scan now ins) o p') compares watches)
        (subst (λ (o : Outcome Verdict). takes w p' o w') compares takes_it))
    goes_on time done past b restart items ws p p' w w' outcome stands evaluator timely is_due means knows watches takes_it =
        let begins = watches.done.0 in
        subst (λ (o : Outcome Verdict). GoesOn time done past b restart items ws p p' w' (said w p' o)) (sym begins)
        (goes_restart time done past b items ws p p' w w' stands means knows
        (subst (λ (o : Outcome Verdict). Watches Performs net p restart o p') begins watches)
        (subst (λ (o : Outcome Verdict). takes w p' o w') begins takes_it))

    -- a world that faults strike refuses no item
    no_refusal : (item : Item) (refusal : Refusal) (p p' : StruckWorld) → Performs net p item (refuses refusal) p' → ⊥
    no_refusal (scan now ins) refusal p p' makes = let compares = makes.compares in cc
    no_refusal restart refusal p p' begins = let anew_is = begins.0 in cc

    -- what is said of an item comes first of what is to be written
    said_first : (time done : ℕ) (past : Past) (b : B) (item : Item) (items : List Item) (ws : List State)
        (p p' : Watched StruckWorld) (w : T) (outcome : Outcome Verdict) → Stands faults done p.performer →
        StandsAt net past p.evaluator → last_time past ≤ time → IsDue time item → Runs net past (item ∷ items) ws →
        Knows b w → Watches Performs net p item outcome p' → (n : ℕ) →
        IsBeginningOf (take n (said w p' outcome)) (writing done past b (item ∷ items) p.performer.world ws)
    said_first time done past b item items ws p p' w (refuses refusal) stands evaluator timely is_due means knows watches n =
        absurd (no_refusal item refusal p.performer p'.performer watches.done)
    said_first time done past b (scan now ins) items [] p p' w (performed t v r) stands evaluator timely is_due means knows watches n =
        absurd means
    said_first time done past b (scan now ins) items (s ∷ ws) p p' w (performed t v r) stands evaluator timely is_due means knows watches n =
        let compares = watches.done.compares in
        subst (λ (o : Outcome Verdict). IsBeginningOf (take n (said w p' o)) (writing done past b (scan now ins ∷ items) p.performer.world (s ∷ ws))) (sym compares)
        (part_begins _ _ _ n (lines_scan time done now ins past b items s ws p p' w w stands evaluator timely is_due means knows
        (subst (λ (o : Outcome Verdict). Watches Performs net p (scan now ins) o p') compares watches)))
    said_first time done past b restart items ws p p' w (performed t v r) stands evaluator timely is_due means knows watches n =
        absurd (let begins = watches.done.0 in cc)
    said_first time done past b (scan now ins) items ws p p' w anew stands evaluator timely is_due means knows watches n =
        absurd (let compares = watches.done.compares in cc)
    said_first time done past b restart items ws p p' w anew stands evaluator timely is_due means knows watches n =
        part_begins _ _ _ n (lines_restart done past b items ws p p' w knows watches)

    -- What was done of items from anywhere on, where the taker knows what was seen before.
    pub watched : (time done : ℕ) (p : Watched StruckWorld) (w : T) (scans : Scans) (bytes : List ℕ)
        (ended : Result (Unit {0}) Cut) (after : Watched StruckWorld) (w' : T) (past : Past) (b : B) (ws : List State) →
        Stands faults done p.performer → StandsAt net past p.evaluator → last_time past ≤ time → Runs net past scans.items ws →
        Knows b w → Did (Watches Performs net) said takes time p w scans bytes ended after w' →
        WritesLines (writing done past b scans.items p.performer.world ws) scans.end bytes ended
    watched _ done _ _ _ _ _ _ _ past b ws stands evaluator timely means knows (all time p w scans is) =
        subst (λ (s : Scans). WritesLines (writing done past b s.items p.performer.world ws) s.end [] (Ok tt)) (sym is) (refl, refl)
    watched _ done _ _ _ _ _ _ _ past b ws stands evaluator timely means knows (refused time p w scans refusal is) =
        subst (λ (s : Scans). WritesLines (writing done past b s.items p.performer.world ws) s.end [] (Err (Refused refusal))) (sym is) (refl, refl)
    watched _ done _ _ _ _ _ _ _ past b ws stands evaluator timely means knows (unread time p w scans) =
        (writing done past b scans.items p.performer.world ws, refl)
    watched _ done _ _ _ _ _ _ _ past b ws stands evaluator timely means knows (refused_item time p w scans item rest refusal p' begins is_due watches) =
        absurd (no_refusal item refusal p.performer p'.performer watches.done)
    watched _ done _ _ _ _ _ _ _ past b ws stands evaluator timely means knows (unwritten time p w scans item rest outcome p' w' n begins is_due watches) =
        let runs = subst (λ (s : Scans). Runs net past s.items ws) begins means in
        subst (λ (s : Scans). IsBeginningOf (take n (said w p' outcome)) (writing done past b s.items p.performer.world ws)) (sym begins)
        (said_first time done past b item rest.items ws p p' w outcome stands evaluator timely is_due runs knows watches n)
    watched _ done _ _ _ _ _ _ _ past b ws stands evaluator timely means knows (next time p w scans item rest outcome p' w' bytes ended p'' w'' begins is_due watches takes_it did) =
        let runs = subst (λ (s : Scans). Runs net past s.items ws) begins means in
        let goes = goes_on time done past b item rest.items ws p p' w w' outcome stands evaluator timely is_due runs knows watches takes_it in
        let rest_is = watched (time_behind time item) goes.done' p' w' rest bytes ended p'' w'' goes.past' goes.b' goes.ws'
        goes.stands goes.evaluator goes.timely goes.means goes.knows did in
        subst (λ (s : Scans). WritesLines (writing done past b s.items p.performer.world ws) s.end (said w p' outcome ++ bytes) ended) (sym begins)
        (lines_behind _ (said w p' outcome) _ rest.end bytes ended goes.lines rest_is)
