-- What a load counts of its scans is what they mean.
use Rattle.std.proofs.Common.{◌≡◌, ◌≤◌, ◌+◌, ◌*◌, ◌∙◌, ◌++◌, ℕ, suc, true, cond, Bool, IsTrue, List, [], ◌∷◌, Result, Ok, Err, length, map, refl, sym, ap, subst, append-nil, ⊎_elim, arith}
use Rattle.std.specs.Prelude.{fold, flat_map, sum_by, Option, None, is_some}
use Rattle.std.proofs.lemmas.List.Sums.{sum_by-cons, count_by-le-length}
use Rattle.std.proofs.lemmas.List.FromFn.{length-map-range_with_len}
use Rattle.std.specs.Option.{option_or}
use Rattle.ps_base.specs.declared.failing.Fail.{Fail}
use Rattle.ps_base.specs.declared.failing.Fail.TheVariants.{Memory as NoneForRules, Refused as RefusedByRules}
use Rattle.ps_model.specs.declared.channel.Verdict.{Verdict}
use Rattle.ps_model.specs.declared.report.Diag.{Diag}
use Rattle.ps_model.specs.declared.report.Report.{Report}
use Rattle.ps_model.specs.Network.{Network, input_count, instance_count}
use Rattle.ps_model.specs.Sound.{IsSound}
use Rattle.ps_model.specs.Scanning.{State, signal_in}
use Rattle.ps_model.proofs.FieldPlaces.{report_diags}
use Rattle.ps_model.proofs.Runs.{one_run}
use Rattle.ps_model.specs.Meaning.{Item, Past, Runs, Meaning, report, last, nothing}
use Rattle.ps_model.specs.Meaning.Item.{scan, restart}
use Rattle.ps_report.specs.Short.{refusal_text}
use Rattle.ps_machine.specs.Items.{AreTimely}
use Rattle.ps_base.specs.declared.failing.Refusal.{Refusal}
use Rattle.ps_accepted.specs.Source.{Reading, IsAcceptedAs}
use Rattle.ps_accepted.specs.Source.Reading.{is_refused as is_refused_source}
use Rattle.ps_trace.specs.Scans.{Scans, End}
use Rattle.ps_trace.specs.Scans.End.{whole, refused as is_refused}
use Rattle.ps_world.specs.Worlds.{Machines, World_state, Restart, world_0}
use Rattle.ps_world.specs.Whole.{Whole, machines_in, IsWorldOf}
use Rattle.ps_world.specs.Steps.{world_step, after}
use Rattle.ps_world.specs.Orders.{of_scan, scan_events}
use Rattle.ps_world.specs.Answers.{answers, ReleaseAll, QuietRunsRelease}
use Rattle.ps_load.specs.Holding.{Load, held_of, faults_of}
use Rattle.ps_load.specs.Texts.{app_text}
use Rattle.ps_outside.specs.Outside.{Rose, last_count}
use Rattle.ps_top.specs.Asking.{Answer, worked}
use Rattle.ps_top.specs.Asking.Asking.{Says, Finds}
use Rattle.ps_top.specs.Calls.{CallSeen, SaysAnswer, LeavesRefusal, Answers, with_left}
use Rattle.ps_accepted.specs.Answering.{IsAcceptance}
use Rattle.ps_top.specs.Meets.{IsCut}
use Rattle.ps_top.specs.Refusing.{SaysNone}
use Rattle.ps_runs.specs.Counting.{none_counted, with_more, counted_report, counted}
use Rattle.ps_top.specs.Resting.{EndsWith, counted_answer, load_answer}
use Rattle.ps_runs.specs.Doing.{Did, DoesItems}
use Rattle.ps_runs.specs.Outcomes.{Outcome, performed}
use Rattle.ps_runs.specs.Performing.{Performs}
use Rattle.ps_top.specs.Program.{answer, with_application, summary, sum_scans, sum_trace, load, leaves_world, first_world, with_world}
use Rattle.ps_runs.specs.Counting.{true_outputs, true_errors}
use Rattle.ps_runs.specs.Resting.{answered, outcomes, ran}
use Rattle.ps_runs.specs.declared.counting.Counter.{Counter}
use Rattle.ps_top.specs.declared.Status.{Status}
use Rattle.ps_top.specs.declared.Status.TheVariants.{Refused as RefusedStatus}
use Rattle.ps_runs.specs.declared.items.Cut.{Cut}
use Rattle.ps_runs.specs.declared.items.Cut.TheVariants.{Refused, Unread, Unwritten}
use Rattle.ps_runs.specs.declared.striking.StruckWorld.{StruckWorld}
use Rattle.ps_top.proofs.Calling.{answers_behind, found_of_all, leaves_on, memory_answers, passes_left, said_answers, says_at}
use Rattle.ps_top.proofs.Meant.{ran_is}
use Rattle.ps_top.proofs.Applied.{with_counts}
use Rattle.ps_runs.specs.Tripping.{first_trip}
use Rattle.ps_runs.specs.declared.striking.Trip.{Trip}
use Rattle.ps_runs.proofs.Standing.{TakesAll, Came, CameTo, came_to, first_of}
use Rattle.ps_runs.proofs.ToCome.{Stands}

-- ---- The loop.

-- a counter takes an outcome
abbrev pub counts : Counter → Outcome Verdict → Counter → Type 0
counts old outcome new = new ≡ counted old outcome

-- of no outcome anything is written
abbrev pub silent : Outcome Verdict → List ℕ
silent outcome = []

nothing_said : (os : List (Outcome Verdict)) → flat_map silent os ≡ []
nothing_said [] = refl
nothing_said (o ∷ os) = nothing_said os

none_begun : (bytes owed : List ℕ) → bytes ++ owed ≡ [] → bytes ≡ []
none_begun [] owed is = refl
none_begun (b ∷ bytes) owed is = cc

module _ (net : Network) (p after : StruckWorld) (scans : Scans) (c' : Counter) where
  -- what a load has counted of a whole trace, once it is told how its items ended
  abbrev pub CountsAsEnded : Result (Unit {0}) Cut → Type 0
  CountsAsEnded (Ok x) = (c' ≡ fold counted none_counted (outcomes scans.items (answered net p.faults 1 scans.items p.world))) × (scans.end ≡ whole) × EndsWith scans.items p after
  CountsAsEnded (Err (Refused refusal)) = (scans.end ≡ is_refused refusal) × EndsWith scans.items p after
  CountsAsEnded (Err Unread) = Unit {0}
  CountsAsEnded (Err Unwritten) = Unit {0}

  all_taken : (c : Counter) (os : List (Outcome Verdict)) → TakesAll net p.faults silent counts c os c' → c' ≡ fold counted c os
  all_taken c [] is = is
  all_taken c (o ∷ os) takes = subst (λ (d : Counter). c' ≡ fold counted d os) takes.1 (all_taken takes.0 os takes.2)

  -- what comes of the scans
  abbrev coming : List (Outcome Verdict)
  coming = outcomes scans.items (answered net p.faults 1 scans.items p.world)

  all_ran : (bytes : List ℕ) → p.trip ≡ None → Came net p.faults silent counts 0 scans.items p after none_counted c' bytes → EndsWith scans.items p after
  all_ran bytes no_trip came = record { world = came.ends; trip = came.trip ∙ ap (λ (o : Option Trip). option_or o (first_of net p.faults 1 scans.items p.world)) no_trip }

  told_counts : (bytes : List ℕ) (ended : Result (Unit {0}) Cut) → p.trip ≡ None → CameTo net p.faults silent counts 0 scans p after none_counted c' bytes ended → (bytes ≡ []) × CountsAsEnded ended
  told_counts bytes (Ok x) no_trip came = (came.0.written ∙ nothing_said coming, (all_taken none_counted coming came.0.taken, came.1, all_ran bytes no_trip came.0))
  told_counts bytes (Err (Refused refusal)) no_trip came = (came.0.written ∙ nothing_said coming, (came.1, all_ran bytes no_trip came.0))
  told_counts bytes (Err Unread) no_trip begun = (none_begun bytes begun.0 (begun.1 ∙ nothing_said coming), tt)
  told_counts bytes (Err Unwritten) no_trip begun = (none_begun bytes begun.0 (begun.1 ∙ nothing_said coming), tt)

  -- the items of a load's trace were done from the first one on
  pub items_count : (time : ℕ) (c : Counter) (bytes : List ℕ) (ended : Result (Unit {0}) Cut) → c ≡ none_counted → p.trip ≡ None → Stands p.faults 0 p →
      Did (Performs net) (λ t p outcome. silent outcome) (λ t p outcome t'. counts t outcome t') time p c scans bytes ended after c' → (bytes ≡ []) × CountsAsEnded ended
  items_count time c bytes ended none no_trip stands did =
      told_counts bytes ended no_trip
      (came_to net p.faults silent counts 0 time p none_counted scans bytes ended after c' stands (subst (λ (d : Counter). Did (Performs net) (λ t p outcome. silent outcome) (λ t p outcome t'. counts t outcome t') time p d scans bytes ended after c') none did))

  -- and nothing was written
  pub loop_counts : {time : ℕ} {tells : Bool} {before now : List ℕ} (c : Counter) (ended : Result (Unit {0}) Cut) → c ≡ none_counted → p.trip ≡ None → Stands p.faults 0 p →
      DoesItems (Performs net) (λ t q outcome. silent outcome) (λ t q outcome t'. counts t outcome t') time p c scans tells before now ended after c' →
      (IsTrue tells → now ≡ before) × CountsAsEnded ended
  loop_counts {time} {tells} {before} c ended none no_trip stands does =
      let came = items_count time c does.bytes ended none no_trip stands does.did in
      (λ on. does.written on ∙ ap (λ (l : List ℕ). before ++ l) came.0 ∙ append-nil before, came.1)

-- reading a text of a load never fails
pub never_fails : (old new : Load) (name : List ℕ) → is_some (held_of old name) ≡ true → is_some (held_of new name) ≡ true → ¬ (Rose (faults_of old name) (faults_of new name))
never_fails old new name in_old in_new rose =
    let before : faults_of old name ≡ 0 = ap (λ b. cond b 0 old.others) in_old in
    let now : faults_of new name ≡ 0 = ap (λ b. cond b 0 new.others) in_new in
    ⊎_elim (λ more. omega (arith, more, before, now)) (λ end. omega (arith, end, now)) rose

-- ---- The meaning.

-- so many more, and then so many more again
more_and_more : (count more later : ℕ) → with_more (with_more count more) later ≡ with_more count (more + later)
more_and_more count more later = omega arith

-- what is counted of reports, one after another
abbrev all_counted : Counter → List Report → Counter
all_counted c reports = record {
  scans = with_more c.scans (length reports);
  trues = with_more c.trues (sum_by true_outputs reports);
  errors = with_more c.errors (sum_by true_errors reports);
}

-- a counter whose counts are within their type
abbrev IsWithin : Counter → Type 0
IsWithin c = (c.scans ≤ last_count) × (c.trues ≤ last_count) × (c.errors ≤ last_count)

within_more : (c : Counter) (report : Report) → IsWithin (counted_report c report)
within_more c report = (omega arith, omega arith, omega arith)

-- reports that are counted one after another are counted together
counted_together : (c : Counter) (reports : List Report) → IsWithin c → fold counted_report c reports ≡ all_counted c reports
counted_together c [] within =
    let scans : c.scans ≡ with_more c.scans 0 = omega (arith, within.0) in
    let trues : c.trues ≡ with_more c.trues 0 = omega (arith, within.1) in
    let errors : c.errors ≡ with_more c.errors 0 = omega (arith, within.2) in
    (λ i. record { scans = scans i; trues = trues i; errors = errors i })
counted_together c (r ∷ reports) within =
    let scans : with_more (with_more c.scans 1) (length reports) ≡ with_more c.scans (length (r ∷ reports)) = omega arith in
    let trues = more_and_more c.trues (true_outputs r) (sum_by true_outputs reports) ∙ ap (with_more c.trues) (sym (sum_by-cons true_outputs r reports)) in
    let errors = more_and_more c.errors (true_errors r) (sum_by true_errors reports) ∙ ap (with_more c.errors) (sym (sum_by-cons true_errors r reports)) in
    counted_together (counted_report c r) reports (within_more c r) ∙ (λ i. record { scans = scans i; trues = trues i; errors = errors i })

module _ (net : Network) (m : Machines) where
  -- what comes of items where no fault strikes, from a number on
  abbrev quiet : (number : ℕ) → List Item → World_state → List (Outcome Verdict)
  quiet number items x = outcomes items (answers m (length net.outputs) (instance_count net) [] number items x)

  -- where every scan is released, the reports of what the scans mean are counted
  released_counted : (c : Counter) (number : ℕ) (items : List Item) (x : World_state) (past : Past) (ws : List State) →
      ReleaseAll net (answers m (length net.outputs) (instance_count net) [] number items x) ws → Runs net past items ws →
      fold counted c (quiet number items x) ≡ fold counted_report c (map (report net) ws)
  released_counted c number [] x past ws all runs = ap (λ (l : List State). fold counted_report c (map (report net) l)) (sym runs)
  released_counted c number (restart ∷ items) x past ws all runs = released_counted c number items (world_step m Restart x) nothing ws all runs
  released_counted c number (scan now ins ∷ items) x past [] all runs = absurd all
  released_counted c number (scan now ins ∷ items) x past (w ∷ ws) all runs =
      let y = after m (scan_events m (of_scan number []) now ins x) x in
      (λ i. fold counted (counted c (performed now (all.0 i) (all.1 i))) (quiet (suc number) items y))
      ∙ released_counted (counted_report c (report net w)) (suc number) items y (last now w) ws all.2 runs.1

-- ---- No count reaches the end of its type.

-- of so many scans at most, no more outputs and Errors are TRUE than there are
record AreSmall (net : Network) (n : ℕ) (reports : List Report) : Type 0 where
  scans : length reports ≤ n
  trues : sum_by true_outputs reports ≤ length reports * 512
  errors : sum_by true_errors reports ≤ length reports * 400

runs_small : (net : Network) → IsSound net → (past : Past) (items : List Item) (ws : List State) → Runs net past items ws → AreSmall net (length items) (map (report net) ws)
runs_small net sound past [] ws runs = subst (λ (l : List State). AreSmall net 0 (map (report net) l)) (sym runs) (record { scans = omega arith; trues = omega arith; errors = omega arith })
runs_small net sound past (restart ∷ items) ws runs =
    let small = runs_small net sound nothing items ws runs in record { scans = omega (arith, small.scans); trues = small.trues; errors = small.errors }
runs_small net sound past (scan now ins ∷ items) [] runs = absurd runs
runs_small net sound past (scan now ins ∷ items) (w ∷ ws) runs =
    let small = runs_small net sound (last now w) items ws runs.1 in
    let r = report net w in
    let outs = count_by-le-length (λ b. b) r.outs in
    let outputs = length-map-range_with_len (signal_in w) (input_count net) (length net.outputs) in
    let diags = count_by-le-length (λ (d : Diag). d.error) r.diags in
    let instances = report_diags net w runs.0.block_each in
    record {
      scans = omega (arith, small.scans);
      trues = omega (arith, sum_by-cons true_outputs r (map (report net) ws), small.trues, outs, outputs, sound.few_outputs);
      errors = omega (arith, sum_by-cons true_errors r (map (report net) ws), small.errors, diags, instances, sound.few_instances);
    }

-- what is counted of few reports is their number and their sums
small_counted : (net : Network) (n : ℕ) (reports : List Report) → n ≤ 27000041 → AreSmall net n reports →
    fold counted_report none_counted reports ≡ record { scans = length reports; trues = sum_by true_outputs reports; errors = sum_by true_errors reports }
small_counted net n reports few small =
    let scans : with_more 0 (length reports) ≡ length reports = omega (arith, small.scans, few) in
    let trues : with_more 0 (sum_by true_outputs reports) ≡ sum_by true_outputs reports = omega (arith, small.trues, small.scans, few) in
    let errors : with_more 0 (sum_by true_errors reports) ≡ sum_by true_errors reports = omega (arith, small.errors, small.scans, few) in
    counted_together none_counted reports (omega arith, omega arith, omega arith) ∙ (λ i. record { scans = scans i; trues = trues i; errors = errors i })

-- ---- A whole load.

-- what is said of a load is no cut
no_cut_summary : (n : ℕ) (end : End) (reports : List Report) → ¬ IsCut (summary n end reports).status
no_cut_summary n whole reports = λ cut. grind arith
no_cut_summary n (is_refused refusal) reports = λ cut. grind arith

module _ (net : Network) (sound : IsSound net) (n : ℕ) (w : Whole) (built : IsWorldOf net w) (released : QuietRunsRelease net (machines_in w.setup)) (scans : Scans)
    (timely : AreTimely (input_count net) 0 scans.items) (few : length scans.items ≤ 27000041) where
  abbrev ws : List State
  ws = (one_run net sound nothing scans.items).0

  means : Meaning net scans.items ws
  means = (one_run net sound nothing scans.items).1

  at_first : w ≡ first_world w.setup
  at_first = λ i. record { setup = w.setup; state = built.beginning i }

  -- what was counted is what the scans mean
  counted_is : fold counted none_counted (outcomes scans.items (answered net [] 1 scans.items w))
      ≡ record { scans = length (map (report net) ws); trues = sum_by true_outputs (map (report net) ws); errors = sum_by true_errors (map (report net) ws) }
  counted_is =
      (λ i. fold counted none_counted (outcomes scans.items (answered net [] 1 scans.items (at_first i))))
      ∙ released_counted net (machines_in w.setup) none_counted 1 scans.items (world_0 (machines_in w.setup)) nothing ws (released scans.items ws timely means) means
      ∙ small_counted net (length scans.items) (map (report net) ws) few (runs_small net sound nothing scans.items ws means)

  said_at : (end : End) → counted_answer n end (fold counted none_counted (outcomes scans.items (answered net [] 1 scans.items w))) ≡ summary n end (map (report net) ws)
  said_at whole = λ i. counted_answer n whole (counted_is i)
  said_at (is_refused refusal) = refl

  -- what a load says, and what is left, is what its scans mean
  pub load_answers : {old new : CallSeen} {status : Status} → SaysAnswer (load_answer n net [] w scans) old new status → LeavesRefusal new.left new.out status →
      (¬ IsCut status → worked new.left ≡ with_world (ran [] 1 scans.items w) (first_trip (machines_in w.setup) [] 1 scans.items w.state) (worked old.left)) →
      Answers (sum_scans n net w.setup scans) [] old new status
  load_answers {old} {new} {status} says refuses leaves =
      let asking = Finds (List State) (Meaning net scans.items) (λ us. Says (summary n scans.end (map (report net) us))) in
      let there : CallSeen = with_left new.left old in
      let m = machines_in w.setup in
      answers_behind (sum_scans n net w.setup scans) asking [] {old = old} {mid = there} {new = new} (passes_left new.left refl)
      (λ tells. leaves_on old.files.held (worked old.left) status (leaves_world w.setup [] scans) asking (worked new.left)
      (λ not_cut. leaves not_cut ∙ (λ i. with_world (ran_is net [] w built scans.items i) (first_trip m [] 1 scans.items (built.beginning i)) (worked old.left))))
      (found_of_all (List State) (Meaning net scans.items) (λ us. Says (summary n scans.end (map (report net) us))) [] {old = there} {new = new} ws means
      (said_answers (summary n scans.end (map (report net) ws)) [] {old = there} {new = new} (no_cut_summary n scans.end (map (report net) ws))
      (says_at new.left (subst (λ (a : Answer). SaysAnswer a old new status) (said_at scans.end) says)) refuses refl))

-- a load whose application is refused
no_load_answers : (n : ℕ) (r : Refusal) {old new : CallSeen} {status : Status} → IsAcceptedAs app_text (is_refused_source r) →
    SaysAnswer (answer (refusal_text r) RefusedStatus) old new status → LeavesRefusal new.left new.out status → worked new.left ≡ worked old.left → Answers (load n) [] old new status
no_load_answers n r {old} {new} read says refuses same =
    found_of_all Reading (IsAcceptedAs app_text) (with_application (with_counts (sum_trace n))) [] {old = old} {new = new} (is_refused_source r) read
    (said_answers (answer (refusal_text r) RefusedStatus) [] (λ cut. grind arith) says refuses same)

-- a load whose application is not accepted
pub none_answers : (n : ℕ) (why : Fail) {old new : CallSeen} {status : Status} → IsAcceptance app_text (Err why) → SaysNone why old new status → LeavesRefusal new.left new.out status →
    worked new.left ≡ worked old.left → Answers (load n) [] old new status
none_answers n (RefusedByRules r) read says refuses same = no_load_answers n r read says refuses same
none_answers n NoneForRules {old} {new} {status} read says refuses same = subst (λ (s : Status). Answers (load n) [] old new s) (sym says.0) (memory_answers (load n) [] says.1)
