-- What a run writes by the answers of its world is what its scans mean, up to where the channels trip.
use Rattle.std.proofs.Common.{◌≡◌, ◌≤◌, ◌<◌, ◌+◌, ◌∙◌, ◌++◌, ℕ, suc, Bool, true, false, cond, List, [], ◌∷◌, Option, Some, None, length, refl, sym, ap, subst, inl, inr, arith}
use Rattle.std.specs.Prelude.{◌||◌, is_some}
use Rattle.std.proofs.lemmas.Bool.{cases_Bool, eq-eqb, ne_eqb}
use Rattle.ps_model.specs.declared.channel.Cause.{Cause}
use Rattle.ps_model.specs.declared.channel.Fault.{Fault}
use Rattle.ps_model.specs.declared.channel.Verdict.{Verdict}
use Rattle.ps_model.specs.declared.channel.Verdict.TheVariants.{Released, Tripped, Down}
use Rattle.ps_model.specs.declared.report.Report.{Report}
use Rattle.ps_model.specs.Network.{Network, instance_count}
use Rattle.ps_model.specs.Scanning.{State}
use Rattle.ps_model.specs.Meaning.{Item, report}
use Rattle.ps_model.specs.Meaning.Item.{scan, restart}
use Rattle.ps_report.specs.Lines.{report_text}
use Rattle.ps_machine.specs.Outcomes.{Outcome as Given, gives, lacks, outcome}
use Rattle.ps_trace.specs.Scans.{End}
use Rattle.ps_trace.specs.Scans.End.{whole, refused}
use Rattle.ps_world.specs.Worlds.{Machines, World_state, Begin, Restart, world_0}
use Rattle.ps_world.specs.Steps.{world_step, after}
use Rattle.ps_world.specs.Verdicts.{agreed, judged, verdict, is_trip, report_given}
use Rattle.ps_model.specs.Fields.{first_difference}
use Rattle.ps_world.specs.Orders.{of_scan, spoils_before, turn_events, at_compare, scan_events, verdicts, tripped_from, trips}
use Rattle.ps_world.specs.Answers.{Answer as Answered, answers, ReleaseRight}
use Rattle.ps_world.proofs.Ordered.{turns_come}
use Rattle.ps_world.proofs.Run.{after_scan}
use Rattle.ps_world.proofs.Turning.{after_append, struck_alike}
use Rattle.ps_runs.specs.Outcomes.{performed, outcome_line}
use Rattle.ps_runs.specs.Lines.{restart_line}
use Rattle.ps_runs.specs.Performing.{trips_with}
use Rattle.ps_top.specs.Program.{cause_at, scan_line, item_lines, are_some, status_if, end_status}
use Rattle.ps_runs.specs.Resting.{answer_lines, any_trips}
use Rattle.ps_top.specs.Resting.{status_of}

-- ---- Verdicts.

-- the cause with which a verdict trips
abbrev cause_in : Verdict → Option Cause
cause_in Released = None
cause_in (Tripped cause) = Some cause
cause_in Down = None

-- a verdict comes in a world that was tripped before, or was not
abbrev IsVerdictIn : Bool → Verdict → Type 0
IsVerdictIn down Released = down ≡ false
IsVerdictIn down (Tripped cause) = down ≡ false
IsVerdictIn down Down = down ≡ true

agreed_up : (field : Option ℕ) → IsVerdictIn false (agreed field)
agreed_up None = refl
agreed_up (Some field) = refl

judged_up : (a b : Given) → IsVerdictIn false (judged a b)
judged_up (lacks failing) b = refl
judged_up (gives r) (lacks failing) = refl
judged_up (gives r) (gives q) = agreed_up (first_difference r q)

judged_in : (down : Bool) (a b : Given) → IsVerdictIn down (cond down Down (judged a b))
judged_in true a b = refl
judged_in false a b = judged_up a b

-- up to its Compare a scan leaves a world tripped, or not
still_tripped : (m : Machines) (faults : List Fault) (now : ℕ) (ins : List Bool) (x : World_state) → (at_compare m faults now ins x).tripped ≡ x.tripped
still_tripped m faults now ins x =
    let spoils = spoils_before 0 faults in
    let begun = world_step m (Begin now ins) (after m spoils x) in
    let turns = turn_events m faults (m.a.budget + m.b.budget) 0 None begun in
    let es = spoils ++ Begin now ins ∷ turns in
    elim (cases_Bool x.tripped) [
      | inl down ↦ subst (λ b. (after m (cond b [] es) x).tripped ≡ x.tripped) (sym down) refl
      | inr up ↦
          let h = turns_come m (length ins) faults (m.a.budget + m.b.budget) 0 None begun refl (omega arith) (omega arith) (omega arith) in
          let there : (after m es x).tripped ≡ x.tripped =
          ap (λ (y : World_state). y.tripped) (after_append m spoils (Begin now ins ∷ turns) x) ∙ h.tripped ∙ (struck_alike m 0 faults x).tripped in
          subst (λ b. (after m (cond b [] es) x).tripped ≡ x.tripped) (sym up) there
    ]

verdict_in : (m : Machines) (faults : List Fault) (now : ℕ) (ins : List Bool) (x : World_state) → IsVerdictIn x.tripped (verdict m (at_compare m faults now ins x))
verdict_in m faults now ins x =
    let z = at_compare m faults now ins x in
    subst (λ down. IsVerdictIn down (verdict m z)) (still_tripped m faults now ins x) (judged_in z.tripped (outcome m.a z.a.cells) (outcome m.b z.b.cells))

-- whether the world is tripped after a verdict
tripped_behind : (v : Verdict) (down : Bool) → IsVerdictIn down v → is_trip v ≡ (down || is_some (cause_in v))
tripped_behind Released down is = ap (λ b. b || false) (sym is)
tripped_behind (Tripped cause) down is = ap (λ b. b || true) (sym is)
tripped_behind Down down is = ap (λ b. b || false) (sym is)

-- the line of an outcome is that of a scan that trips so
line_is : (net : Network) (now : ℕ) (v : Verdict) (r : Report) (w : State) (down : Bool) → IsVerdictIn down v → (v ≡ Released → r ≡ report net w) →
    outcome_line net (performed now v r) ≡ scan_line net now w (cause_in v) down
line_is net now Released r w down is right = ap (report_text net now) (right refl) ∙ ap (scan_line net now w None) (sym is)
line_is net now (Tripped cause) r w down is right = refl
line_is net now Down r w down is right = ap (scan_line net now w None) (sym is)

-- ---- The scans that trip, by number.

-- of the scans from a number on none is earlier
none_before : (number k : ℕ) (vs : List Verdict) → k < number → cause_at k (tripped_from number vs) ≡ None
none_before number k [] lt = refl
none_before number k (Released ∷ vs) lt = none_before (suc number) k vs (omega (arith, lt))
none_before number k (Down ∷ vs) lt = none_before (suc number) k vs (omega (arith, lt))
none_before number k (Tripped cause ∷ vs) lt =
    ap (λ b. cond b (Some cause) (cause_at k (tripped_from (suc number) vs))) (ne_eqb number k (λ same. omega (arith, lt, same))) ∙ none_before (suc number) k vs (omega (arith, lt))

-- the first of these scans trips by its verdict
first_cause : (number : ℕ) (v : Verdict) (vs : List Verdict) → cause_at number (tripped_from number (v ∷ vs)) ≡ cause_in v
first_cause number Released vs = none_before (suc number) number vs (omega arith)
first_cause number Down vs = none_before (suc number) number vs (omega arith)
first_cause number (Tripped cause) vs = ap (λ b. cond b (Some cause) (cause_at number (tripped_from (suc number) vs))) (eq-eqb number number refl)

-- the later ones trip by theirs
later_cause : (number k : ℕ) (v : Verdict) (vs : List Verdict) → suc number ≤ k → cause_at k (tripped_from number (v ∷ vs)) ≡ cause_at k (tripped_from (suc number) vs)
later_cause number k Released vs le = refl
later_cause number k Down vs le = refl
later_cause number k (Tripped cause) vs le =
    ap (λ b. cond b (Some cause) (cause_at k (tripped_from (suc number) vs))) (ne_eqb number k (λ same. omega (arith, le, same)))

module _ (net : Network) (m : Machines) (faults : List Fault) where
  -- the answers of the scans among items, from a number on
  abbrev given : (number : ℕ) → List Item → World_state → List Answered
  given number items x = answers m (length net.outputs) (instance_count net) faults number items x

  -- the verdicts on them
  abbrev verdicts_on : (number : ℕ) → List Item → World_state → List Verdict
  verdicts_on number items x = verdicts m faults number items x

  -- these say which scans from a number on trip
  abbrev Says : List (ℕ × Cause) → (number : ℕ) → List Item → World_state → Type 0
  Says tripped number items x = (k : ℕ) → number ≤ k → cause_at k tripped ≡ cause_at k (tripped_from number (verdicts_on number items x))

  joined : (tripped : List (ℕ × Cause)) (number : ℕ) (items : List Item) (x : World_state) (ws : List State) → Says tripped number items x → ReleaseRight net (given number items x) ws →
      answer_lines net items (given number items x) ≡ item_lines net tripped number x.tripped items ws
  joined tripped number [] x ws says right = refl
  joined tripped number (restart ∷ items) x ws says right = ap (λ l. restart_line ++ l) (joined tripped number items (world_step m Restart x) ws says right)
  joined tripped number (scan now ins ∷ items) x [] says right = absurd right
  joined tripped number (scan now ins ∷ items) x (w ∷ ws) says right =
      let struck = of_scan number faults in
      let z = at_compare m struck now ins x in
      let v = verdict m z in
      let y = after m (scan_events m struck now ins x) x in
      let r = report_given m (length net.outputs) (instance_count net) z in
      let later = verdicts_on (suc number) items y in
      let is_in = verdict_in m struck now ins x in
      let cause : cause_at number tripped ≡ cause_in v = says number (omega arith) ∙ first_cause number v later in
      let behind : y.tripped ≡ (x.tripped || is_some (cause_at number tripped)) =
      ap (λ (u : World_state). u.tripped) (after_scan m struck now ins x) ∙ tripped_behind v x.tripped is_in ∙ ap (λ c. x.tripped || is_some c) (sym cause) in
      let here : outcome_line net (performed now v r) ≡ scan_line net now w (cause_at number tripped) x.tripped =
      line_is net now v r w x.tripped is_in right.0 ∙ ap (λ c. scan_line net now w c x.tripped) (sym cause) in
      let more = joined tripped (suc number) items y ws (λ k le. says k (omega (arith, le)) ∙ later_cause number k v later le) right.1 in
      (λ i. here i ++ (more ∙ ap (λ down. item_lines net tripped (suc number) down items ws) behind) i)

  -- whether there are trips, by the answers
  has_trips : (number : ℕ) (items : List Item) (x : World_state) → are_some (tripped_from number (verdicts_on number items x)) ≡ any_trips (given number items x)
  has_trips number [] x = refl
  has_trips number (restart ∷ items) x = has_trips number items (world_step m Restart x)
  has_trips number (scan now ins ∷ items) x =
      let struck = of_scan number faults in
      let y = after m (scan_events m struck now ins x) x in
      with_first (verdict m (at_compare m struck now ins x)) (verdicts_on (suc number) items y) (any_trips (given (suc number) items y)) (has_trips (suc number) items y)
    where
      with_first : (v : Verdict) (vs : List Verdict) (more : Bool) → are_some (tripped_from (suc number) vs) ≡ more → are_some (tripped_from number (v ∷ vs)) ≡ (trips_with v || more)
      with_first Released vs more is = is
      with_first Down vs more is = is
      with_first (Tripped cause) vs more is = refl

  -- the lines of a whole run
  pub lines_are_meant : (items : List Item) (ws : List State) → ReleaseRight net (given 1 items (world_0 m)) ws →
      answer_lines net items (given 1 items (world_0 m)) ≡ item_lines net (trips m items faults) 1 false items ws
  lines_are_meant items ws right = joined (trips m items faults) 1 items (world_0 m) ws (λ k le. refl) right

  -- its status
  pub status_is_meant : (end : End) (items : List Item) → status_of end (any_trips (given 1 items (world_0 m))) ≡ end_status end (trips m items faults)
  status_is_meant whole items = ap status_if (sym (has_trips 1 items (world_0 m)))
  status_is_meant (refused refusal) items = refl
