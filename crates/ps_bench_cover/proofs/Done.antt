-- What is known of each point after the items of a trace.
use Rattle.std.proofs.Common.{◌≡◌, ◌≤◌, ◌∙◌, ℕ, List, [], ◌∷◌, Result, Ok, Err, sym, ap, subst, arith}
use Rattle.std.specs.Prelude.{OnOk}
use Rattle.ps_model.specs.Meaning.{Item, Past, Runs, last, last_time, nothing, old_state, passed}
use Rattle.ps_model.specs.Meaning.Item.{scan, restart}
use Rattle.ps_model.specs.Network.{Network}
use Rattle.ps_model.specs.Scanning.{State}
use Rattle.ps_model.specs.Sound.{IsSound}
use Rattle.ps_model.proofs.OneSolution.{has_one_solution}
use Rattle.ps_base.specs.declared.failing.Refusal.{Refusal}
use Rattle.ps_trace.specs.Scans.{End, Scans, whole, refused as end_refused}
use Rattle.ps_runs.specs.Doing.{Did, IsDue, time_behind, all, refused, unread, refused_item, unwritten, next}
use Rattle.ps_runs.specs.Outcomes.{Outcome, performed, refuses, anew}
use Rattle.ps_runs.specs.Watching.{EvaluatesAs, StandsAt}
use Rattle.ps_runs.specs.declared.items.Cut.{Cut}
use Rattle.ps_runs.specs.declared.items.Cut.TheVariants.{Refused}
use Rattle.ps_runs.specs.declared.watching.Evaluated.{Evaluated}
use Rattle.ps_cover.specs.Applying.{scans_of}
use Rattle.ps_cover.specs.Covers.{IsAt, Knows, Renews}
use Rattle.ps_bench_cover.specs.Taking.{cover_takes}
use Rattle.ps_bench_cover.specs.declared.covering.Shown.{Shown}
use Rattle.ps_cover.specs.declared.cover.Cover.{Cover}
use Rattle.ps_cover.proofs.Knowing.{anew_at, anew_known, both_known, none_known, scan_at, scan_known}

-- all was done only of what is whole
pub done_whole : {P T V : Type 0} (performs : P → Item → Outcome V → P → Type 0) (said : T → P → Outcome V → List ℕ) (takes : T → P → Outcome V → T → Type 0)
    (time : ℕ) (p : P) (t : T) (scans : Scans) (bytes : List ℕ) (ended : Result (Unit {0}) Cut) (p'' : P) (t'' : T) →
    Did performs said takes time p t scans bytes ended p'' t'' → OnOk ended (scans.end ≡ whole)
done_whole performs said takes _ _ _ _ _ _ _ _ (all time p t scans is) = ap (λ (s : Scans). s.end) is
done_whole performs said takes _ _ _ _ _ _ _ _ (refused time p t scans refusal is) = tt
done_whole performs said takes _ _ _ _ _ _ _ _ (unread time p t scans) = tt
done_whole performs said takes _ _ _ _ _ _ _ _ (refused_item time p t scans item rest refusal p' begins is_due done) = tt
done_whole performs said takes _ _ _ _ _ _ _ _ (unwritten time p t scans item rest outcome p' t' n begins is_due done) = tt
done_whole performs said takes _ _ _ _ _ _ _ _ (next time p t scans item rest outcome p' t' bytes ended p'' t'' begins is_due done took did) =
    subst (λ (e : End). OnOk ended (e ≡ whole)) (sym (ap (λ (s : Scans). s.end) begins))
    (done_whole performs said takes (time_behind time item) p' t' rest bytes ended p'' t'' did)

-- the evaluator refuses no item
refuses_none : (net : Network) (e : Evaluated) (item : Item) (refusal : Refusal) (e' : Evaluated) →
    EvaluatesAs net e item (refuses refusal) e' → ⊥
refuses_none net e (scan now ins) refusal e' done = let no : refuses refusal ≡ performed now tt done.0 = done.1 in cc
refuses_none net e restart refusal e' done = let no : refuses refusal ≡ anew = done.0 in cc

-- a refusal is that of the trace
pub done_refused : {T : Type 0} (net : Network) (said : T → Evaluated → Outcome (Unit {0}) → List ℕ) (takes : T → Evaluated → Outcome (Unit {0}) → T → Type 0)
    (time : ℕ) (p : Evaluated) (t : T) (scans : Scans) (bytes : List ℕ) (ended : Result (Unit {0}) Cut) (p'' : Evaluated) (t'' : T) (refusal : Refusal) →
    Did (EvaluatesAs net) said takes time p t scans bytes ended p'' t'' → ended ≡ Err (Refused refusal) → scans.end ≡ end_refused refusal
done_refused net said takes _ _ _ _ _ _ _ _ refusal (all time p t scans is) ended = cc
done_refused net said takes _ _ _ _ _ _ _ _ refusal (refused time p t scans r is) ended =
    let same : r ≡ refusal = cc in
    ap (λ (s : Scans). s.end) is ∙ ap end_refused same
done_refused net said takes _ _ _ _ _ _ _ _ refusal (unread time p t scans) ended = cc
done_refused net said takes _ _ _ _ _ _ _ _ refusal (refused_item time p t scans item rest r p' begins is_due done) ended = absurd (refuses_none net p item r p' done)
done_refused net said takes _ _ _ _ _ _ _ _ refusal (unwritten time p t scans item rest outcome p' t' n begins is_due done) ended = cc
done_refused net said takes _ _ _ _ _ _ _ _ refusal (next time p t scans item rest outcome p' t' bytes e p'' t'' begins is_due done took did) ended =
    ap (λ (s : Scans). s.end) begins ∙ done_refused net said takes (time_behind time item) p' t' rest bytes e p'' t'' refusal did ended

module _ (net : Network) (sound : IsSound net) where
  -- what was done of items is known, where all were done
  abbrev KnownOf : Past → List Item → List State → Result (Unit {0}) Cut → Cover → Cover → Type 0
  KnownOf past items ws ended t t' = OnOk ended (Knows net (scans_of net past items ws) t t')

  -- after an item, with which the rest goes on
  goes_on : (time : ℕ) (past : Past) (item : Item) (rest : List Item) (ws : List State) (p p' : Evaluated) (t t' : Cover) (outcome : Outcome (Unit {0}))
      (ended : Result (Unit {0}) Cut) (t'' : Cover) →
      StandsAt net past p → last_time past ≤ time → IsAt net past t → Runs net past (item ∷ rest) ws → IsDue time item →
      EvaluatesAs net p item outcome p' → cover_takes net t p' outcome t' →
      ((past' : Past) (ws' : List State) → StandsAt net past' p' → last_time past' ≤ time_behind time item → IsAt net past' t' → Runs net past' rest ws' →
      KnownOf past' rest ws' ended t' t'') →
      KnownOf past (item ∷ rest) ws ended t t''
  goes_on time past (scan now ins) rest [] p p' t t' outcome ended t'' stands timely is_at means due done takes more = absurd means
  goes_on time past (scan now ins) rest (v ∷ ws) p p' t t' outcome ended t'' stands timely is_at means due done takes more =
      let not_before : last_time past ≤ now = omega (arith, timely, due) in
      let step = done.2 past stands not_before in
      let one = has_one_solution net sound (old_state net past) ins (passed past now) in
      let same : step.state ≡ v = one.only step.state step.solves ∙ sym (one.only v means.0) in
      let took = subst (λ (o : Outcome (Unit {0})). cover_takes net t p' o t') done.1 takes in
      let before : took.signals.before.now ≡ (old_state net past).signals = took.before ∙ step.before.signals in
      let behind : took.signals.behind.now ≡ v.signals = took.behind ∙ step.stands.state.signals ∙ ap (λ (s : State). s.signals) same in
      let known = scan_known net past now v t t' is_at took.signals before behind took.takes in
      let at' = scan_at net past now v t t' is_at took.signals before behind took.takes ins means.0 took.fits in
      let rest_known = more (last now v) ws (subst (λ (s : State). StandsAt net (last now s) p') same step.stands) (omega arith) at' means.1 in
      by ended known rest_known
    where
      by : (ended : Result (Unit {0}) Cut) → Knows net (record { old = old_state net past; since = passed past now; new = v } ∷ []) t t' →
          KnownOf (last now v) rest ws ended t' t'' → KnownOf past (scan now ins ∷ rest) (v ∷ ws) ended t t''
      by (Ok done) one more = both_known net _ (scans_of net (last now v) rest ws) t t' t'' one more
      by (Err e) one more = tt
  goes_on time past restart rest ws p p' t t' outcome ended t'' stands timely is_at means due done takes more =
      let took = subst (λ (o : Outcome (Unit {0})). cover_takes net t p' o t') done.0 takes in
      by ended took (more nothing ws done.1 (omega arith) (anew_at net t t' took) means)
    where
      by : (ended : Result (Unit {0}) Cut) → Renews net t t' → KnownOf nothing rest ws ended t' t'' → KnownOf past (restart ∷ rest) ws ended t t''
      by (Ok done) one more = anew_known net (scans_of net nothing rest ws) t t' t'' one more
      by (Err e) one more = tt

  -- What was done of items from anywhere on is known of each point.
  pub covered : (time : ℕ) (p : Evaluated) (t : Shown) (scans : Scans) (bytes : List ℕ) (ended : Result (Unit {0}) Cut) (p'' : Evaluated) (t'' : Shown)
      (past : Past) (ws : List State) →
      StandsAt net past p → last_time past ≤ time → IsAt net past t.cover → Runs net past scans.items ws →
      Did (EvaluatesAs net) (λ t p o. []) (λ t p o t'. cover_takes net t.cover p o t'.cover) time p t scans bytes ended p'' t'' → KnownOf past scans.items ws ended t.cover t''.cover
  covered _ _ _ _ _ _ _ _ past ws stands timely is_at means (all time p t scans is) =
      subst (λ (s : Scans). Knows net (scans_of net past s.items ws) t.cover t.cover) (sym is) (none_known net t.cover)
  covered _ _ _ _ _ _ _ _ past ws stands timely is_at means (refused time p t scans refusal is) = tt
  covered _ _ _ _ _ _ _ _ past ws stands timely is_at means (unread time p t scans) = tt
  covered _ _ _ _ _ _ _ _ past ws stands timely is_at means (refused_item time p t scans item rest refusal p' begins is_due done) = tt
  covered _ _ _ _ _ _ _ _ past ws stands timely is_at means (unwritten time p t scans item rest outcome p' t' n begins is_due done) = tt
  covered _ _ _ _ _ _ _ _ past ws stands timely is_at means (next time p t scans item rest outcome p' t' bytes ended p'' t'' begins is_due done takes did) =
      subst (λ (s : Scans). KnownOf past s.items ws ended t.cover t''.cover) (sym begins)
      (goes_on time past item rest.items ws p p' t.cover t'.cover outcome ended t''.cover stands timely is_at (subst (λ (s : Scans). Runs net past s.items ws) begins means) is_due done takes
      (λ past' ws' stands' timely' at' means'.
      covered (time_behind time item) p' t' rest bytes ended p'' t'' past' ws' stands' timely' at' means' did))
