-- What the scans of a run show of an application, scan by scan, and those of cases, one after another.
use Rattle.std.proofs.Common.{◌≡◌, ◌≤◌, ◌∙◌, ◌++◌, ℕ, List, [], ◌∷◌, Result, Ok, Err, map, sym, ap, subst, append_assoc, append-nil, arith}
use Rattle.std.specs.List.{AllByRecursion}
use Rattle.std.specs.Prelude.{OnOk}
use Rattle.std.proofs.lemmas.List.{map-append}
use Rattle.ps_bench_report.specs.Covered.{CoversCases, CoversRun, IsCoverage, IsCoverageOf, IsMeant, steps_in, traces_in}
use Rattle.ps_bench_report.specs.Known.{IsReadBack}
use Rattle.ps_bench_report.specs.Taking.{cover_takes}
use Rattle.ps_bench_report.specs.declared.filming.Both.{Both}
use Rattle.ps_bench_test.specs.Outcome.{Ran}
use Rattle.ps_base.specs.declared.failing.Place.{Place}
use Rattle.ps_cover.proofs.Joining.{joins_up}
use Rattle.ps_cover.proofs.Knowing.{anew_at, anew_known, both_known, none_known, scan_at, scan_known}
use Rattle.ps_cover.proofs.OfTraces.{known_is}
use Rattle.ps_cover.specs.Applying.{ScanStep, scans_of}
use Rattle.ps_cover.specs.Covering.{point_of}
use Rattle.ps_cover.specs.Covers.{IsAt, Joins, Knows, Renews}
use Rattle.ps_cover.specs.Listing.{points_of}
use Rattle.ps_cover.specs.Seen.{Known, known_by}
use Rattle.ps_cover.specs.Tallied.{IsUnseen, IsWhole, KnowsTraces}
use Rattle.ps_cover.specs.Text.{coverage_text}
use Rattle.ps_cover.specs.declared.cover.Cover.{Cover}
use Rattle.ps_cover.specs.declared.format.Format.TheVariants.{Text}
use Rattle.ps_model.specs.declared.channel.Verdict.{Verdict}
use Rattle.ps_model.specs.Meaning.{Item, Past, Runs, last, last_time, nothing, old_state, passed}
use Rattle.ps_model.specs.Meaning.Item.{scan, restart}
use Rattle.ps_model.specs.Network.{Network}
use Rattle.ps_model.specs.Scanning.{State}
use Rattle.ps_model.specs.Sound.{IsSound}
use Rattle.ps_model.proofs.OneSolution.{has_one_solution}
use Rattle.ps_parser.specs.Tree.{SourceTree}
use Rattle.ps_trace.specs.Scans.{Scans}
use Rattle.ps_runs.specs.Doing.{Did, IsDue, time_behind, all, refused, unread, refused_item, unwritten, next}
use Rattle.ps_runs.specs.Outcomes.{Outcome}
use Rattle.ps_runs.specs.Performing.{Performs}
use Rattle.ps_runs.specs.Watching.{StandsAt, Watches}
use Rattle.ps_runs.specs.declared.items.Cut.{Cut}
use Rattle.ps_runs.specs.declared.striking.StruckWorld.{StruckWorld}
use Rattle.ps_runs.specs.declared.watching.Watched.{Watched}

module _ (net : Network) (sound : IsSound net) where
  -- what was done of items is known, where all were done
  abbrev KnownOf : Past → List Item → List State → Result (Unit {0}) Cut → Cover → Cover → Type 0
  KnownOf past items ws ended t t' = OnOk ended (Knows net (scans_of net past items ws) t t')

  -- after an item, with which the rest goes on
  goes_on : (time : ℕ) (past : Past) (item : Item) (rest : List Item) (ws : List State) (p p' : Watched StruckWorld) (t t' : Cover)
      (outcome : Outcome Verdict) (ended : Result (Unit {0}) Cut) (t'' : Cover) →
      StandsAt net past p.evaluator → last_time past ≤ time → IsAt net past t → Runs net past (item ∷ rest) ws → IsDue time item →
      Watches Performs net p item outcome p' → cover_takes net t p' outcome t' →
      ((past' : Past) (ws' : List State) → StandsAt net past' p'.evaluator → last_time past' ≤ time_behind time item → IsAt net past' t' →
      Runs net past' rest ws' → KnownOf past' rest ws' ended t' t'') →
      KnownOf past (item ∷ rest) ws ended t t''
  goes_on time past (scan now ins) rest [] p p' t t' outcome ended t'' stands timely is_at means due watches takes more = absurd means
  goes_on time past (scan now ins) rest (v ∷ ws) p p' t t' outcome ended t'' stands timely is_at means due watches takes more =
      let not_before : last_time past ≤ now = omega (arith, timely, due) in
      let step = watches.evaluates past stands not_before in
      let one = has_one_solution net sound (old_state net past) ins (passed past now) in
      let same : step.state ≡ v = one.only step.state step.solves ∙ sym (one.only v means.0) in
      let took = subst (λ (o : Outcome Verdict). cover_takes net t p' o t') watches.done.compares takes in
      let before : took.signals.before.now ≡ (old_state net past).signals = took.before ∙ step.before.signals in
      let behind : took.signals.behind.now ≡ v.signals = took.behind ∙ step.stands.state.signals ∙ ap (λ (s : State). s.signals) same in
      let known = scan_known net past now v t t' is_at took.signals before behind took.takes in
      let at' = scan_at net past now v t t' is_at took.signals before behind took.takes ins means.0 took.fits in
      let rest_known = more (last now v) ws (subst (λ (s : State). StandsAt net (last now s) p'.evaluator) same step.stands) (omega arith) at' means.1 in
      by ended known rest_known
    where
      by : (ended : Result (Unit {0}) Cut) → Knows net (record { old = old_state net past; since = passed past now; new = v } ∷ []) t t' →
          KnownOf (last now v) rest ws ended t' t'' → KnownOf past (scan now ins ∷ rest) (v ∷ ws) ended t t''
      by (Ok done) one more = both_known net _ (scans_of net (last now v) rest ws) t t' t'' one more
      by (Err e) one more = tt
  goes_on time past restart rest ws p p' t t' outcome ended t'' stands timely is_at means due watches takes more =
      let took = subst (λ (o : Outcome Verdict). cover_takes net t p' o t') watches.done.0 takes in
      by ended took (more nothing ws watches.evaluates (omega arith) (anew_at net t t' took) means)
    where
      by : (ended : Result (Unit {0}) Cut) → Renews net t t' → KnownOf nothing rest ws ended t' t'' → KnownOf past (restart ∷ rest) ws ended t t''
      by (Ok done) one more = anew_known net (scans_of net nothing rest ws) t t' t'' one more
      by (Err e) one more = tt

  module _ (said : Both → Watched StruckWorld → Outcome Verdict → List ℕ) (takes : Both → Watched StruckWorld → Outcome Verdict → Both → Type 0)
      (taken : (t : Both) (p : Watched StruckWorld) (o : Outcome Verdict) (t' : Both) → takes t p o t' → cover_takes net t.cover p o t'.cover) where
    -- What was done of items from anywhere on is known of each point.
    pub covered : (time : ℕ) (p : Watched StruckWorld) (t : Both) (scans : Scans) (bytes : List ℕ) (ended : Result (Unit {0}) Cut)
        (p'' : Watched StruckWorld) (t'' : Both) (past : Past) (ws : List State) →
        StandsAt net past p.evaluator → last_time past ≤ time → IsAt net past t.cover → Runs net past scans.items ws →
        Did (Watches Performs net) said takes time p t scans bytes ended p'' t'' → KnownOf past scans.items ws ended t.cover t''.cover
    covered _ _ _ _ _ _ _ _ past ws stands timely is_at means (all time p t scans is) =
        subst (λ (s : Scans). Knows net (scans_of net past s.items ws) t.cover t.cover) (sym is) (none_known net t.cover)
    covered _ _ _ _ _ _ _ _ past ws stands timely is_at means (refused time p t scans refusal is) = tt
    covered _ _ _ _ _ _ _ _ past ws stands timely is_at means (unread time p t scans) = tt
    covered _ _ _ _ _ _ _ _ past ws stands timely is_at means (refused_item time p t scans item rest refusal p' begins is_due watches) = tt
    covered _ _ _ _ _ _ _ _ past ws stands timely is_at means (unwritten time p t scans item rest outcome p' t' n begins is_due watches) = tt
    covered _ _ _ _ _ _ _ _ past ws stands timely is_at means (next time p t scans item rest outcome p' t' bytes ended p'' t'' begins is_due watches took did) =
        subst (λ (s : Scans). KnownOf past s.items ws ended t.cover t''.cover) (sym begins)
        (goes_on time past item rest.items ws p p' t.cover t'.cover outcome ended t''.cover stands timely is_at
        (subst (λ (s : Scans). Runs net past s.items ws) begins means) is_due watches (taken t p' outcome t' took)
        (λ past' ws' stands' timely' at' means'.
        covered (time_behind time item) p' t' rest bytes ended p'' t'' past' ws' stands' timely' at' means' did))

-- ---- cases, one after another

-- no case
pub none_covered : (net : Network) (c : Cover) → CoversCases net [] c c
none_covered net c states meant traces first whole knows =
    subst (λ (ts : List (List ScanStep)). KnowsTraces net ts first c) (sym (append-nil traces)) knows

-- one case
pub one_covered : (r : Ran) (old other new : Cover) →
    ((states : Ran → List State) → IsMeant IsReadBack states r → CoversRun r.net (steps_in states r) other) → Joins old other new →
    CoversCases r.net (r ∷ []) old new
one_covered r old other new covers joins states meant traces first whole knows =
    let run = covers states meant.0 in
    joins_up r.net traces (steps_in states r) first old run.begun other new whole knows run.whole run.unseen run.knows joins

meant_first : (states : Ran → List State) (rs ss : List Ran) → AllByRecursion (IsMeant IsReadBack states) (rs ++ ss) → AllByRecursion (IsMeant IsReadBack states) rs
meant_first states [] ss meant = tt
meant_first states (r ∷ rs) ss meant = (meant.0, meant_first states rs ss meant.1)

meant_rest : (states : Ran → List State) (rs ss : List Ran) → AllByRecursion (IsMeant IsReadBack states) (rs ++ ss) → AllByRecursion (IsMeant IsReadBack states) ss
meant_rest states [] ss meant = meant
meant_rest states (r ∷ rs) ss meant = meant_rest states rs ss meant.1

-- cases after others
pub covered_behind : (net : Network) (rs ss : List Ran) (old mid new : Cover) → CoversCases net rs old mid → CoversCases net ss mid new →
    CoversCases net (rs ++ ss) old new
covered_behind net rs ss old mid new one two states meant traces first whole knows =
    subst (λ (ts : List (List ScanStep)). KnowsTraces net ts first new)
    (append_assoc traces (traces_in states rs) (traces_in states ss)
    ∙ ap (λ (ts : List (List ScanStep)). traces ++ ts) (sym (map-append (steps_in states) rs ss)))
    (two states (meant_rest states rs ss meant) (traces ++ traces_in states rs) first whole
    (one states (meant_first states rs ss meant) traces first whole knows))

-- what is told of them by what was kept
pub told_of : (net : Network) (tree : SourceTree) (rs : List Ran) (begun total : Cover) (text : List ℕ) → IsWhole net begun → IsUnseen begun →
    CoversCases net rs begun total → IsCoverage net tree total text → IsCoverageOf IsReadBack net tree rs text
told_of net tree rs begun total text whole unseen covers (known, (rows, are, places, stand, is), said) = (
  rows,
  are,
  λ states meant.
      let knows = covers states meant [] begun whole (none_known net begun) in
      let points : map point_of total.points.items ≡ points_of net = ap (map point_of) knows.points ∙ whole.points in
      said
      ∙ ap (λ (k : Known). coverage_text k Text) (is ∙ known_is net (traces_in states rs) begun total whole.points unseen knows rows places)
      ∙ ap (λ (ps : List Place). coverage_text (known_by net rows ps (traces_in states rs)) Text) (stand points),
)
