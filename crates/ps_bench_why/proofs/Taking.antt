-- A scan by what was kept before it.
use Rattle.std.proofs.Common.{◌≡◌, ◌≢◌, ◌∙◌, ◌<◌, ◌≤◌, ◌==◌, ◌||◌, ◌++◌, ◌∷◌, [], inl, inr, not, ℕ, zero, suc, Bool, true, false, List, Option, Some, None, replicate, length, slice_get, refl, sym, ap, subst, arith, if◌then◌else◌}
use Rattle.std.specs.Prelude.{is_none, option_map, slice_index_or}
use Rattle.std.proofs.lemmas.Option.{same_Some, slice_get-get_or, slice_get_within}
use Rattle.ps_cover.specs.Clock.{since}
use Rattle.ps_cover.specs.Covers.{time_of}
use Rattle.ps_model.specs.Action.{Actual, calls}
use Rattle.ps_model.specs.Blocks.{Block_state, idle}
use Rattle.ps_model.specs.Kept.{Kept, Remains, StandsBy, fresh}
use Rattle.ps_model.specs.Meaning.{Past, last, last_time, nothing, old_state, passed, scan}
use Rattle.ps_model.specs.Network.{Network, instance_count, kind_at}
use Rattle.ps_model.specs.Scanning.{Solves, State, block_in, limit_of}
use Rattle.ps_model.specs.Sound.{IsSound}
use Rattle.ps_model.proofs.OneSolution.{has_one_solution}
use Rattle.ps_machine.specs.declared.signals.Signals.{Signals}
use Rattle.ps_why.specs.Keeping.{AllStep, AreKept, IsKeptFor, StandFor}
use Rattle.ps_why.specs.Scenes.{IsCallOf}
use Rattle.ps_why.specs.declared.keeping.Stepped.{Stepped}
use Rattle.ps_why.specs.declared.call.CallScene.{CallScene}
use Rattle.ps_rows.specs.Counted.{kept_of}
use Rattle.ps_rows.proofs.Stepping.{fresh_kept}
use Rattle.ps_runs.specs.Outcomes.{Outcome}
use Rattle.ps_runs.specs.Watching.{EvaluatesAs, StandsAt}
use Rattle.ps_runs.specs.declared.watching.Evaluated.{Evaluated}
use Rattle.ps_bench_why.specs.Looking.{IsLook, IsSince}
use Rattle.ps_bench_why.specs.Scanned.{begun}
use Rattle.ps_bench_why.specs.Walking.{AreNoted, StandsBehind, noted, renewed}
use Rattle.ps_bench_why.specs.declared.walker.LastScan.{LastScan}
use Rattle.ps_bench_why.specs.declared.walker.Since.{Since}
use Rattle.ps_bench_why.specs.declared.walker.Walker.{Walker}
use Rattle.ps_bench_why.proofs.Ends.{front_or_last}
use Rattle.ps_why.proofs.Kept.{none_kept}

-- what stands past what is noted
abbrev pub no_since : Since
no_since = record { before = 0; behind = 0 }

idle_at : (n i : ℕ) → slice_index_or (replicate n idle) i idle ≡ idle
idle_at zero i = refl
idle_at (suc n) zero = refl
idle_at (suc n) (suc i) = idle_at n i

-- blocks that are Idle stand for the first state
pub idle_stand : (net : Network) (kept : List Stepped) → ((i : ℕ) (s : Stepped) → slice_get kept i ≡ Some s → kept_of s.block ≡ fresh) →
    StandFor net (old_state net nothing) kept
idle_stand net kept idles i s at args call =
    subst (λ (b : Block_state). StandsBy (Remains (limit_of (kind_at net i) args)) (kept_of s.block) b) (sym (idle_at (instance_count net) i))
    (subst (λ (k : Kept). StandsBy (Remains (limit_of (kind_at net i) args)) k idle) (sym (idles i s at))
    (record { code = refl; last_reset = refl; last_auxiliary = refl; mode = refl; timer = λ on. absurd (on refl) }))

-- the time of the scan before is the one where the run stands
pub before_is : (net : Network) (past : Past) (w : Walker) → StandsBehind net past w → w.before ≡ time_of past
before_is net nothing w stands = stands
before_is net (last now v) w stands = stands.0

-- the ms that passed
pub passes : (past : Past) (now : ℕ) → since (time_of past) now ≡ passed past now
passes nothing now = refl
passes (last before v) now = refl

-- ---- since when
-- since when an instance is in its state, by what is seen of it
behind_is : (past : Past) (before : ℕ → ℕ) (now : ℕ) (v : State) (i : ℕ) (net : Network) (c : CallScene) (was : Since) →
    (block_in (old_state net past) i).code ≡ c.from → (block_in v i).code ≡ c.code → was.behind ≡ before i →
    (noted c now (is_none (time_of past)) was).behind ≡ begun past before now v i
behind_is nothing before now v i net c was from code is = refl
behind_is (last at u) before now v i net c was from code is =
    by (c.from == c.code) refl
    ∙ (λ j. if sym from j == sym code j then is j else now)
  where
    by : (b : Bool) → (c.from == c.code) ≡ b → (if false || not (c.from == c.code) then now else was.behind) ≡ (if c.from == c.code then was.behind else now)
    by true e = ap (λ x. if false || not x then now else was.behind) e ∙ sym (ap (λ x. if x then was.behind else now) e)
    by false e = ap (λ x. if false || not x then now else was.behind) e ∙ sym (ap (λ x. if x then was.behind else now) e)

module _ (net : Network) (sound : IsSound net) (past : Past) (before : ℕ → ℕ) (now : ℕ) (ins : List Bool) (v : State)
    (solves : Solves net (old_state net past) ins (passed past now) v) (due : last_time past ≤ now) where
  -- the evaluator makes the scan that is meant
  pub evaluated : (e e' : Evaluated) (outcome : Outcome (Unit {0})) → StandsAt net past e → EvaluatesAs net e (scan now ins) outcome e' →
      (e'.before.signals ≡ (old_state net past).signals) × (e'.behind.signals ≡ v.signals) × StandsAt net (last now v) e'
  evaluated e e' outcome stands does =
      let next = does.2 past stands due in
      let one = has_one_solution net sound (old_state net past) ins (passed past now) in
      let same : next.state ≡ v = one.only next.state next.solves ∙ sym (one.only v solves) in
      let there : StandsAt net (last now v) e' = subst (λ (s : State). StandsAt net (last now s) e') same next.stands in
      (next.before.signals, there.state.signals, there)

  -- and the instances step
  pub stepped : (x : Signals) (was is : List Stepped) (d : ℕ) → d ≡ passed past now → AllStep net d x was is → StandFor net (old_state net past) was →
      x.before.now ≡ (old_state net past).signals → x.behind.now ≡ v.signals →
      StandFor net v is × ((i : ℕ) (s : Stepped) → slice_get is i ≡ Some s → IsCallOf net (old_state net past) (passed past now) v i s.call)
  stepped x was is d same steps stands b a = steps (old_state net past) ins (passed past now) v solves b a stands (λ i on. same)

  -- and it is noted since when they are in their states
  pub noted_so : (kept : List Stepped) (was is : List Since) (first : Bool) → first ≡ is_none (time_of past) →
      length is ≡ length was → length was ≡ length kept →
      ((i : ℕ) (seen : Stepped) (s : Since) → slice_get kept i ≡ Some seen → slice_get was i ≡ Some s → slice_get is i ≡ Some (noted seen.call now first s)) →
      AreNoted before was →
      ((i : ℕ) (s : Stepped) → slice_get kept i ≡ Some s → IsCallOf net (old_state net past) (passed past now) v i s.call) →
      (i : ℕ) (s : Since) → slice_get is i ≡ Some s → IsSince (record { past = past; now = now; ins = ins; new = v; before = before }) i s
  noted_so kept was is first first_is len each notes noted_were seen_so i s at =
      let here : i < length is = slice_get_within is i s at in
      let old = slice_get-get_or was i no_since (omega (arith, here, len)) in
      let seen = slice_get-get_or kept i none_kept (omega (arith, here, len, each)) in
      let call = seen_so i (slice_index_or kept i none_kept) seen in
      let is_noted : noted (slice_index_or kept i none_kept).call now first (slice_index_or was i no_since) ≡ s =
      same_Some _ s (sym (notes i (slice_index_or kept i none_kept) (slice_index_or was i no_since) seen old) ∙ at) in
      let before_is : (slice_index_or was i no_since).behind ≡ before i = noted_were i (slice_index_or was i no_since) old in
      record {
        before = ap (λ (n : Since). n.before) (sym is_noted) ∙ before_is;
        behind = ap (λ (n : Since). n.behind) (sym is_noted)
            ∙ ap (λ b. (noted (slice_index_or kept i none_kept).call now b (slice_index_or was i no_since)).behind) first_is
            ∙ behind_is past before now v i net (slice_index_or kept i none_kept).call (slice_index_or was i no_since) call.from call.code before_is;
      }

-- ---- the instances before the first scan
-- one more is kept
pub kept_more : (net : Network) (kept : List Stepped) (n : ℕ) → length kept ≡ n →
    ((j : ℕ) (s : Stepped) → slice_get kept j ≡ Some s → IsKeptFor net j s) → (s : Stepped) → IsKeptFor net n s →
    (j : ℕ) (t : Stepped) → slice_get (kept ++ s ∷ []) j ≡ Some t → IsKeptFor net j t
kept_more net kept n len are s new j t at =
    elim (front_or_last kept s j t at) [
      | inl here ↦ are j t here
      | inr end ↦
          let number : n ≡ j = sym len ∙ sym end.0 in
          subst (λ m. IsKeptFor net m t) number (subst (λ (x : Stepped). IsKeptFor net n x) end.1 new)
    ]

module _ (net : Network) (was is : List Stepped) (anew : (i : ℕ) → slice_get is i ≡ option_map renewed (slice_get was i)) where
  -- one that is renewed was one before
  old_of : (i : ℕ) (s : Stepped) → slice_get is i ≡ Some s → (t : Stepped) × (slice_get was i ≡ Some t) × (renewed t ≡ s)
  old_of i s at = by (slice_get was i) refl
    where
      by : (o : Option Stepped) → slice_get was i ≡ o → (t : Stepped) × (slice_get was i ≡ Some t) × (renewed t ≡ s)
      by None e = let no : None ≡ Some s = sym (anew i ∙ ap (option_map renewed) e) ∙ at in cc
      by (Some t) e = (t, e, same_Some (renewed t) s (sym (anew i ∙ ap (option_map renewed) e) ∙ at))

  pub renewed_are : length is ≡ length was → AreKept net was → AreKept net is
  renewed_are len are = record {
    each = len ∙ are.each;
    are = λ i s at.
        let old = old_of i s at in
        let k = are.are i old.0 old.1 in
        subst (λ (x : Stepped). IsKeptFor net i x) old.2 (record { step = k.step; call = k.call; block = fresh_kept (kind_at net i) });
  }

  pub renewed_stand : StandFor net (old_state net nothing) is
  renewed_stand = idle_stand net is (λ i s at. ap (λ (x : Stepped). kept_of x.block) (sym (old_of i s at).2))

-- ---- where the walker stands
-- the next scan is a first one
pub is_first : (net : Network) (past : Past) (w : Walker) → w.before ≡ None → StandsBehind net past w → (P : Past → Type 0) → P nothing → P past
is_first net nothing w none stands P p = p
is_first net (last at v) w none stands P p = let is = stands.0 in let no : Some at ≡ None = sym is ∙ none in cc

-- there was one before
pub goes_on : (net : Network) (past : Past) (w : Walker) (t : ℕ) → w.before ≡ Some t → StandsBehind net past w →
    StandsAt net past w.evaluator × StandFor net (old_state net past) w.kept.items
goes_on net nothing w t is stands = let no : Some t ≡ None = sym is ∙ stands in cc
goes_on net (last at v) w t is stands = (stands.1, stands.2)

-- ---- after a scan
module _ (net : Network) (sound : IsSound net) (past : Past) (now : ℕ) (ins : List Bool) (v : State)
    (solves : Solves net (old_state net past) ins (passed past now) v) (due : last_time past ≤ now)
    (w : Walker) (e : Evaluated) (outcome : Outcome (Unit {0})) (ready : StandsAt net past e) (does : EvaluatesAs net e (scan now ins) outcome w.evaluator)
    (x : Signals) (x_before : x.before.now ≡ w.evaluator.before.signals) (x_behind : x.behind.now ≡ w.evaluator.behind.signals)
    (kept : List Stepped) (d : ℕ) (d_is : d ≡ passed past now) (stood : StandFor net (old_state net past) kept) (steps : AllStep net d x kept w.kept.items) where
  made : (w.evaluator.before.signals ≡ (old_state net past).signals) × (w.evaluator.behind.signals ≡ v.signals) × StandsAt net (last now v) w.evaluator
  made = evaluated net sound past (λ i. 0) now ins v solves due e w.evaluator outcome ready does

  all : StandFor net v w.kept.items × ((i : ℕ) (s : Stepped) → slice_get w.kept.items i ≡ Some s → IsCallOf net (old_state net past) (passed past now) v i s.call)
  all = stepped net sound past (λ i. 0) now ins v solves due x kept w.kept.items d d_is steps stood (x_before ∙ made.0) (x_behind ∙ made.1)

  -- the walker stands after it
  pub stands_behind : w.before ≡ Some now → StandsBehind net (last now v) w
  stands_behind is = (is, made.2, all.0)

  -- and what it keeps is so of it
  pub looks : (before : ℕ → ℕ) (was : List Since) (first : Bool) → first ≡ is_none (time_of past) → length w.since.items ≡ length was →
      length was ≡ length w.kept.items →
      ((i : ℕ) (seen : Stepped) (s : Since) → slice_get w.kept.items i ≡ Some seen → slice_get was i ≡ Some s →
      slice_get w.since.items i ≡ Some (noted seen.call now first s)) → AreNoted before was → (times : LastScan) → w.last ≡ Some times →
      times.now ≡ now → times.before ≡ time_of past → IsLook net (record { past = past; now = now; ins = ins; new = v; before = before }) w
  looks before was first first_is len each notes were times was_last at_now at_before = record {
    solves = solves;
    times = (times, was_last, record { now = at_now; before = at_before });
    old = made.0;
    new = made.1;
    calls = all.1;
    since = noted_so net sound past before now ins v solves due w.kept.items was w.since.items first first_is len each notes were all.1;
  }
