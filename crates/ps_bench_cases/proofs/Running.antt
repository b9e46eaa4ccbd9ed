-- Each case of a file that is not refused can be run.
use Rattle.std.proofs.Common.{◌≡◌, ◌≤◌, ◌<◌, ◌+◌, ◌-◌, ◌*◌, ◌/◌, min, max, ◌++◌, ◌∙◌, ◌==◌, ◌||◌, ℕ, zero, suc, List, [], ◌∷◌, Bool, true, false, not, Option, Some, None, Result, Ok, Err, IfOk, nat_lt, if◌then◌else◌, get_or, refl, sym, ap, subst, ⊎_elim, arith}
use Rattle.std.specs.List.{All}
use Rattle.std.proofs.Math.Nat.{mul-le-mul_right, le-div_iff_mul-le, suc-mul}
use Rattle.std.proofs.lemmas.Bool.{cases_lt}
use Rattle.std.specs.List.Sorted.{IsNonDecreasing}
use Rattle.std.proofs.lemmas.Grind.{common_steps}
use Rattle.std.proofs.lemmas.List.{append-nil}
use Rattle.std.proofs.lemmas.List.Concat.{flat_map-append}
use Rattle.std.proofs.lemmas.List.Elements.{All-cons, All-push, All-append, All-weaker, filter_map-append}
use Rattle.std.proofs.lemmas.List.Quantifiers.{all_pairs_push}
use Rattle.std.proofs.lemmas.Option.{same_Some}
use Rattle.ps_base.specs.declared.limits.TheConstants.{LARGEST_TIME}
use Rattle.ps_model.specs.declared.channel.Channel.{Channel}
use Rattle.ps_model.specs.declared.channel.Channel.TheVariants.{A, B}
use Rattle.ps_model.specs.declared.channel.Fault.{Fault as Strike}
use Rattle.ps_model.specs.declared.channel.ImageSizes.{ImageSizes}
use Rattle.ps_model.specs.Network.{Network}
use Rattle.ps_trace.specs.Faults.{is_other, is_same_channel, first_struck}
use Rattle.ps_trace.specs.FaultOrder.{IsNoLater, AreInOrder, AreOfOneChannel}
use Rattle.ps_bench_cases.specs.declared.rule.CaseRule.{CaseRule}
use Rattle.ps_bench_cases.specs.declared.rule.CaseRule.TheVariants.{K4, K5, K6, K7}
use Rattle.ps_bench_names.specs.declared.name.Setting.{Setting}
use Rattle.ps_bench_cases.specs.declared.case.Pace.{Pace}
use Rattle.ps_bench_cases.specs.declared.case.Act.{Act}
use Rattle.ps_bench_cases.specs.declared.case.Act.TheVariants as act
use Rattle.ps_bench_cases.specs.declared.case.Statement.{Statement}
use Rattle.ps_bench_cases.specs.declared.deed.Deed.{Deed}
use Rattle.ps_bench_cases.specs.declared.deed.Deed.TheVariants.{Set, At, After, Times, For, Until, Restart, Fault, Expect}
use Rattle.ps_bench_cases.specs.declared.stand.Stand.{Stand}
use Rattle.ps_bench_cases.specs.Stands.{rounds, scans_to, deed_settled, is_over, unless_over, strikes_wrongly, stand_after, unless_made}
use Rattle.ps_bench_cases.specs.Meant.{time_at, times_of, times_made, times_in, fault_made, faults_in}
use Rattle.ps_bench_cases.specs.Runnable.{IsRunnable}
use Rattle.ps_bench_cases.proofs.Rising.{rising_append, pace_rises, pace_from, pace_upto}
use Rattle.ps_bench_cases.proofs.SaidInputs.{AreOfInputs}

-- ---- What a line does after the lines before it.

-- a fault strikes no later than the next scan, and the channel that the first one does
pub record IsUpTo (s : Stand) (fault : Strike) : Type 0 where
  pub scan : fault.scan ≤ s.scans + 1
  pub turn : fault.scan ≡ s.scans + 1 → fault.turn ≤ s.turn
  pub first : s.struck ≡ Some fault.channel

-- a fault strikes the next scan, no earlier than the one before it
pub record IsNext (s : Stand) (fault : Strike) : Type 0 where
  pub scan : fault.scan ≡ s.scans + 1
  pub turn : s.turn ≤ fault.turn
  pub first : is_other is_same_channel s.struck fault.channel ≡ false

-- Scans go on from the last one. The last of them is at the time up to which they go, and none is past the latest time.
pub record GoesOn (s : Stand) (pace : Pace) : Type 0 where
  pub from : pace.from ≡ s.time
  pub upto : pace.from ≤ pace.upto
  pub reaches : time_at pace pace.count ≡ pace.upto
  pub early : s.base + pace.upto ≤ LARGEST_TIME

-- what a line does goes on from what stands before it
abbrev pub IsBehind : Stand → Act → Type 0
IsBehind s (act.Scans pace) = GoesOn s pace
IsBehind s (act.Fault fault) = IsNext s fault
IsBehind s act.Set = Unit {0}
IsBehind s act.Restart = Unit {0}
IsBehind s (act.Expect what) = Unit {0}

either_is : {A : Type 0} (P : A → Type 0) (b : Bool) (rule : CaseRule) (a : A) → (b ≡ false → P a) → IfOk (if b then Err rule else Ok a) P
either_is P true rule a second = tt
either_is P false rule a second = second refl

not_before : (s : Stand) (step target count : ℕ) → (nat_lt target s.time || nat_lt LARGEST_TIME (s.base + target)) ≡ false → s.time ≤ target
not_before s step target count is = grind (arith, common_steps)

not_late : (s : Stand) (target : ℕ) → (nat_lt target s.time || nat_lt LARGEST_TIME (s.base + target)) ≡ false → s.base + target ≤ LARGEST_TIME
not_late s target is = grind (arith, common_steps)

-- so many scans go so far
abbrev Reaches : (s : Stand) (step target count : ℕ) → Type 0
Reaches s step target count = s.time ≤ target → min (s.time + count * step) target ≡ target

scans_go_on : (s : Stand) (step target count : ℕ) → Reaches s step target count → IfOk (scans_to s step target count) (IsBehind s)
scans_go_on s step target count reaches =
    either_is (IsBehind s) (nat_lt target s.time || nat_lt LARGEST_TIME (s.base + target)) K4 (act.Scans record { from = s.time; step = step; upto = target; count = count })
    (λ is. let upto = not_before s step target count is in record { from = refl; upto = upto; reaches = reaches upto; early = not_late s target is })

-- one scan does
one_reaches : (s : Stand) (target : ℕ) → Reaches s (target - s.time) target 1
one_reaches s target on = omega (arith, on)

-- and as many as it takes
whole_steps : (step span : ℕ) → 0 < step → span ≤ (span + (step - 1)) / step * step
whole_steps step span some =
    let q = (span + (step - 1)) / step in
    ⊎_elim
    (λ (short : q * step < span).
    let more : suc q * step ≤ span + (step - 1) = omega (arith, suc-mul q step) in
    absurd (omega (arith, (le-div_iff_mul-le some).1 more)))
    (λ (long : span ≤ q * step). long)
    (cases_lt (q * step) span)

until_reaches : (s : Stand) (step target : ℕ) → Reaches s (max step 1) target (rounds step (target - s.time))
until_reaches s step target on =
    let m : ℕ = max step 1 in
    let some : 0 < m = omega arith in
    let span : ℕ = target - s.time in
    let q : ℕ = (span + (m - 1)) / m in
    let far : span ≤ q * m = whole_steps m span some in
    let farther : q * m ≤ max q 1 * m = mul-le-mul_right m (omega arith) in
    omega (arith, on, far, farther)

fault_is_next : (sizes : ImageSizes) (s : Stand) (fault : Strike) → strikes_wrongly sizes s fault ≡ false →
    IsNext s (record { scan = s.scans + 1; turn = fault.turn; channel = fault.channel; region = fault.region; at = fault.at; bytes = fault.bytes })
fault_is_next sizes s fault right = record { scan = refl; turn = grind (arith, common_steps); first = grind (arith, common_steps) }

pub settled_behind : (sizes : ImageSizes) (s : Stand) (deed : Deed) → IfOk (deed_settled sizes s deed) (IsBehind s)
settled_behind sizes s Set = tt
settled_behind sizes s (At t) = scans_go_on s _ _ 1 (one_reaches s (s.origin + t))
settled_behind sizes s (After d) = scans_go_on s _ _ 1 (one_reaches s (s.time + d))
settled_behind sizes s (Times step count) = scans_go_on s step _ count (λ on. omega (arith, on))
settled_behind sizes s (For step span) = scans_go_on s (max step 1) _ _ (until_reaches s step (s.time + span))
settled_behind sizes s (Until step t) = scans_go_on s (max step 1) _ _ (until_reaches s step (s.origin + t))
settled_behind sizes s Restart = tt
settled_behind sizes s (Fault fault) = either_is (IsBehind s) (strikes_wrongly sizes s fault) K6 _ (fault_is_next sizes s fault)
settled_behind sizes s (Expect window checks) = either_is (IsBehind s) (s.scans == 0) K5 _ (λ is. tt)

over_behind : (s : Stand) (over : Bool) (a : Act) → IsBehind s a → IfOk (if over then Err K7 else Ok a) (IsBehind s)
over_behind s true a behind = tt
over_behind s false a behind = behind

pub unless_behind : (s : Stand) (act : Result Act CaseRule) → IfOk act (IsBehind s) → IfOk (unless_over s act) (IsBehind s)
unless_behind s (Err rule) behind = tt
unless_behind s (Ok a) behind = over_behind s (is_over s a) a behind

-- ---- Faults.

same_channel : (a b : Channel) → not (is_same_channel a b) ≡ false → a ≡ b
same_channel A A is = refl
same_channel A B is = cc
same_channel B A is = cc
same_channel B B is = refl

-- a fault after others strikes the channel that they do
one_channel : (struck : Option Channel) (first channel : Channel) → struck ≡ Some first → is_other is_same_channel struck channel ≡ false → first ≡ channel
one_channel None first channel is same = cc
one_channel (Some other) first channel is same = sym (same_Some other first is) ∙ same_channel other channel same

-- who the first one strikes
first_is : (struck : Option Channel) (channel : Channel) → is_other is_same_channel struck channel ≡ false → first_struck struck channel ≡ channel
first_is None channel same = refl
first_is (Some other) channel same = same_channel other channel same

no_later : (s : Stand) (first next : Strike) → IsUpTo s first → IsNext s next → IsNoLater first next
no_later s first next upto from = (omega (arith, upto.scan, from.scan), λ same. omega (arith, upto.turn (same ∙ from.scan), from.turn))

-- ---- How a case stands.

-- a case that can be run so far, and how it stands
pub record RunsUpTo (net : Network) (statements : List Statement) (s : Stand) : Type 0 where
  pub runs : IsRunnable net statements
  pub faults : All (IsUpTo s) (faults_in statements)
  pub times : All (λ t. t ≤ s.time) (times_in statements)

module _ (net : Network) (statements : List Statement) (s : Stand) (line : ℕ) (settings : List Setting) (before : RunsUpTo net statements s) (of_inputs : AreOfInputs net settings) where
  -- the statement of a line that does this
  abbrev said : Act → Statement
  said a = record { line = line; settings = settings; act = a }

  abbrev more : Act → List Statement
  more a = statements ++ said a ∷ []

  inputs_push : (a : Act) → All (λ (t : Statement). AreOfInputs net t.settings) (more a)
  inputs_push a = All-push (λ (t : Statement). AreOfInputs net t.settings) statements (said a) before.runs.inputs of_inputs

  times_push : (a : Act) → times_in (more a) ≡ times_in statements ++ times_made a
  times_push a = flat_map-append (λ (t : Statement). times_made t.act) statements (said a ∷ []) ∙ ap (λ (ts : List ℕ). times_in statements ++ ts) (append-nil (times_made a))

  -- what makes no scan leaves the times
  same_times : (a : Act) → times_made a ≡ [] → times_in (more a) ≡ times_in statements
  same_times a none = times_push a ∙ ap (λ (ts : List ℕ). times_in statements ++ ts) none ∙ append-nil (times_in statements)

  -- what is no fault leaves the faults
  same_faults : (a : Act) → fault_made a ≡ None → faults_in (more a) ≡ faults_in statements
  same_faults a none =
      filter_map-append (λ (t : Statement). fault_made t.act) statements (said a ∷ []) ∙ grind (arith, common_steps, append-nil (faults_in statements))

  pub still : (a : Act) → times_made a ≡ [] → fault_made a ≡ None → RunsUpTo net (more a) s
  still a no_times no_fault = record {
    runs = record {
      ordered = subst AreInOrder (sym (same_faults a no_fault)) before.runs.ordered;
      one_channel = subst AreOfOneChannel (sym (same_faults a no_fault)) before.runs.one_channel;
      rising = subst (λ (ts : List ℕ). IsNonDecreasing (0 ∷ ts)) (sym (same_times a no_times)) before.runs.rising;
      inputs = inputs_push a;
    };
    faults = subst (All (IsUpTo s)) (sym (same_faults a no_fault)) before.faults;
    times = subst (All (λ t. t ≤ s.time)) (sym (same_times a no_times)) before.times;
  }

  pub fault_more : (fault : Strike) → IsNext s fault → RunsUpTo net (more (act.Fault fault)) (stand_after line s (act.Fault fault))
  fault_more fault next =
      let a : Act = act.Fault fault in
      let pushed : faults_in (more a) ≡ faults_in statements ++ fault ∷ [] = filter_map-append (λ (t : Statement). fault_made t.act) statements (said a ∷ []) in
      let after : Stand = stand_after line s a in
      record {
        runs = record {
          ordered = subst AreInOrder (sym pushed) (all_pairs_push IsNoLater (faults_in statements) fault before.runs.ordered (λ k d within. no_later s (get_or (faults_in statements) k d) fault (before.faults k d within) next));
          one_channel = subst AreOfOneChannel (sym pushed) (all_pairs_push (λ (f g : Strike). f.channel ≡ g.channel) (faults_in statements) fault before.runs.one_channel
              (λ k d within. one_channel s.struck (get_or (faults_in statements) k d).channel fault.channel (before.faults k d within).first next.first));
          rising = subst (λ (ts : List ℕ). IsNonDecreasing (0 ∷ ts)) (sym (same_times a refl)) before.runs.rising;
          inputs = inputs_push a;
        };
        faults = subst (All (IsUpTo after)) (sym pushed) (All-push (IsUpTo after) (faults_in statements) fault
            (λ k d within. let first = get_or (faults_in statements) k d in let upto = before.faults k d within in let later = no_later s first fault upto next in
            record { scan = upto.scan; turn = λ same. later.1 (same ∙ sym next.scan); first = ap (λ (c : Option Channel). Some (first_struck c fault.channel)) upto.first })
            record { scan = omega (arith, next.scan); turn = λ same. omega arith; first = ap (λ (c : Channel). Some c) (first_is s.struck fault.channel next.first) });
        times = subst (All (λ t. t ≤ s.time)) (sym (same_times a refl)) before.times;
      }

  -- the faults so far, after scans
  behind_scans : (pace : Pace) (fault : Strike) → IsUpTo s fault → IsUpTo (stand_after line s (act.Scans pace)) fault
  behind_scans pace fault upto = record { scan = omega (arith, upto.scan); turn = λ same. made pace.count same; first = upto.first }
    where
      made : (count : ℕ) → fault.scan ≡ s.scans + count + 1 → fault.turn ≤ unless_made count s.turn
      made zero same = upto.turn (omega (arith, same))
      made (suc count) same = absurd (omega (arith, same, upto.scan))

  pub scans_more : (pace : Pace) → GoesOn s pace → RunsUpTo net (more (act.Scans pace)) (stand_after line s (act.Scans pace))
  scans_more pace on =
      let a : Act = act.Scans pace in
      let from : All (λ t. s.time ≤ t) (times_of pace) = subst (λ (n : ℕ). All (λ t. n ≤ t) (times_of pace)) on.from (pace_from pace on.upto) in
      let later : All (λ t. t ≤ pace.upto) (times_in statements) = All-weaker (λ t. t ≤ s.time) (λ t. t ≤ pace.upto) (λ t early. omega (arith, on.from, on.upto)) (times_in statements) before.times in
      record {
        runs = record {
          ordered = subst AreInOrder (sym (same_faults a refl)) before.runs.ordered;
          one_channel = subst AreOfOneChannel (sym (same_faults a refl)) before.runs.one_channel;
          rising = subst (λ (ts : List ℕ). IsNonDecreasing (0 ∷ ts)) (sym (times_push a))
              (rising_append (0 ∷ times_in statements) (times_of pace) s.time before.runs.rising (pace_rises pace) (All-cons (λ t. t ≤ s.time) 0 (times_in statements) (omega arith) before.times) from);
          inputs = inputs_push a;
        };
        faults = subst (All (IsUpTo (stand_after line s a))) (sym (same_faults a refl)) (All-weaker (IsUpTo s) (IsUpTo (stand_after line s a)) (behind_scans pace) (faults_in statements) before.faults);
        times = subst (All (λ t. t ≤ pace.upto)) (sym (times_push a)) (All-append (λ t. t ≤ pace.upto) (times_in statements) (times_of pace) later (pace_upto pace));
      }

  -- a line goes on with a case that can be run so far
  pub runs_more : (a : Act) → IsBehind s a → RunsUpTo net (more a) (stand_after line s a)
  runs_more (act.Scans pace) on = scans_more pace on
  runs_more (act.Fault fault) next = fault_more fault next
  runs_more act.Set is = still act.Set refl refl
  runs_more act.Restart is = still act.Restart refl refl
  runs_more (act.Expect what) is = still (act.Expect what) refl refl
