-- What is told of a scan that was found.
use Rattle.std.proofs.Common.{◌≡◌, ◌∙◌, ◌<◌, ℕ, false, List, Some, length, map, sym, ap, subst, inl, inr, arith}
use Rattle.std.specs.Prelude.{option_map, slice_get, slice_index_or}
use Rattle.std.proofs.lemmas.List.{length-map}
use Rattle.std.proofs.lemmas.Option.{same_Some, slice_get-map, slice_get_within}
use Rattle.ps_bench_why.specs.Moments.{Moment}
use Rattle.ps_model.proofs.Once.{element_at}
use Rattle.ps_model.specs.Meaning.{old_state, passed}
use Rattle.ps_model.specs.Network.{Network, instance_count}
use Rattle.ps_bench_why.specs.Looking.{IsLook}
use Rattle.ps_bench_why.specs.Scanned.{Scanned, behind}
use Rattle.ps_bench_why.specs.Walking.{IsWalkerFor}
use Rattle.ps_bench_why.specs.declared.walker.LastScan.{LastScan}
use Rattle.ps_bench_why.specs.declared.walker.Since.{Since}
use Rattle.ps_bench_why.specs.declared.walker.Walker.{Walker}
use Rattle.ps_machine.specs.Calls.{input_pin}
use Rattle.ps_why.specs.Questions.{IsAnswered, IsAskedFor}
use Rattle.ps_why.specs.Scenes.{IsCallFor, IsCallOf, IsSceneFor, IsSceneOf}
use Rattle.ps_why.specs.declared.keeping.Stepped.{Stepped}
use Rattle.ps_why.specs.declared.questions.Question.{Question}
use Rattle.ps_why.specs.declared.questions.Question.TheVariants.{Signal, Instance, Pin}
use Rattle.ps_why.specs.declared.call.CallScene.{CallScene}
use Rattle.ps_why.specs.declared.scene.Scene.{Scene}
use Rattle.ps_why.specs.declared.fact.Fact.{Fact}
use Rattle.ps_bench_why.specs.Reasoned.{IsAsked, IsMomentOf, IsOfQuestion}

-- what is answered is told
pub asked_for : (net : Network) (x : Scene) (q : Question) (told : Fact → Type 0) → IsAnswered net x q told → IsAsked net q told
asked_for net x (Signal s) told a = (slice_index_or x.signals.behind.now s false, a)
asked_for net x (Instance i) told ((fact, (c, at, is), t), each) =
    ((c.code, subst told is t), λ j within. (slice_index_or x.signals.behind.now _ false, each j within))
asked_for net x (Pin i j) told (fact, (k, at, is), t) =
    (k, at, (input_pin net x.signals.before.now x.signals.behind.now i j, subst told is t))

-- what is asked for in what is seen is asked for
pub of_question : (net : Network) (x : Scene) (q : Question) (fact : Fact) → IsAskedFor net x q fact → IsOfQuestion net q fact
of_question net x (Signal s) fact is = (slice_index_or x.signals.behind.now s false, is)
of_question net x (Instance i) fact (inl (c, at, is)) = inl (c.code, is)
of_question net x (Instance i) fact (inr (j, below, is)) = inr (j, below, slice_index_or x.signals.behind.now _ false, is)
of_question net x (Pin i j) fact (k, at, is) = (k, at, input_pin net x.signals.before.now x.signals.behind.now i j, is)

-- ---- The scan that was found, as it is seen.

-- what is seen of an instance is kept of it
seen_kept : (kept : List Stepped) (i : ℕ) (c : CallScene) → slice_get (map (λ (s : Stepped). s.call) kept) i ≡ Some c →
    (s : Stepped) × (slice_get kept i ≡ Some s) × (s.call ≡ c)
seen_kept kept i c at =
    let within : i < length kept = omega (arith, slice_get_within (map (λ (s : Stepped). s.call) kept) i c at, length-map kept (λ (s : Stepped). s.call)) in
    let one = element_at kept i within in
    let here : Some one.0.call ≡ Some c =
    sym (ap (option_map (λ (s : Stepped). s.call)) one.1) ∙ sym (slice_get-map (λ (s : Stepped). s.call) kept i) ∙ at in
    (one.0, one.1, same_Some one.0.call c here)

module _ (net : Network) (w : Walker) (x : Scene) (before : x.signals.before.now ≡ w.evaluator.before.signals)
    (after : x.signals.behind.now ≡ w.evaluator.behind.signals) (calls : x.calls.now ≡ map (λ (s : Stepped). s.call) w.kept.items) where
  pub scene_for : IsWalkerFor net w → IsSceneFor net x
  scene_for fits = record {
    before = ap length before ∙ fits.evaluator.before.signal_each;
    behind = ap length after ∙ fits.evaluator.behind.signal_each;
    each = ap length calls ∙ length-map w.kept.items (λ (s : Stepped). s.call) ∙ fits.kept.each;
    calls = λ i c at.
        let one = seen_kept w.kept.items i c (ap (λ (cs : List CallScene). slice_get cs i) (sym calls) ∙ at) in
        subst (IsCallFor net i) one.2 (fits.kept.are i one.0 one.1).call;
  }

  pub scene_of : (s : Scanned) → IsLook net s w → IsSceneOf net (old_state net s.past) (passed s.past s.now) s.new x
  scene_of s look = record {
    before = before ∙ look.old;
    behind = after ∙ look.new;
    calls = λ i c at.
        let one = seen_kept w.kept.items i c (ap (λ (cs : List CallScene). slice_get cs i) (sym calls) ∙ at) in
        subst (λ (call : CallScene). IsCallOf net (old_state net s.past) (passed s.past s.now) s.new i call) one.2 (look.calls i one.0 one.1);
  }

-- the time since when an instance is in its state, among those of all
noted_at : (f : Since → ℕ) (since : List Since) (i n : ℕ) → ((noted : Since) → slice_get since i ≡ Some noted → f noted ≡ n) → i < length since →
    slice_get (map f since) i ≡ Some n
noted_at f since i n is within =
    let one = element_at since i within in
    slice_get-map f since i ∙ ap (option_map f) one.1 ∙ ap Some (is one.0 one.1)

pub moment_of_scan : (net : Network) (w : Walker) (s : Scanned) (times : LastScan) (m : Moment) → IsWalkerFor net w → IsLook net s w → w.last ≡ Some times →
    m.net ≡ net → m.now ≡ times.now → m.before ≡ times.before →
    m.since_before ≡ map (λ (s : Since). s.before) w.since.items → m.since ≡ map (λ (s : Since). s.behind) w.since.items →
    length m.calls ≡ instance_count net →
    ((i : ℕ) (c : CallScene) → slice_get m.calls i ≡ Some c → IsCallOf net (old_state net s.past) (passed s.past s.now) s.new i c) → IsMomentOf net s m
moment_of_scan net w s times m fits look last net_is now_is before_is was_is is_is each calls =
    let same : look.times.0 ≡ times = same_Some look.times.0 times (sym look.times.1 ∙ last) in
    record {
      of = net_is;
      now = now_is ∙ ap (λ (t : LastScan). t.now) (sym same) ∙ look.times.2.now;
      before = before_is ∙ ap (λ (t : LastScan). t.before) (sym same) ∙ look.times.2.before;
      since_before = λ i within.
          ap (λ (ns : List ℕ). slice_get ns i) was_is
          ∙ noted_at (λ (n : Since). n.before) w.since.items i (s.before i) (λ noted at. (look.since i noted at).before) (omega (arith, within, fits.since));
      since = λ i within.
          ap (λ (ns : List ℕ). slice_get ns i) is_is
          ∙ noted_at (λ (n : Since). n.behind) w.since.items i (behind s i) (λ noted at. (look.since i noted at).behind) (omega (arith, within, fits.since));
      each = each;
      calls = calls;
    }
