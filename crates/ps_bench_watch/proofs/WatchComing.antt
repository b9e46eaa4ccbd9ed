-- What comes of a call for a run.
use Rattle.std.proofs.Common.{Result, Ok, ◌≡◌, ◌≢◌, ◌⊎◌, ℕ, Bool, true, false, IsTrue, List, Option, Some, Err, inl, inr, refl, sym, subst}
use Rattle.std.proofs.lemmas.Bool.{true≢false}
use Rattle.ps_base.specs.declared.failing.Refusal.{Refusal}
use Rattle.std.specs.Prelude.{IfErr, IfOk}
use Rattle.ps_bench_frame.specs.Ending.{IsUnread}
use Rattle.ps_bench_frame.specs.Opening.{IsOfApp, source}
use Rattle.ps_bench_frame.specs.declared.ending.Status.{Status}
use Rattle.ps_bench_words.specs.declared.asking.Layout.{Layout}
use Rattle.ps_model.specs.declared.channel.ImageSizes.{ImageSizes}
use Rattle.ps_bench_frame.specs.declared.ending.Input.TheVariants.{Trace}
use Rattle.ps_bench_frame.specs.declared.ending.InputStop.TheVariants.{Refused}
use Rattle.ps_bench_frame.specs.declared.ending.Stop.{Stop}
use Rattle.ps_bench_frame.specs.declared.ending.Stop.TheVariants.{Input}
use Rattle.ps_bench_names.specs.declared.name.Name.{Name}
use Rattle.ps_model.specs.Meaning.{Item}
use Rattle.ps_model.specs.Network.{Network}
use Rattle.ps_model.specs.Scanning.{State}
use Rattle.ps_bench_watch.specs.Asking.{AnswersIn, AnswersWatch, StopsWatch}
use Rattle.ps_bench_watch.specs.Showing.{ComesOfHeld, ComesOfRun, IsRunEnd, MakesRun, RefusesHeader, Run, Wanted}

-- the trace could not be opened
pub comes_headless : (net : Network) (text : List Item → List State → List ℕ) (held : Option (List ℕ)) (tells : Bool)
    (before after : List ℕ) (stop : Stop) →
    ((refusal : Refusal) → stop ≡ Input (Refused Trace refusal) →
    (trace : List ℕ) × (held ≡ Some trace) × RefusesHeader net trace refusal tells before after) →
    IsRunEnd (Err stop) → ComesOfHeld net text held tells before after (Err stop)
comes_headless net text held tells before after stop refuses (inl is) = cc
comes_headless net text held tells before after stop refuses (inr end) =
    let same : stop ≡ Input (Refused Trace end.0) = let is = end.1 in cc in
    let refused = refuses end.0 same in
    (refused.0, refused.1, inr (end.0, end.1, refused.2))

-- of a call that stops without a run nothing is so but that a read that failed left the output as it was
pub none_made : (Comes : Type 0) (tells : Bool) (before after : List ℕ) (stop : Stop) →
    ((refusal : Refusal) → stop ≢ Input (Refused Trace refusal)) → (IsUnread stop → after ≡ before) →
    MakesRun Comes tells before after (Err stop)
none_made Comes tells before after stop never unsaid = record { to_end = to_end; unread = λ is. inr (λ tell. unsaid is) }
  where
    to_end : IsRunEnd (Err stop) → Comes
    to_end (inl is) = cc
    to_end (inr end) = absurd (never end.0 (let is = end.1 in cc))

-- what is so of one run only where the files tell is so at all, or something else is
pub where_told : (tells : Bool) (A B : Type 0) → (IsTrue tells → A ⊎ B) → (IsTrue tells → A) ⊎ B
where_told true A B h = elim (h refl) [ inl a ↦ inl (λ told. a) | inr b ↦ inr b ]
where_told false A B h = inl (λ told. absurd (true≢false (sym told)))

-- what was answered of an application, and why the call stopped, by what it came to
pub answered : (net : Network) (sizes : ImageSizes) (app : List ℕ) (layout : Layout) (wanted : Wanted) (reading : Bool)
    (held : List ℕ → Option (List ℕ)) (tells : Bool) (before after : List ℕ) (ended : Result Status Stop) →
    IsOfApp (source net sizes reading held) app →
    AnswersIn (source net sizes reading held) layout wanted tells before after ended →
    IfOk ended (AnswersWatch app layout wanted reading held tells before after)
answered net sizes app layout wanted reading held tells before after (Ok status) of answers = (net, sizes, of, answers)
answered net sizes app layout wanted reading held tells before after (Err stop) of answers = tt

pub stops : (net : Network) (sizes : ImageSizes) (app : List ℕ) (layout : Layout) (wanted : Wanted) (reading : Bool)
    (held : List ℕ → Option (List ℕ)) (tells : Bool) (before after : List ℕ) (ended : Result Status Stop) →
    IsOfApp (source net sizes reading held) app →
    AnswersIn (source net sizes reading held) layout wanted tells before after ended →
    IfErr ended (StopsWatch app layout wanted reading held tells before after)
stops net sizes app layout wanted reading held tells before after (Ok status) of answers = tt
stops net sizes app layout wanted reading held tells before after (Err stop) of answers = inr (net, sizes, of, answers)

-- the same from what stands before a call that changes none of it
pub moved : (net : Network) (sizes : ImageSizes) (layout : Layout) (wanted : Wanted) (r r' : Bool)
    (h h' : List ℕ → Option (List ℕ)) (t t' : Bool) (b b' after : List ℕ) (ended : Result Status Stop) →
    r' ≡ r → h' ≡ h → t' ≡ t → b' ≡ b →
    AnswersIn (source net sizes r' h') layout wanted t' b' after ended →
    AnswersIn (source net sizes r h) layout wanted t b after ended
moved net sizes layout wanted r r' h h' t t' b b' after ended r_is h_is t_is b_is answers =
    subst (λ (x : Bool). AnswersIn (source net sizes x h) layout wanted t b after ended) r_is
    (subst (λ (x : List ℕ → Option (List ℕ)). AnswersIn (source net sizes r' x) layout wanted t b after ended) h_is
    (subst (λ (x : Bool). AnswersIn (source net sizes r' h') layout wanted x b after ended) t_is
    (subst (λ (x : List ℕ). AnswersIn (source net sizes r' h') layout wanted t' x after ended) b_is answers)))

-- so it is with a run
pub moved_run : (net : Network) (sizes : ImageSizes) (text : Run → List Item → List State → List ℕ)
    (by_default : List Name) (wanted : Wanted) (r r' : Bool) (h h' : List ℕ → Option (List ℕ)) (t t' : Bool)
    (b b' after : List ℕ) (ended : Result (Unit {0}) Stop) → r' ≡ r → h' ≡ h → t' ≡ t → b' ≡ b →
    ComesOfRun (source net sizes r' h') text by_default wanted t' b' after ended →
    ComesOfRun (source net sizes r h) text by_default wanted t b after ended
moved_run net sizes text by_default wanted r r' h h' t t' b b' after ended r_is h_is t_is b_is comes =
    subst (λ (x : Bool). ComesOfRun (source net sizes x h) text by_default wanted t b after ended) r_is
    (subst (λ (x : List ℕ → Option (List ℕ)). ComesOfRun (source net sizes r' x) text by_default wanted t b after ended) h_is
    (subst (λ (x : Bool). ComesOfRun (source net sizes r' h') text by_default wanted x b after ended) t_is
    (subst (λ (x : List ℕ). ComesOfRun (source net sizes r' h') text by_default wanted t' x after ended) b_is comes)))
