-- How a call ends, by what it came to.
use Rattle.std.proofs.Common.{Result, Ok, Err, ◌≡◌, ◌⊎◌, ℕ, Bool, List, Option, inl, inr, subst}
use Rattle.std.specs.Prelude.{IfErr, IfOk}
use Rattle.ps_base.specs.declared.failing.Refusal.{Refusal}
use Rattle.ps_bench_frame.specs.Ending.{IsUnread}
use Rattle.ps_bench_frame.specs.Opening.{IsOfApp, source}
use Rattle.ps_bench_frame.specs.declared.ending.Status.{Status}
use Rattle.ps_bench_frame.specs.declared.ending.Stop.{Stop}
use Rattle.ps_bench_watch.specs.LiveAsking.{AnswersLive, Ends, Fed, Runs, StopsAtLine, StopsLive}
use Rattle.ps_bench_watch.specs.declared.living.LiveStop as living
use Rattle.ps_bench_watch.specs.declared.living.LiveStop.{LiveStop}
use Rattle.ps_model.specs.Network.{Network}
use Rattle.ps_model.specs.declared.channel.ImageSizes.{ImageSizes}
use Rattle.ps_outside.specs.Outside.{Rose}

-- a run stopped by this
pub ran : (by_name : Bool) (net : Network) (from : Fed) (tells : Bool) (before after : List ℕ) (why other : LiveStop) → why ≡ other →
    Runs by_name net from tells before after (Err why) → Runs by_name net from tells before after (Err other)
ran by_name net from tells before after why other is runs = subst (λ (x : LiveStop). Runs by_name net from tells before after (Err x)) is runs

-- a call stops at a line that is refused, after what is said of those before
pub at_line : (by_name : Bool) (net : Network) (from : Fed) (tells mid_tells : Bool) (before mid after : List ℕ) (why : LiveStop) (refusal : Refusal) (stop : Stop) →
    why ≡ living.TheVariants.Refused refusal → mid_tells ≡ tells → Runs by_name net from tells before mid (Err why) →
    StopsAtLine refusal mid_tells mid after stop → Ends by_name net from tells before after (Err stop)
at_line by_name net from tells mid_tells before mid after why refusal stop is same runs stops = inl (
  refusal,
  mid,
  ran by_name net from tells before mid why (living.TheVariants.Refused refusal) is runs,
  subst (λ (tell : Bool). StopsAtLine refusal tell mid after stop) same stops,
)

-- the same from what stands before a call that changes none of it
pub moved : (by_name : Bool) (net : Network) (from : Fed) (t t' : Bool) (b b' after : List ℕ) (ended : Result Status Stop) → t' ≡ t → b' ≡ b →
    Ends by_name net from t' b' after ended → Ends by_name net from t b after ended
moved by_name net from t t' b b' after ended t_is b_is ends =
    subst (λ (x : Bool). Ends by_name net from x b after ended) t_is (subst (λ (x : List ℕ). Ends by_name net from t' x after ended) b_is ends)

-- what was answered of an application, and why the call stopped, by what it came to
pub answered : (by_name : Bool) (net : Network) (sizes : ImageSizes) (app : List ℕ) (from : Fed) (reading : Bool) (held : List ℕ → Option (List ℕ))
    (tells : Bool) (before after : List ℕ) (ended : Result Status Stop) → IsOfApp (source net sizes reading held) app →
    Ends by_name net from tells before after ended → IfOk ended (AnswersLive app by_name from reading held tells before after)
answered by_name net sizes app from reading held tells before after (Ok status) of ends = (net, sizes, of, ends)
answered by_name net sizes app from reading held tells before after (Err stop) of ends = tt

pub stopped : (by_name : Bool) (net : Network) (sizes : ImageSizes) (app : List ℕ) (from : Fed) (reading : Bool) (held : List ℕ → Option (List ℕ))
    (tells : Bool) (before after : List ℕ) (ended : Result Status Stop) → IsOfApp (source net sizes reading held) app →
    Ends by_name net from tells before after ended → IfErr ended (StopsLive app by_name from reading held tells before after)
stopped by_name net sizes app from reading held tells before after (Ok status) of ends = tt
stopped by_name net sizes app from reading held tells before after (Err stop) of ends = inr (net, sizes, of, ends)

-- the stream could not be read, so the application or the stream could not
pub unread_of_two : (reads reads' fed fed' : ℕ) (ended : Result Status Stop) → IfErr ended (λ stop. IsUnread stop → Rose fed fed') →
    IfErr ended (λ stop. IsUnread stop → Rose reads reads' ⊎ Rose fed fed')
unread_of_two reads reads' fed fed' (Ok status) unread = tt
unread_of_two reads reads' fed fed' (Err stop) unread = λ is. inr (unread is)
