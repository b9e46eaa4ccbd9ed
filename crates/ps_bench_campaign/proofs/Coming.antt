-- What comes of a call with an application.
use Rattle.std.proofs.Common.{◌≡◌, ◌≤◌, ℕ, Bool, List, Any, Option, Result, Ok, Err, inr, sym, subst}
use Rattle.std.specs.Prelude.{IfErr, IfOk}
use Rattle.ps_bench_frame.proofs.Stopped.{rose_since}
use Rattle.ps_bench_frame.specs.Ending.{IsUnread}
use Rattle.ps_bench_frame.specs.Opening.{IsOfApp, source}
use Rattle.ps_bench_frame.specs.declared.ending.Status.{Status}
use Rattle.ps_bench_frame.specs.declared.ending.Stop.{Stop}
use Rattle.ps_model.specs.Network.{Network}
use Rattle.ps_model.specs.declared.channel.Fault.{Fault}
use Rattle.ps_model.specs.declared.channel.ImageSizes.{ImageSizes}
use Rattle.ps_outside.specs.Outside.{Rose}
use Rattle.ps_bench_trace.specs.Playing.{MeansPlay}
use Rattle.ps_bench_campaign.specs.Asking.{AnswersCampaign, AnswersIn, StopsCampaign, Wanted}

-- what was answered of an application, and why the call stopped, by what it came to
pub answered : (net : Network) (sizes : ImageSizes) (app : List ℕ) (wanted : Wanted) (reading : Bool)
    (held : List ℕ → Option (List ℕ)) (tells : Bool) (before after : List ℕ) (ended : Result Status Stop) →
    IsOfApp (source net sizes reading held) app →
    AnswersIn (source net sizes reading held) app wanted tells before after ended →
    IfOk ended (AnswersCampaign app wanted reading held tells before after)
answered net sizes app wanted reading held tells before after (Ok status) of answers = (net, sizes, of, answers)
answered net sizes app wanted reading held tells before after (Err stop) of answers = tt

pub stops : (net : Network) (sizes : ImageSizes) (app : List ℕ) (wanted : Wanted) (reading : Bool)
    (held : List ℕ → Option (List ℕ)) (tells : Bool) (before after : List ℕ) (ended : Result Status Stop) →
    IsOfApp (source net sizes reading held) app →
    AnswersIn (source net sizes reading held) app wanted tells before after ended →
    IfErr ended (StopsCampaign app wanted reading held tells before after)
stops net sizes app wanted reading held tells before after (Ok status) of answers = tt
stops net sizes app wanted reading held tells before after (Err stop) of answers = inr (net, sizes, of, answers)

-- the same from what stands before a call that changes none of it
pub moved : (net : Network) (sizes : ImageSizes) (app : List ℕ) (wanted : Wanted) (r r' : Bool)
    (h h' : List ℕ → Option (List ℕ)) (t t' : Bool) (b b' after : List ℕ) (ended : Result Status Stop) →
    r' ≡ r → h' ≡ h → t' ≡ t → b' ≡ b →
    AnswersIn (source net sizes r' h') app wanted t' b' after ended →
    AnswersIn (source net sizes r h) app wanted t b after ended
moved net sizes app wanted r r' h h' t t' b b' after ended r_is h_is t_is b_is answers =
    subst (λ (x : Bool). AnswersIn (source net sizes x h) app wanted t b after ended) r_is
    (subst (λ (x : List ℕ → Option (List ℕ)). AnswersIn (source net sizes r' x) app wanted t b after ended) h_is
    (subst (λ (x : Bool). AnswersIn (source net sizes r' h') app wanted x b after ended) t_is
    (subst (λ (x : List ℕ). AnswersIn (source net sizes r' h') app wanted t' x after ended) b_is answers)))

-- a file of these could not be read since before, where it could not since later
pub any_since : (reads mid reads' : List ℕ → ℕ) (names : List (List ℕ)) (ended : Result Status Stop) →
    ((name : List ℕ) → reads name ≤ mid name) →
    IfErr ended (λ stop. IsUnread stop → Any (λ (name : List ℕ). Rose (mid name) (reads' name)) names) →
    IfErr ended (λ stop. IsUnread stop → Any (λ (name : List ℕ). Rose (reads name) (reads' name)) names)
any_since reads mid reads' names (Ok status) on unread = tt
any_since reads mid reads' names (Err stop) on unread = λ is.
    let some = unread is in
    (some.0, some.1, some.2, some.3, rose_since (reads some.1) (mid some.1) (reads' some.1) (on some.1) some.4)

-- what was made ready means what the word means, by what stands after a call that changes none of it
pub means_since : (net : Network) (sizes : ImageSizes) (word : List ℕ) (cases : Option (List ℕ)) (faults : List Fault) (r r' : Bool)
    (h h' : List ℕ → Option (List ℕ)) → r' ≡ r → h' ≡ h → MeansPlay (source net sizes r h) word cases faults →
    MeansPlay (source net sizes r' h') word cases faults
means_since net sizes word cases faults r r' h h' r_is h_is means =
    subst (λ (x : Bool). MeansPlay (source net sizes x h') word cases faults) (sym r_is)
    (subst (λ (x : List ℕ → Option (List ℕ)). MeansPlay (source net sizes r x) word cases faults) (sym h_is) means)
