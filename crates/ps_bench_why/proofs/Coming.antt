-- What comes of a call with an application.
use Rattle.std.proofs.Common.{◌≡◌, ◌≤◌, ℕ, Bool, List, [], ◌∷◌, Any, Option, Result, Ok, Err, inr, refl, subst, arith}
use Rattle.std.specs.Prelude.{IfErr, IfOk}
use Rattle.ps_bench_frame.proofs.Stopped.{rose_since}
use Rattle.ps_bench_frame.specs.Ending.{IsUnread}
use Rattle.ps_bench_frame.specs.Opening.{IsOfApp, source}
use Rattle.ps_bench_frame.specs.declared.ending.Status.{Status}
use Rattle.ps_bench_frame.specs.declared.ending.Stop.{Stop}
use Rattle.ps_model.specs.Network.{Network}
use Rattle.ps_model.specs.declared.channel.ImageSizes.{ImageSizes}
use Rattle.ps_outside.specs.Outside.{Rose}
use Rattle.ps_bench_why.specs.Asking.{AnswersIn, AnswersWhy, StopsWhy, Wanted}

-- what was answered of an application, and why the call stopped, by what it came to
pub answered : (net : Network) (sizes : ImageSizes) (app : List ℕ) (wanted : Wanted) (reading : Bool)
    (held : List ℕ → Option (List ℕ)) (tells : Bool) (before after : List ℕ) (ended : Result Status Stop) →
    IsOfApp (source net sizes reading held) app →
    AnswersIn (source net sizes reading held) app wanted tells before after ended →
    IfOk ended (AnswersWhy app wanted reading held tells before after)
answered net sizes app wanted reading held tells before after (Ok status) of answers = (net, sizes, of, answers)
answered net sizes app wanted reading held tells before after (Err stop) of answers = tt

pub stops : (net : Network) (sizes : ImageSizes) (app : List ℕ) (wanted : Wanted) (reading : Bool)
    (held : List ℕ → Option (List ℕ)) (tells : Bool) (before after : List ℕ) (ended : Result Status Stop) →
    IsOfApp (source net sizes reading held) app →
    AnswersIn (source net sizes reading held) app wanted tells before after ended →
    IfErr ended (StopsWhy app wanted reading held tells before after)
stops net sizes app wanted reading held tells before after (Ok status) of answers = tt
stops net sizes app wanted reading held tells before after (Err stop) of answers = inr (net, sizes, of, answers)

-- the same from what stands before a call that changes none of it
pub moved : (net : Network) (sizes : ImageSizes) (app : List ℕ) (wanted : Wanted) (r r' : Bool)
    (h h' : List ℕ → Option (List ℕ)) (t t' : Bool) (b b' after : List ℕ) (ended : Result Status Stop) →
    r' ≡ r → h' ≡ h → t' ≡ t → b' ≡ b →
    AnswersIn (source net sizes r' h') app wanted t' b' after ended →
    AnswersIn (source net sizes r h) app wanted t b after ended
moved net sizes app wanted r r' h h' t t' b b' after ended r_is h_is t_is b_is answers =
    subst (λ (x : Bool). AnswersIn (source net sizes x h) app wanted t b after ended) r_is
    (subst (λ (x : List ℕ → Option (List ℕ)). AnswersIn (source net sizes r' x) app wanted t b after ended) h_is
    (subst (λ (x : Bool). AnswersIn (source net sizes r' h') app wanted x b after ended) t_is
    (subst (λ (x : List ℕ). AnswersIn (source net sizes r' h') app wanted t' x after ended) b_is answers)))

-- a file could not be read, of two
pub unread_since : (reads mid reads' : List ℕ → ℕ) (app trace : List ℕ) (ended : Result Status Stop) → reads trace ≤ mid trace →
    IfErr ended (λ stop. IsUnread stop → Rose (mid trace) (reads' trace)) →
    IfErr ended (λ stop. IsUnread stop → Any (λ (name : List ℕ). Rose (reads name) (reads' name)) (app ∷ trace ∷ []))
unread_since reads mid reads' app trace (Ok status) on unread = tt
unread_since reads mid reads' app trace (Err stop) on unread =
    λ is. (1, trace, omega arith, refl, rose_since (reads trace) (mid trace) (reads' trace) on (unread is))
