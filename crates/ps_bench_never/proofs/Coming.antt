-- What comes of a call with an application.
use Rattle.std.proofs.Common.{Result, Ok, Err, ◌≡◌, ◌≤◌, ℕ, Bool, List, [], ◌∷◌, Any, Option, Some, None, inr, refl, subst, arith}
use Rattle.std.specs.Prelude.{IfErr, IfOk, IsSome}
use Rattle.ps_bench_frame.proofs.Stopped.{rose_since}
use Rattle.ps_bench_frame.specs.Ending.{IsUnread}
use Rattle.ps_bench_frame.specs.Opening.{IsOfApp, source}
use Rattle.ps_bench_frame.specs.declared.ending.Status.{Status}
use Rattle.ps_bench_frame.specs.declared.ending.Stop.{Stop}
use Rattle.ps_model.specs.Network.{Network}
use Rattle.ps_model.specs.declared.channel.ImageSizes.{ImageSizes}
use Rattle.ps_outside.specs.Outside.{Rose}
use Rattle.ps_bench_never.specs.Asking.{AnswersIn, AnswersNever, StopsNever}

-- what a name holds that holds something, with what is so of it
pub with_text : (P : List ℕ → Type 0) (held : Option (List ℕ)) → IsSome held → ((text : List ℕ) → held ≡ Some text → P text) →
    (text : List ℕ) × (held ≡ Some text) × P text
with_text P (Some text) some gives = (text, refl, gives text refl)
with_text P None some gives = let no : ⊥ = cc in absurd no

-- what was answered of an application, and why the call stopped, by what it came to
pub answered : (net : Network) (sizes : ImageSizes) (app rules : List ℕ) (states : ℕ) (reading : Bool)
    (held : List ℕ → Option (List ℕ)) (tells : Bool) (before after : List ℕ) (ended : Result Status Stop) →
    IsOfApp (source net sizes reading held) app →
    AnswersIn (source net sizes reading held) rules states tells before after ended →
    IfOk ended (AnswersNever app rules states reading held tells before after)
answered net sizes app rules states reading held tells before after (Ok status) of answers = (net, sizes, of, answers)
answered net sizes app rules states reading held tells before after (Err stop) of answers = tt

pub stops : (net : Network) (sizes : ImageSizes) (app rules : List ℕ) (states : ℕ) (reading : Bool)
    (held : List ℕ → Option (List ℕ)) (tells : Bool) (before after : List ℕ) (ended : Result Status Stop) →
    IsOfApp (source net sizes reading held) app →
    AnswersIn (source net sizes reading held) rules states tells before after ended →
    IfErr ended (StopsNever app rules states reading held tells before after)
stops net sizes app rules states reading held tells before after (Ok status) of answers = tt
stops net sizes app rules states reading held tells before after (Err stop) of answers = inr (net, sizes, of, answers)

-- the same from what stands before a call that changes none of it
pub moved : (net : Network) (sizes : ImageSizes) (rules : List ℕ) (states : ℕ) (r r' : Bool)
    (h h' : List ℕ → Option (List ℕ)) (t t' : Bool) (b b' after : List ℕ) (ended : Result Status Stop) →
    r' ≡ r → h' ≡ h → t' ≡ t → b' ≡ b →
    AnswersIn (source net sizes r' h') rules states t' b' after ended →
    AnswersIn (source net sizes r h) rules states t b after ended
moved net sizes rules states r r' h h' t t' b b' after ended r_is h_is t_is b_is answers =
    subst (λ (x : Bool). AnswersIn (source net sizes x h) rules states t b after ended) r_is
    (subst (λ (x : List ℕ → Option (List ℕ)). AnswersIn (source net sizes r' x) rules states t b after ended) h_is
    (subst (λ (x : Bool). AnswersIn (source net sizes r' h') rules states x b after ended) t_is
    (subst (λ (x : List ℕ). AnswersIn (source net sizes r' h') rules states t' x after ended) b_is answers)))

-- the rules could not be read, of two files
pub unread_since : (reads mid reads' : List ℕ → ℕ) (app rules : List ℕ) (ended : Result Status Stop) → reads rules ≤ mid rules →
    IfErr ended (λ stop. IsUnread stop → Rose (mid rules) (reads' rules)) →
    IfErr ended (λ stop. IsUnread stop → Any (λ (name : List ℕ). Rose (reads name) (reads' name)) (app ∷ rules ∷ []))
unread_since reads mid reads' app rules (Ok status) on unread = tt
unread_since reads mid reads' app rules (Err stop) on unread =
    λ is. (1, rules, omega arith, refl, rose_since (reads rules) (mid rules) (reads' rules) on (unread is))
