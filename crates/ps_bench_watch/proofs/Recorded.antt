-- What comes of a call with an application.
use Rattle.std.proofs.Common.{Result, Ok, Err, ◌≡◌, ◌≤◌, ◌++◌, ℕ, Bool, List, [], ◌∷◌, IsTrue, Option, Some, None, append-nil, inr, refl, sym, subst, arith}
use Rattle.std.specs.List.{Any}
use Rattle.std.specs.Prelude.{IfErr, IsSome, OnOk}
use Rattle.ps_bench_frame.proofs.Stopped.{rose_since}
use Rattle.ps_bench_frame.specs.Ending.{IsUnread}
use Rattle.ps_bench_frame.specs.Opening.{IsOfApp, Source, source}
use Rattle.ps_bench_frame.specs.Stopping.{StopsAtLog}
use Rattle.ps_bench_frame.specs.declared.ending.Stop.{Stop}
use Rattle.ps_bench_cases.specs.Writing.{TookBeginning}
use Rattle.ps_bench_logs.specs.Log.{End, log_of}
use Rattle.ps_bench_logs.specs.Log.End.{refused}
use Rattle.ps_bench_logs.specs.declared.flaw.LogRefusal.{LogRefusal}
use Rattle.ps_model.specs.Network.{Network}
use Rattle.ps_model.specs.declared.channel.ImageSizes.{ImageSizes}
use Rattle.ps_outside.specs.Outside.{Rose}
use Rattle.ps_bench_logs.specs.Recording.{IsRead, Leaves, log_trace}
use Rattle.ps_bench_logs.specs.declared.recording.RecordFail.{RecordFail}
use Rattle.ps_bench_logs.specs.declared.recording.RecordFail.TheVariants.{Memory, Fault, Unwritten, Refused}
use Rattle.ps_bench_watch.specs.Tracing.{AnswersIn, AnswersTrace, StopsRefusing, StopsTrace, WhereTold}

-- what a name holds that holds something, with what is so of it
with_text : (P : List ℕ → Type 0) (held : Option (List ℕ)) → IsSome held → ((text : List ℕ) → held ≡ Some text → P text) →
    (text : List ℕ) × (held ≡ Some text) × P text
with_text P (Some text) some gives = (text, refl, gives text refl)
with_text P None some gives = let no : ⊥ = cc in absurd no

-- what is so of the text that was read
pub of_text : (from : Source) (log : List ℕ) (tells : Bool) (P : List ℕ → Type 0) → (IsTrue from.tells → IsSome (from.held log)) →
    (IsTrue from.tells → IsTrue tells → (text : List ℕ) → from.held log ≡ Some text → P text) → WhereTold from log tells P
of_text from log tells P found gives = λ told out. with_text P (from.held log) (found told) (λ text held. gives told out text held)

-- a trace that was to be written and of which a beginning was
pub began : (bytes : List ℕ) (end : End) (before after : List ℕ) (fail : RecordFail) → Leaves bytes end before after (Err fail) →
    TookBeginning before bytes after
began bytes end before after (Refused refusal) (ends, took) = (bytes, [], took, append-nil bytes)
began bytes end before after Memory leaves = leaves
began bytes end before after Fault leaves = leaves
began bytes end before after Unwritten leaves = leaves

-- a call stops at a refused line, after the trace of what stands before it
pub refused_at : (net : Network) (sizes : ImageSizes) (log : List ℕ) (reading : Bool) (held : List ℕ → Option (List ℕ))
    (tells mid_tells : Bool) (before mid after : List ℕ) (fail : RecordFail) (refusal : LogRefusal) (stop : Stop) →
    fail ≡ Refused refusal → mid_tells ≡ tells → (IsTrue reading → IsRead {A = Unit {0}} (Err fail) → IsSome (held log)) →
    (IsTrue reading → IsTrue tells → (text : List ℕ) → held log ≡ Some text →
    Leaves (log_trace net text) (log_of net text).end before mid (Err fail)) →
    StopsAtLog refusal mid_tells mid after stop → StopsRefusing (source net sizes reading held) log tells before after stop
refused_at net sizes log reading held tells mid_tells before mid after fail refusal stop is same found gives by = (
  refusal,
  mid,
  of_text (source net sizes reading held) log tells
      (λ text. ((log_of net text).end ≡ refused refusal) × (mid ≡ before ++ log_trace net text))
      (λ told. found told (subst (λ (why : RecordFail). IsRead {A = Unit {0}} (Err why)) (sym is) tt))
      (λ told out text at. subst (λ (why : RecordFail). Leaves (log_trace net text) (log_of net text).end before mid (Err why)) is
      (gives told out text at)),
  subst (λ (tell : Bool). StopsAtLog refusal tell mid after stop) same by,
)

-- what was answered of an application, and why the call stopped, by what it came to
pub answered : (net : Network) (sizes : ImageSizes) (app log : List ℕ) (reading : Bool)
    (held : List ℕ → Option (List ℕ)) (tells : Bool) (before after : List ℕ) (ended : Result (Unit {0}) Stop) →
    IsOfApp (source net sizes reading held) app → AnswersIn (source net sizes reading held) log tells before after ended →
    OnOk ended (AnswersTrace app log reading held tells before after)
answered net sizes app log reading held tells before after (Ok done) of answers = (net, sizes, of, answers)
answered net sizes app log reading held tells before after (Err stop) of answers = tt

pub stops : (net : Network) (sizes : ImageSizes) (app log : List ℕ) (reading : Bool)
    (held : List ℕ → Option (List ℕ)) (tells : Bool) (before after : List ℕ) (ended : Result (Unit {0}) Stop) →
    IsOfApp (source net sizes reading held) app → AnswersIn (source net sizes reading held) log tells before after ended →
    IfErr ended (StopsTrace app log reading held tells before after)
stops net sizes app log reading held tells before after (Ok done) of answers = tt
stops net sizes app log reading held tells before after (Err stop) of answers = inr (net, sizes, of, answers)

-- the same from what stands before a call that changes none of it
pub moved : (net : Network) (sizes : ImageSizes) (log : List ℕ) (r r' : Bool)
    (h h' : List ℕ → Option (List ℕ)) (t t' : Bool) (b b' after : List ℕ) (ended : Result (Unit {0}) Stop) →
    r' ≡ r → h' ≡ h → t' ≡ t → b' ≡ b →
    AnswersIn (source net sizes r' h') log t' b' after ended → AnswersIn (source net sizes r h) log t b after ended
moved net sizes log r r' h h' t t' b b' after ended r_is h_is t_is b_is answers =
    subst (λ (x : Bool). AnswersIn (source net sizes x h) log t b after ended) r_is
    (subst (λ (x : List ℕ → Option (List ℕ)). AnswersIn (source net sizes r' x) log t b after ended) h_is
    (subst (λ (x : Bool). AnswersIn (source net sizes r' h') log x b after ended) t_is
    (subst (λ (x : List ℕ). AnswersIn (source net sizes r' h') log t' x after ended) b_is answers)))

-- the log could not be read, of two files
pub unread_since : (reads mid reads' : List ℕ → ℕ) (app log : List ℕ) (ended : Result (Unit {0}) Stop) → reads log ≤ mid log →
    IfErr ended (λ stop. IsUnread stop → Rose (mid log) (reads' log)) →
    IfErr ended (λ stop. IsUnread stop → Any (λ (name : List ℕ). Rose (reads name) (reads' name)) (app ∷ log ∷ []))
unread_since reads mid reads' app log (Ok done) on unread = tt
unread_since reads mid reads' app log (Err stop) on unread =
    λ is. (1, log, omega arith, refl, rose_since (reads log) (mid log) (reads' log) on (unread is))
