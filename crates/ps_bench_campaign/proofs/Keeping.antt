-- The course of a trace that is held, and of what a word means.
use Rattle.std.proofs.Common.{◌≡◌, ◌∙◌, ◌++◌, ℕ, Bool, List, Option, None, Some, Result, Ok, Err, inl, inr, sym, ap, subst, arith}
use Rattle.std.specs.Prelude.{IfNone, IfOk}
use Rattle.std.proofs.lemmas.Option.{same_Some}
use Rattle.ps_base.specs.declared.failing.Refusal.{Refusal}
use Rattle.ps_bench_frame.specs.Opening.{Source}
use Rattle.ps_bench_frame.specs.Stopping.{Took}
use Rattle.ps_bench_frame.specs.declared.ending.Input.TheVariants.{Trace}
use Rattle.ps_bench_frame.specs.declared.ending.InputStop.TheVariants.{Refused}
use Rattle.ps_bench_frame.specs.declared.ending.Stop.{Stop}
use Rattle.ps_bench_frame.specs.declared.ending.Stop.TheVariants.{Input}
use Rattle.ps_bench_campaign.specs.declared.recorder.Course.{Course}
use Rattle.ps_model.specs.Network.{Network}
use Rattle.ps_model.specs.declared.channel.Fault.{Fault}
use Rattle.ps_outside.specs.Outside.{Rose}
use Rattle.ps_report.specs.Short.{refusal_text}
use Rattle.ps_bench_trials.specs.Naming.{Names, digest_text}
use Rattle.ps_bench_trace.specs.Opening.{SaysRefusal}
use Rattle.ps_bench_trace.specs.Playing.{IsPlay}
use Rattle.ps_bench_campaign.specs.Recorded.{IsCourseOf, RecordsHeld, RecordsWord}
use Rattle.ps_bench_campaign.specs.declared.recording.Recorded.{Recorded}

-- what holds of a value within a value, where both are there
pub of_both : {X E M : Type 0} (P : X → Type 0) (r : Result (Result X E) M) (x : X) → r ≡ Ok (Ok x) → IfOk r (λ q. IfOk q P) → P x
of_both P (Ok (Ok y)) x is holds = let same : y ≡ x = cc in subst P same holds
of_both P (Ok (Err e)) x is holds = cc
of_both P (Err m) x is holds = cc

-- a course with what names its trace is of the trace that is held
pub records : (net : Network) (held : Option (List ℕ)) (text : List ℕ) (course : Course) (name : List ℕ) → held ≡ Some text →
    IsCourseOf net text course → Names held name → RecordsHeld net held (record { course = course; name = name })
records net held text course name is are names = (
  text,
  is,
  are,
  names.2 ∙ ap digest_text (same_Some names.0 text (sym names.1 ∙ is)),
)

-- what is held where a word stands is what the word means
pub word_recorded : (from : Source) (word : List ℕ) (faults : List Fault) (held : Option (List ℕ)) (r : Recorded) →
    ((trace : List ℕ) → held ≡ Some trace → IsPlay from word trace faults) → RecordsHeld from.net held r → RecordsWord from word r
word_recorded from word faults held r means (trace, is, are, named) = (trace, faults, means trace is, are, named)

-- what holds of a value that is given holds of it
pub of_given : {X E : Type 0} (P : X → Type 0) (r : Result X E) (x : X) → r ≡ Ok x → IfOk r P → P x
of_given P (Ok y) x is holds = let same : y ≡ x = cc in subst P same holds
of_given P (Err e) x is holds = cc

-- what holds where there is no value holds there
pub of_none : {X : Type 0} (P : Type 0) (o : Option X) → o ≡ None → IfNone o P → P
of_none P None is holds = holds
of_none P (Some x) is holds = cc

-- a count that is nothing did not rise
pub none_rose : {P : Type 0} → Rose 0 0 → P
none_rose (inl more) = let no : ⊥ = omega (arith, more) in absurd no
none_rose (inr last) = let no : ⊥ = omega (arith, last) in absurd no

-- where a line says why a trace is refused, that is why
pub said_refusal : (refusal r : Refusal) (stop : Stop) (tells : Bool) (before after : List ℕ) → SaysRefusal Trace refusal tells before after stop →
    stop ≡ Input (Refused Trace r) → (refusal ≡ r) × Took (refusal_text r) tells before after
said_refusal refusal r stop tells before after (inl said) is =
    let same : refusal ≡ r = let there = said.0 in cc in
    (same, λ told. said.1 told ∙ ap (λ (x : Refusal). before ++ refusal_text x) same)
said_refusal refusal r stop tells before after (inr said) is = let there = said.0 in cc
