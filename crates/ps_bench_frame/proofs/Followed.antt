-- A trace that was followed: from what its reader and the loop over its items promise.
use Rattle.std.proofs.Common.{◌≡◌, ◌≢◌, ℕ, List, [], Option, Some, Result, Ok, Err, refl, subst, inl, inr, arith}
use Rattle.ps_base.specs.declared.failing.Refusal.{Refusal}
use Rattle.ps_model.specs.Meaning.{Item}
use Rattle.ps_model.specs.Network.{Network}
use Rattle.ps_outside.specs.Outside.{Rose}
use Rattle.ps_outside.specs.declared.text_fail.TextFail.{TextFail}
use Rattle.ps_outside.specs.declared.text_fail.TextFail.TheVariants as text_fail
use Rattle.ps_runs.specs.Doing.{Did, refused}
use Rattle.ps_runs.specs.Outcomes.{Outcome}
use Rattle.ps_runs.specs.declared.items.Cut.{Cut}
use Rattle.ps_runs.specs.declared.items.Cut.TheVariants as cut
use Rattle.ps_trace.specs.Reading.{only_refused}
use Rattle.ps_trace.specs.Scans.{Scans, scans_of}
use Rattle.ps_bench_frame.specs.Ending.{IsOfRun, IsUnread}
use Rattle.ps_bench_frame.specs.Following.{IsFollowed, cut_short, no_trace}
use Rattle.ps_bench_frame.specs.declared.ending.Input.TheVariants.{Trace}
use Rattle.ps_bench_frame.specs.declared.ending.InputStop.TheVariants.{Refused}
use Rattle.ps_bench_frame.specs.declared.ending.Stop.TheVariants.{Input, Unwritten}

-- a count that stays 0 never rises
pub never_rose : Rose 0 0 → ⊥
never_rose (inl more) = omega (arith, more)
never_rose (inr last) = omega (arith, last)

-- a trace of which no item was to be done
pub headless : {P T V : Type 0} (performs : P → Item → Outcome V → P → Type 0) (said : T → P → Outcome V → List ℕ) (takes : T → P → Outcome V → T → Type 0)
    (net : Network) (held : Option (List ℕ)) (text : List ℕ) (p : P) (t : T) (refusal : Refusal) →
    held ≡ Some text → scans_of text net ≡ only_refused refusal →
    IsFollowed performs said takes net held p p t t (Err (cut.Refused refusal))
headless performs said takes net held text p t refusal is same = (text, is, [], refused 0 p t (scans_of text net) refusal same)

-- one whose items were done up to an end
pub followed : {P T V : Type 0} (performs : P → Item → Outcome V → P → Type 0) (said : T → P → Outcome V → List ℕ) (takes : T → P → Outcome V → T → Type 0)
    (net : Network) (held : Option (List ℕ)) (text : List ℕ) (time : ℕ) (left : Scans) (p p' : P) (t t' : T) (bytes : List ℕ) (ended end : Result (Unit {0}) Cut) →
    held ≡ Some text → time ≡ 0 → left ≡ scans_of text net → ended ≡ end → Did performs said takes time p t left bytes ended p' t' →
    IsFollowed performs said takes net held p p' t t' end
followed performs said takes net held text time left p p' t t' bytes ended end is at same ends did = (
  text,
  is,
  bytes,
  subst (λ (n : ℕ). Did performs said takes n p t (scans_of text net) bytes end p' t') at
      (subst (λ (s : Scans). Did performs said takes time p t s bytes end p' t') same
      (subst (λ (e : Result (Unit {0}) Cut). Did performs said takes time p t left bytes e p' t') ends did)),
)

-- ---- why a call stops

pub no_trace_refused : (why : TextFail) (refusal : Refusal) → no_trace why ≡ Input (Refused Trace refusal) → why ≡ text_fail.Refused refusal
no_trace_refused (text_fail.Refused r) refusal is = cc
no_trace_refused text_fail.Fault refusal is = cc
no_trace_refused text_fail.Memory refusal is = cc

pub no_trace_unread : (why : TextFail) → IsUnread (no_trace why) → why ≡ text_fail.Fault
no_trace_unread (text_fail.Refused r) is = cc
no_trace_unread text_fail.Fault is = refl
no_trace_unread text_fail.Memory is = cc

pub no_trace_of_run : (why : TextFail) → IsOfRun (no_trace why)
no_trace_of_run (text_fail.Refused r) = tt
no_trace_of_run text_fail.Fault = tt
no_trace_of_run text_fail.Memory = tt

pub no_trace_no_write : (why : TextFail) → no_trace why ≢ Unwritten
no_trace_no_write (text_fail.Refused r) is = cc
no_trace_no_write text_fail.Fault is = cc
no_trace_no_write text_fail.Memory is = cc

pub cut_refused : (c : Cut) (refusal : Refusal) → cut_short c ≡ Input (Refused Trace refusal) → c ≡ cut.Refused refusal
cut_refused (cut.Refused r) refusal is = cc
cut_refused cut.Unread refusal is = cc
cut_refused cut.Unwritten refusal is = cc

pub cut_unread : (c : Cut) → IsUnread (cut_short c) → c ≡ cut.Unread
cut_unread (cut.Refused r) is = cc
cut_unread cut.Unread is = refl
cut_unread cut.Unwritten is = cc

pub cut_of_run : (c : Cut) → IsOfRun (cut_short c)
cut_of_run (cut.Refused r) = tt
cut_of_run cut.Unread = tt
cut_of_run cut.Unwritten = tt

pub cut_no_write : (c : Cut) → cut_short c ≡ Unwritten → c ≡ cut.Unwritten
cut_no_write (cut.Refused r) is = cc
cut_no_write cut.Unread is = cc
cut_no_write cut.Unwritten is = refl
