-- A trace that is refused where a word stands.
use Rattle.std.proofs.Common.{◌≡◌, ℕ, Bool, List, Option, Some, None, subst}
use Rattle.std.specs.Prelude.{IfSome}
use Rattle.ps_base.specs.declared.failing.Refusal.{Refusal}
use Rattle.ps_bench_frame.specs.Opening.{Source}
use Rattle.ps_bench_frame.specs.declared.ending.Stop.{Stop}
use Rattle.ps_model.specs.declared.channel.Fault.{Fault}
use Rattle.ps_bench_trace.specs.Playing.{IsPlay}
use Rattle.ps_bench_trace.specs.Refusing.{RefusesHeld, RefusesWord, StopsAtTrace}

-- what stops at a trace for these refusals stops for weaker ones
pub stops_weaker : (P Q : Refusal → Type 0) (stop : Stop) (tells : Bool) (before after : List ℕ) → ((r : Refusal) → P r → Q r) →
    StopsAtTrace P stop tells before after → StopsAtTrace Q stop tells before after
stops_weaker P Q stop tells before after weaker stops = record {
  of_run = stops.of_run;
  refuses = λ refusal is. let why = stops.refuses refusal is in (weaker refusal why.0, why.1);
}

-- what is refused where a word stands is what the word means
pub word_refused : (from : Source) (word : List ℕ) (faults : List Fault) (held : Option (List ℕ)) (refusal : Refusal) →
    ((trace : List ℕ) → held ≡ Some trace → IsPlay from word trace faults) → RefusesHeld from.net held refusal → RefusesWord from word refusal
word_refused from word faults held refusal means (trace, is, ends) = (trace, faults, means trace is, ends)

-- how a call stops, from what stands before a call that changes none of it
pub stops_moved : (P : Refusal → Type 0) (stop : Stop) (t' t : Bool) (b' b after : List ℕ) → t' ≡ t → b' ≡ b →
    StopsAtTrace P stop t' b' after → StopsAtTrace P stop t b after
stops_moved P stop t' t b' b after t_is b_is stops =
    subst (λ (x : Bool). StopsAtTrace P stop x b after) t_is (subst (λ (x : List ℕ). StopsAtTrace P stop t' x after) b_is stops)

-- what holds of a value, if there is one, holds of the one that is there
pub of_some : {X : Type 0} (P : X → Type 0) (o : Option X) (x : X) → o ≡ Some x → IfSome o P → P x
of_some P None x is holds = cc
of_some P (Some y) x is holds = let same : y ≡ x = cc in subst P same holds
