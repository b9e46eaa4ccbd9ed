-- A call that was cut off.
use Rattle.std.proofs.Common.{◌≡◌, ◌⊎◌, ◌∙◌, ℕ, Bool, false, List, Option, Result, Ok, Err, ap, subst, inl, inr}
use Rattle.std.specs.Prelude.{IfOk, IfErr}
use Rattle.ps_bench_frame.specs.Ending.{stop_status}
use Rattle.ps_bench_frame.specs.declared.ending.Status.{Status}
use Rattle.ps_bench_frame.specs.declared.ending.Stop.{Stop}
use Rattle.ps_bench_frame.specs.declared.ending.Stop.TheVariants.{Unwritten}
use Rattle.ps_bench_messages.specs.Telling.{IsTold, Named}
use Rattle.ps_bench_words.specs.Asking.{Asked}
use Rattle.ps_edge.specs.Heard.{IsHeard}
use Rattle.ps_edge.specs.Hearing.{ListenerSeen}
use Rattle.ps_bench_watch.specs.LiveAsking.{Fed}
use Rattle.ps_bench_main.specs.Answering.{Answers, IsCutOff, Stops}

-- what came of a call that stopped, or whose output was not handed on at its end
pub cut_off : (asked : Asked) (input : Fed) (reading : Bool) (held : List ℕ → Option (List ℕ)) (tells : Bool) (before after : List ℕ)
    (IsHeardOf : Stop → Type 0) (done : Result Status Stop) (stop : Stop) (status : Status) →
    IfOk done (λ all. Answers asked input reading held all tells before after) →
    IfErr done (λ why. Stops asked input reading held why tells before after) →
    (done ≡ Err stop) ⊎ (stop ≡ Unwritten) → status ≡ stop_status stop → IsHeardOf stop →
    IsCutOff asked input reading held status tells before after IsHeardOf
cut_off asked input reading held tells before after IsHeardOf (Ok all) stop status answers stops (inl is) same heard = cc
cut_off asked input reading held tells before after IsHeardOf (Err why) stop status answers stops (inl is) same heard =
    let one : why ≡ stop = cc in
    inl (stop, subst (λ (s : Stop). Stops asked input reading held s tells before after) one stops, inl (same, heard))
cut_off asked input reading held tells before after IsHeardOf (Ok all) stop status answers stops (inr is) same heard =
    inr (all, answers, same ∙ ap stop_status is, subst IsHeardOf is heard)
cut_off asked input reading held tells before after IsHeardOf (Err why) stop status answers stops (inr is) same heard =
    inl (why, stops, inr (same ∙ ap stop_status is, subst IsHeardOf is heard))

-- what is heard by names is heard by the same names of what is asked
pub heard_by : (who : ListenerSeen) (names named : Named) (stop : Stop) (after : List ℕ) (IsSo : Bool → Type 0) → names ≡ named →
    (is_closed : Bool) × IsSo is_closed × IsHeard is_closed (IsTold who names stop) false who after →
    (is_closed : Bool) × IsSo is_closed × IsHeard is_closed (IsTold who named stop) false who after
heard_by who names named stop after IsSo same heard =
    subst (λ (n : Named). (is_closed : Bool) × IsSo is_closed × IsHeard is_closed (IsTold who n stop) false who after) same heard
