-- What is heard of a command while it does what the words ask.
use Rattle.std.proofs.Common.{◌≡◌, ◌⊎◌, ◌∙◌, ℕ, Bool, IsTrue, List, Option, Result, Ok, Err, ap, refl, sym, inl, inr}
use Rattle.ps_bench_frame.specs.Ending.{stop_status}
use Rattle.ps_bench_frame.specs.declared.ending.Status.{Status}
use Rattle.ps_bench_frame.specs.declared.ending.Status.TheVariants.{Done, Refused, Usage, BadInput, Failed, ReadFault, WriteFault, Memory}
use Rattle.ps_bench_frame.specs.declared.ending.Stop.{Stop}
use Rattle.ps_bench_frame.specs.declared.ending.Stop.TheVariants.{Unwritten}
use Rattle.ps_bench_messages.specs.Remarking.{RemarksIf}
use Rattle.ps_bench_words.specs.Asking.{Asked}
use Rattle.ps_bench_words.specs.Asking.Asked.{Test, Expand, Watch, Trace, Why, Cover, Never, Same, Campaign, Live}
use Rattle.ps_bench_words.specs.Asking.Asked.{Sum, Report, Page, NotTaken}
use Rattle.ps_edge.specs.Hearing.{ListenerSeen}
use Rattle.ps_bench_main.specs.Hearing.{HearsMeanwhile, ended_status}

-- who asks for no messages hears no remark
quiet_usage : (IsText : List ℕ → Type 0) (ended : Result Status Stop) (who : ListenerSeen) (after : List ℕ) →
    RemarksIf (ended ≡ Ok Usage) IsText who after → IsTrue who.quiet → after ≡ who.heard
quiet_usage IsText (Ok Usage) who after remarks quiet = (remarks.remarked refl).quiet quiet
quiet_usage IsText (Ok Done) who after remarks quiet = remarks.silent (λ is. cc)
quiet_usage IsText (Ok Refused) who after remarks quiet = remarks.silent (λ is. cc)
quiet_usage IsText (Ok BadInput) who after remarks quiet = remarks.silent (λ is. cc)
quiet_usage IsText (Ok Failed) who after remarks quiet = remarks.silent (λ is. cc)
quiet_usage IsText (Ok ReadFault) who after remarks quiet = remarks.silent (λ is. cc)
quiet_usage IsText (Ok WriteFault) who after remarks quiet = remarks.silent (λ is. cc)
quiet_usage IsText (Ok Memory) who after remarks quiet = remarks.silent (λ is. cc)
quiet_usage IsText (Err stop) who after remarks quiet = remarks.silent (λ is. cc)

-- and nothing at all
pub quiet_meanwhile : (asked : Asked) (reading : Bool) (held : List ℕ → Option (List ℕ)) (ended : Result Status Stop) (who : ListenerSeen)
    (after : List ℕ) → HearsMeanwhile asked reading held ended who after → IsTrue who.quiet → after ≡ who.heard
quiet_meanwhile (Test app cases format) reading held ended who after hears quiet = hears quiet
quiet_meanwhile (Expand app cases) reading held ended who after hears quiet = hears
quiet_meanwhile (Watch app trace names faults layout) reading held ended who after hears quiet = quiet_usage _ ended who after hears quiet
quiet_meanwhile (Trace app csv) reading held ended who after hears quiet = hears
quiet_meanwhile (Why app trace time name output) reading held ended who after hears quiet = quiet_usage _ ended who after hears quiet
quiet_meanwhile (Cover app traces output least ideas) reading held ended who after hears quiet = hears quiet
quiet_meanwhile (Never app rules states) reading held ended who after hears quiet = hears
quiet_meanwhile (Same app other rules states) reading held ended who after hears quiet = hears quiet
quiet_meanwhile (Campaign app trace from count channel print) reading held ended who after hears quiet =
    quiet_usage _ ended who after hears quiet
quiet_meanwhile (Sum files) reading held ended who after hears quiet = hears
quiet_meanwhile (Report app cases title) reading held ended who after hears quiet = hears
quiet_meanwhile (Live app names) reading held ended who after hears quiet = hears
quiet_meanwhile (Page text) reading held ended who after hears quiet = hears
quiet_meanwhile NotTaken reading held ended who after hears quiet = hears

-- the status of a call whose command ended so, or whose output was not handed on
pub cut_by : (done : Result Status Stop) (stop : Stop) (status : Status) → (done ≡ Err stop) ⊎ (stop ≡ Unwritten) → status ≡ stop_status stop →
    (status ≡ ended_status done) ⊎ (status ≡ WriteFault)
cut_by done stop status (inl is) same = inl (same ∙ sym (ap ended_status is))
cut_by done stop status (inr is) same = inr (same ∙ ap stop_status is)
