-- How a call ends, by what it came to: an answer, or why it stops.
use Rattle.std.specs.Prelude.{◌≡◌, ◌≢◌, ◌⊎◌, ℕ, Bool, List, [], Result, Ok, Err, IsErr, IsErrOf}
use Rattle.ps_outside.specs.Outside.{Rose}
use Rattle.ps_report.specs.Short.{refusal_text}
use Rattle.ps_bench_frame.specs.Refusing.{log_refused_line, refused_line, rules_refused_line, sum_refused_line}
use Rattle.ps_bench_frame.specs.Seen.{CallSeen, KeepsOutput}
use Rattle.ps_bench_frame.specs.Stopping.{Took, TookNothing, TookSome}
use Rattle.ps_bench_frame.specs.declared.answering.Answer.{Answer}
use Rattle.ps_bench_frame.specs.declared.ending.InputStop.{InputStop}
use Rattle.ps_bench_frame.specs.declared.ending.InputStop.TheVariants.{Refused, RulesRefused, LogRefused, SumRefused}
use Rattle.ps_bench_frame.specs.declared.ending.InputStop.TheVariants.{OtherRefused, Unlike, Unread}
use Rattle.ps_bench_frame.specs.declared.ending.Status.{Status}
use Rattle.ps_bench_frame.specs.declared.ending.Stop.{Stop}
use Rattle.ps_bench_frame.specs.declared.ending.Stop.TheVariants.{App, Cases, UnreadApp, UnreadCases, Input}
use Rattle.ps_bench_frame.specs.declared.ending.Stop.TheVariants.{Unwritten, NoMemory}

-- the line of a refusal of what a run is made of; nothing where a call stops for another reason
abbrev pub input_stop_text : InputStop → List ℕ
input_stop_text (Refused input refusal) = refusal_text refusal
input_stop_text (RulesRefused refusal) = rules_refused_line refusal
input_stop_text (LogRefused refusal) = log_refused_line refusal
input_stop_text (SumRefused refusal) = sum_refused_line refusal
input_stop_text (OtherRefused refusal) = refusal_text refusal
input_stop_text Unlike = []
input_stop_text (Unread input) = []

-- the line of a refusal; nothing where a call stops for another reason
abbrev pub stop_text : Stop → List ℕ
stop_text (App refusal) = refusal_text refusal
stop_text (Cases place refusal) = refused_line refusal
stop_text (Input why) = input_stop_text why
stop_text UnreadApp = []
stop_text (UnreadCases place) = []
stop_text Unwritten = []
stop_text NoMemory = []

-- what is written at the end of a call
abbrev pub text_at_end : Result Answer Stop → List ℕ
text_at_end (Ok answer) = answer.text
text_at_end (Err stop) = stop_text stop

-- how a call ends whose last text is written
abbrev pub end_of : Result Answer Stop → Result Status Stop
end_of (Ok answer) = Ok answer.status
end_of (Err stop) = Err stop

-- A call ends so, with this text, or at a beginning of it, where a write failed.
abbrev pub EndsWith : (text : List ℕ) → (end : Result Status Stop) → (tells : Bool) (before after : List ℕ) →
    Result Status Stop → Type 0
EndsWith text end tells before after ended =
    ((ended ≡ end) × Took text tells before after)
    ⊎ ((ended ≡ Err Unwritten) × (text ≢ []) × TookSome text tells before after)

-- How a call ends that came to this: all of its last text was written; or a beginning, where a write failed; or
-- nothing, where memory runs out for the line of a refusal.
abbrev pub Ends : Result Answer Stop → (tells : Bool) (before after : List ℕ) → Result Status Stop → Type 0
Ends came tells before after ended =
    EndsWith (text_at_end came) (end_of came) tells before after ended
    ⊎ ((ended ≡ Err NoMemory) × IsErr came × TookNothing tells before after)

-- How a call ends that comes to something of which this holds.
abbrev pub EndsBy : (Result Answer Stop → Type 0) → (tells : Bool) (before after : List ℕ) → Result Status Stop → Type 0
EndsBy Comes tells before after ended = (came : Result Answer Stop) × Comes came × Ends came tells before after ended

-- What is left at the end: no file was read, and where nothing can be written the count of the output rose.
pub record WritesEnd (end : Result Status Stop) (old new : CallSeen) (ended : Result Status Stop) : Type 0 where
  pub unwritten : IsErrOf ended Unwritten → ¬ IsErrOf end Unwritten → Rose old.out.faults new.out.faults
  pub keeps : KeepsOutput old.out new.out
  pub files : new.files ≡ old.files
  pub loans : new.loans ≡ old.loans
