-- What `cover` comes to of its traces, whatever is written of that.
use Rattle.std.specs.Prelude.{◌≡◌, ◌⊎◌, Any, Bool, true, false, IsTrue, ℕ, List, [], Option, Some, Result, Ok, Err, slice_get, take}
use Rattle.ps_bench_frame.specs.Ending.{stop_at}
use Rattle.ps_bench_frame.specs.Meant.{file_meant}
use Rattle.ps_bench_frame.specs.Opening.{Source}
use Rattle.ps_bench_frame.specs.Seen.{Texts}
use Rattle.ps_bench_frame.specs.declared.answering.Answer.{Answer}
use Rattle.ps_bench_frame.specs.declared.ending.Status.TheVariants.{Usage}
use Rattle.ps_bench_frame.specs.declared.ending.Stop.{Stop}
use Rattle.ps_bench_frame.specs.declared.ending.Stop.TheVariants.{NoMemory}
use Rattle.ps_bench_trace.specs.Coming.{IsWhyAtWord, IsWhyNoTrace}
use Rattle.ps_bench_trace.specs.Playing.{LacksCase, trace_held}
use Rattle.ps_bench_trace.specs.Refusing.{RefusesHeld}
use Rattle.ps_cover.specs.Applying.{ScanStep}
use Rattle.ps_cover.specs.Seen.{Known}
use Rattle.ps_cover.specs.Tallied.{KnowsTraces}
use Rattle.ps_cover.specs.declared.cover.Cover.{Cover}
use Rattle.ps_model.specs.Network.{Network}
use Rattle.ps_bench_cover.specs.Adding.{AddsHeld, AddsWord, AreScansAll}
use Rattle.ps_bench_cover.specs.Asking.{IsKnown, Wanted, cover_text, status_of}

-- what the trace of these cases, or else of the file that a word names, comes to: its scans are added, or it is refused
abbrev pub ComesOfTrace : Network → (cases : Option (List ℕ)) → (word : List ℕ) → Texts → (old new : Cover) →
    Result (Unit {0}) Stop → Type 0
ComesOfTrace net cases word texts old new (Ok done) =
    IsTrue texts.tells → AddsHeld net (trace_held cases (texts.held (file_meant word))) old new
ComesOfTrace net cases word texts old new (Err stop) =
    IsWhyNoTrace (λ refusal. IsTrue texts.tells → RefusesHeld net (trace_held cases (texts.held (file_meant word))) refusal)
    stop

-- what a word comes to: its scans are added; its line is in no case; or it stops there
abbrev pub ComesOfWord : Source → (word : List ℕ) → (old new : Cover) → Result Bool Stop → Type 0
ComesOfWord from word old new (Ok true) = IsTrue from.tells → AddsWord from word old new
ComesOfWord from word old new (Ok false) = LacksCase from word
ComesOfWord from word old new (Err stop) = IsWhyAtWord from word stop

-- Why it stops among words: at one of them, by its place, after others the traces of which are whole.
pub record IsWhyAmong (from : Source) (words : List (List ℕ)) (stop : Stop) : Type 0 where
  pub place : ℕ
  pub word : List ℕ
  pub named : slice_get words place ≡ Some word
  pub done : IsTrue from.tells → (traces : List (List ScanStep)) × AreScansAll from (take place words) traces
  pub why : Stop
  pub at : IsWhyAtWord from word why
  pub is : stop ≡ stop_at place why

-- what words come to, in order
abbrev pub ComesOfWords : Source → (words : List (List ℕ)) → (old new : Cover) → Result Bool Stop → Type 0
ComesOfWords from words old new (Ok true) =
    IsTrue from.tells → (traces : List (List ScanStep)) × AreScansAll from words traces × KnowsTraces from.net traces old new
ComesOfWords from words old new (Ok false) = Any (LacksCase from) words
ComesOfWords from words old new (Err stop) = IsWhyAmong from words stop

-- What `cover` comes to with an application: what the traces show, of which this is told; or a word means a line that is
-- in no case; or it stops at one of its traces, or if memory runs out.
abbrev pub CoverOf : Source → (app : List ℕ) → Wanted → Result Answer Stop → Type 0
CoverOf from app wanted (Ok answer) =
    ((known : Known) × IsKnown from app wanted.traces known × (answer.status ≡ status_of wanted.least known)
    × (answer.text ≡ cover_text wanted known))
    ⊎ ((answer.status ≡ Usage) × Any (LacksCase from) wanted.traces × (answer.text ≡ []))
CoverOf from app wanted (Err stop) = (stop ≡ NoMemory) ⊎ IsWhyAmong from wanted.traces stop
