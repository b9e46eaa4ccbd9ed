-- What a word in the place of a trace comes to, whatever is written of that.
use Rattle.std.specs.Prelude.{◌≡◌, ◌⊎◌, IsTrue, ℕ, List, Option, Some, None, Result, Ok, Err}
use Rattle.ps_base.specs.declared.failing.Refusal.{Refusal}
use Rattle.ps_bench_frame.specs.Ending.{IsOfRun}
use Rattle.ps_bench_frame.specs.Meant.{file_meant, word_meant}
use Rattle.ps_bench_frame.specs.Opening.{Source}
use Rattle.ps_bench_frame.specs.Stopping.{IsWhyNoCases}
use Rattle.ps_bench_frame.specs.declared.ending.Input.TheVariants.{Trace}
use Rattle.ps_bench_frame.specs.declared.ending.InputStop.TheVariants.{Refused}
use Rattle.ps_bench_frame.specs.declared.ending.Stop.{Stop}
use Rattle.ps_bench_frame.specs.declared.ending.Stop.TheVariants.{Input}
use Rattle.ps_bench_frame.specs.declared.meant.Part.{Part}
use Rattle.ps_trace.specs.FaultOrder.{AreInOrder, AreOfOneChannel}
use Rattle.ps_bench_trace.specs.Playing.{LacksCaseOf, MeansPart}
use Rattle.ps_bench_trace.specs.Refusing.{RefusesWord}
use Rattle.ps_bench_trace.specs.declared.playing.Play.{Play}

-- What a part of a file comes to: what is run, with faults in order and of one channel; no case has its line; or the
-- file gives no cases, for this reason.
abbrev pub ComesToPart : Source → (name : List ℕ) → Part → Result (Option Play) Stop → Type 0
ComesToPart from name part (Ok (Some play)) =
    MeansPart from name part play.cases play.faults × AreInOrder play.faults × AreOfOneChannel play.faults
ComesToPart from name part (Ok None) = LacksCaseOf from name part
ComesToPart from name part (Err stop) = IsWhyNoCases from name stop

-- the same of what a word means
abbrev pub ComesToPlay : Source → (word : List ℕ) → Result (Option Play) Stop → Type 0
ComesToPlay from word came = ComesToPart from (word_meant word).file (word_meant word).part came

-- Why a call stops at a trace: a refusal is one of these.
pub record IsWhyNoTrace (Refuses : Refusal → Type 0) (stop : Stop) : Type 0 where
  pub of_run : IsOfRun stop
  pub refuses : (refusal : Refusal) → stop ≡ Input (Refused Trace refusal) → Refuses refusal

-- Why it stops at a word: it gets none of the cases of its file, or stops at its trace.
abbrev pub IsWhyAtWord : Source → (word : List ℕ) → Stop → Type 0
IsWhyAtWord from word stop =
    IsWhyNoCases from (file_meant word) stop
    ⊎ IsWhyNoTrace (λ refusal. IsTrue from.tells → RefusesWord from word refusal) stop
