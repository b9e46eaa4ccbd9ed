-- How a call stops at a word in the place of a trace.
use Rattle.std.specs.Prelude.{◌≡◌, ◌⊎◌, ℕ, Bool, IsTrue, List, Option, Some}
use Rattle.ps_base.specs.declared.failing.Refusal.{Refusal}
use Rattle.ps_bench_frame.specs.Ending.{IsOfRun}
use Rattle.ps_bench_frame.specs.Meant.{file_meant}
use Rattle.ps_bench_frame.specs.Opening.{Source}
use Rattle.ps_bench_frame.specs.Refusing.{refused_line}
use Rattle.ps_bench_frame.specs.Stopping.{StopsAtCases, Took}
use Rattle.ps_bench_frame.specs.declared.ending.Input.TheVariants.{Trace}
use Rattle.ps_bench_frame.specs.declared.ending.InputStop.TheVariants.{Refused}
use Rattle.ps_bench_frame.specs.declared.ending.Stop.{Stop}
use Rattle.ps_bench_frame.specs.declared.ending.Stop.TheVariants.{Input}
use Rattle.ps_model.specs.Network.{Network}
use Rattle.ps_model.specs.declared.channel.Fault.{Fault}
use Rattle.ps_report.specs.Short.{refusal_text}
use Rattle.ps_trace.specs.Scans.{scans_of}
use Rattle.ps_trace.specs.Scans.End.{refused}
use Rattle.ps_bench_trace.specs.Playing.{IsPlay}

-- the trace that is held is refused so
abbrev pub RefusesHeld : Network → (held : Option (List ℕ)) → Refusal → Type 0
RefusesHeld net held refusal = (trace : List ℕ) × (held ≡ Some trace) × ((scans_of trace net).end ≡ refused refusal)

-- what a word of the call means is refused so
abbrev pub RefusesWord : Source → (word : List ℕ) → Refusal → Type 0
RefusesWord from word refusal =
    (trace : List ℕ) × (brought : List Fault) × IsPlay from word trace brought
    × ((scans_of trace from.net).end ≡ refused refusal)

-- How a call stops at a trace: where that is refused, the line of the refusal is written, and nothing else.
pub record StopsAtTrace (Refuses : Refusal → Type 0) (stop : Stop) (tells : Bool) (before after : List ℕ) : Type 0 where
  pub of_run : IsOfRun stop
  pub refuses : (refusal : Refusal) → stop ≡ Input (Refused Trace refusal) →
      Refuses refusal × Took (refusal_text refusal) tells before after

-- How it stops at a word: it gets none of the cases of its file, or stops at its trace.
abbrev pub StopsAtWord : Source → (word : List ℕ) → Stop → (tells : Bool) (before after : List ℕ) → Type 0
StopsAtWord from word stop tells before after =
    StopsAtCases from (file_meant word) refused_line stop tells before after
    ⊎ StopsAtTrace (λ refusal. IsTrue from.tells → RefusesWord from word refusal) stop tells before after
