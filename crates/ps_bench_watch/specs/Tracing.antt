-- What `trace` writes of an application and a log, and how it stops.
use Rattle.std.specs.Prelude.{◌≡◌, ◌⊎◌, ◌++◌, ℕ, Bool, IsTrue, List, Option, Some, Result, Ok, Err}
use Rattle.ps_bench_frame.specs.Opening.{IsOfApp, Source, source}
use Rattle.ps_bench_frame.specs.Stopping.{StopsAtApp, StopsAtLog}
use Rattle.ps_bench_frame.specs.declared.ending.Input.TheVariants.{Log}
use Rattle.ps_bench_frame.specs.declared.ending.InputStop.TheVariants.{Unread}
use Rattle.ps_bench_frame.specs.declared.ending.Stop.{Stop}
use Rattle.ps_bench_frame.specs.declared.ending.Stop.TheVariants.{Input, Unwritten, NoMemory}
use Rattle.ps_bench_cases.specs.Writing.{TookBeginning}
use Rattle.ps_bench_logs.specs.Log.{log_of}
use Rattle.ps_bench_logs.specs.Log.End.{whole, refused}
use Rattle.ps_bench_logs.specs.declared.flaw.LogRefusal.{LogRefusal}
use Rattle.ps_model.specs.Network.{Network}
use Rattle.ps_model.specs.declared.channel.ImageSizes.{ImageSizes}
use Rattle.ps_bench_logs.specs.Recording.{log_trace}

-- what is so of the text of this name and of what an output took, where both are known
abbrev pub WhereTold : Source → (log : List ℕ) → (tells : Bool) → (List ℕ → Type 0) → Type 0
WhereTold from log tells Is =
    IsTrue from.tells → IsTrue tells → (text : List ℕ) × (from.held log ≡ Some text) × Is text

-- `trace` wrote the trace of all scans of the log
abbrev pub Answered : Source → (log : List ℕ) → (tells : Bool) → (before after : List ℕ) → Type 0
Answered from log tells before after =
    WhereTold from log tells (λ text.
    ((log_of from.net text).end ≡ whole) × (after ≡ before ++ log_trace from.net text))

-- how `trace` stops at a refused line: what stands before it was written (`mid`), and after that the refusal
abbrev pub StopsRefusing : Source → (log : List ℕ) → (tells : Bool) → (before after : List ℕ) → Stop → Type 0
StopsRefusing from log tells before after stop =
    (refusal : LogRefusal) × (mid : List ℕ)
    × WhereTold from log tells (λ text.
    ((log_of from.net text).end ≡ refused refusal) × (mid ≡ before ++ log_trace from.net text))
    × StopsAtLog refusal tells mid after stop

-- how it stops in the trace that it writes: a beginning of that was written
abbrev pub StopsWriting : Source → (log : List ℕ) → (tells : Bool) → (before after : List ℕ) → Stop → Type 0
StopsWriting from log tells before after stop =
    ((stop ≡ Input (Unread Log)) ⊎ (stop ≡ Unwritten) ⊎ (stop ≡ NoMemory))
    × (IsTrue from.tells → IsTrue tells → (text : List ℕ) → from.held log ≡ Some text →
    TookBeginning before (log_trace from.net text) after)

-- what `trace` answers of an application, or how it stops
abbrev pub AnswersIn : Source → (log : List ℕ) → (tells : Bool) → (before after : List ℕ) →
    Result (Unit {0}) Stop → Type 0
AnswersIn from log tells before after (Ok done) = Answered from log tells before after
AnswersIn from log tells before after (Err stop) =
    StopsRefusing from log tells before after stop ⊎ StopsWriting from log tells before after stop

-- What `trace` answers of the application of this name.
abbrev pub AnswersTrace : (app log : List ℕ) → (reading : Bool) (held : List ℕ → Option (List ℕ)) → (tells : Bool) →
    (before after : List ℕ) → Type 0
AnswersTrace app log reading held tells before after =
    (net : Network) × (sizes : ImageSizes) × IsOfApp (source net sizes reading held) app
    × Answered (source net sizes reading held) log tells before after

-- How `trace` stops before all is done: without the application of this name, or with it.
abbrev pub StopsTrace : (app log : List ℕ) → (reading : Bool) (held : List ℕ → Option (List ℕ)) → (tells : Bool) →
    (before after : List ℕ) → Stop → Type 0
StopsTrace app log reading held tells before after stop =
    StopsAtApp reading held app stop tells before after
    ⊎ ((net : Network) × (sizes : ImageSizes) × IsOfApp (source net sizes reading held) app
    × AnswersIn (source net sizes reading held) log tells before after (Err stop))
