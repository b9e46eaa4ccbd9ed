-- What a listener hears of `watch` while it runs.
use Rattle.std.specs.Prelude.{◌≡◌, ◌⊎◌, ℕ, Bool, List, Option, Result}
use Rattle.ps_bench_frame.specs.Opening.{Source}
use Rattle.ps_bench_frame.specs.declared.ending.Status.{Status}
use Rattle.ps_bench_frame.specs.declared.ending.Stop.{Stop}
use Rattle.ps_bench_messages.specs.Remarking.{HearsUsage, no_name_text}
use Rattle.ps_bench_trace.specs.Remarking.{TellsNoCase}
use Rattle.ps_edge.specs.Hearing.{ListenerSeen}
use Rattle.ps_bench_watch.specs.Naming.{HasUnnamed}
use Rattle.ps_bench_watch.specs.Showing.{Wanted}

-- the text tells of a word for what is watched that it names nothing, or of the one for the trace that no case has its
-- line
abbrev pub TellsUnmeant : (app : List ℕ) → Wanted → Source → (text : List ℕ) → Type 0
TellsUnmeant app wanted from text =
    ((word : List ℕ) × HasUnnamed from.net wanted.words word × (text ≡ no_name_text app word))
    ⊎ TellsNoCase from wanted.trace text

-- if it ends with Usage, that a word names nothing, or that no case has its line, and else nothing
abbrev pub HearsWatch : (app : List ℕ) → Wanted → (reading : Bool) (held : List ℕ → Option (List ℕ)) →
    Result Status Stop → ListenerSeen → (after : List ℕ) → Type 0
HearsWatch app wanted reading held ended who after =
    HearsUsage (TellsUnmeant app wanted) app reading held ended who after
