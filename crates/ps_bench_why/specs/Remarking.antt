-- What a listener hears of `why` while it runs.
use Rattle.std.specs.Prelude.{◌≡◌, ◌⊎◌, ◌++◌, ℕ, Bool, IsTrue, List, Option, None, Result, codes, decimal}
use Rattle.ps_bench_frame.specs.Opening.{Source}
use Rattle.ps_bench_frame.specs.Pieces.{shown}
use Rattle.ps_bench_frame.specs.declared.ending.Status.{Status}
use Rattle.ps_bench_frame.specs.declared.ending.Stop.{Stop}
use Rattle.ps_bench_messages.specs.Remarking.{HearsUsage, no_name_text}
use Rattle.ps_bench_names.specs.Names.{name_of}
use Rattle.ps_bench_trace.specs.Remarking.{TellsNoCase}
use Rattle.ps_edge.specs.Hearing.{ListenerSeen}
use Rattle.ps_bench_why.specs.Asking.{IsFoundAt, Wanted}
use Rattle.ps_bench_why.specs.declared.looping.Met.{Met}
use Rattle.ps_bench_why.specs.declared.looping.Met.TheVariants.{End, Later}

-- no scan of what the word means is at or before a time: all are later, or there is none
abbrev pub no_scan_text : (word : List ℕ) → (time : ℕ) → Met → List ℕ
no_scan_text word time (Later first) =
    shown word ++ codes ": no scan is at or before " ++ decimal time ++ codes " ms\nthe first scan is at " ++ decimal first
    ++ codes " ms: give that time or a later one (docs/why.md)\n"
no_scan_text word time End =
    shown word ++ codes ": no scan is at or before " ++ decimal time ++ codes " ms: it has none (docs/why.md)\n"

-- No scan is at or before the time, and the text tells so. Which later scan it names, if one, is left open.
abbrev pub TellsNoScan : Wanted → Source → (text : List ℕ) → Type 0
TellsNoScan wanted from text =
    (IsTrue from.tells → IsFoundAt from wanted.trace wanted.time None)
    × (met : Met) × (text ≡ no_scan_text wanted.trace wanted.time met)

-- that, or that no case has the line of the word for the trace
abbrev pub TellsNoTime : Wanted → Source → (text : List ℕ) → Type 0
TellsNoTime wanted from text = TellsNoCase from wanted.trace text ⊎ TellsNoScan wanted from text

-- the text tells why nothing is asked for: the name is none of the application, or there is no such case or scan
abbrev pub TellsNothing : (app : List ℕ) → Wanted → Source → (text : List ℕ) → Type 0
TellsNothing app wanted from text =
    ((name_of from.net wanted.name ≡ None) × (text ≡ no_name_text app wanted.name)) ⊎ TellsNoTime wanted from text

-- if it ends with Usage, why nothing is asked for, and else nothing
abbrev pub HearsWhy : (app : List ℕ) → Wanted → (reading : Bool) (held : List ℕ → Option (List ℕ)) →
    Result Status Stop → ListenerSeen → (after : List ℕ) → Type 0
HearsWhy app wanted reading held ended who after =
    HearsUsage (TellsNothing app wanted) app reading held ended who after
