-- What a listener hears of `campaign` while it runs.
use Rattle.std.specs.Prelude.{ℕ, Bool, List, Option, Result}
use Rattle.ps_bench_frame.specs.declared.ending.Status.{Status}
use Rattle.ps_bench_frame.specs.declared.ending.Stop.{Stop}
use Rattle.ps_bench_messages.specs.Remarking.{HearsUsage}
use Rattle.ps_bench_trace.specs.Remarking.{TellsNoCase}
use Rattle.ps_edge.specs.Hearing.{ListenerSeen}
use Rattle.ps_bench_campaign.specs.Asking.{Wanted}

-- if it ends with Usage, that no case has the line of the word for the trace, and else nothing
abbrev pub HearsCampaign : (app : List ℕ) → Wanted → (reading : Bool) (held : List ℕ → Option (List ℕ)) →
    Result Status Stop → ListenerSeen → (after : List ℕ) → Type 0
HearsCampaign app wanted reading held ended who after =
    HearsUsage (λ from. TellsNoCase from wanted.trace) app reading held ended who after
