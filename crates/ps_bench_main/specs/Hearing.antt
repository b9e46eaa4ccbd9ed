-- What the listener hears of a call, when it ends, and what is heard of a command before that.
use Rattle.std.specs.Prelude.{◌≡◌, ◌⊎◌, ◌∷◌, ℕ, Bool, IsTrue, false, List, [], Option, Result, Ok, Err, unwrap_or}
use Rattle.ps_bench_campaign.specs.Remarking.{HearsCampaign}
use Rattle.ps_bench_frame.specs.Ending.{stop_status}
use Rattle.ps_bench_frame.specs.declared.ending.Status.{Status}
use Rattle.ps_bench_frame.specs.declared.ending.Status.TheVariants.{WriteFault}
use Rattle.ps_bench_words.specs.Asking.{Asked}
use Rattle.ps_bench_words.specs.Asking.Asked.{Test, Expand, Watch, Trace, Why, Cover, Never, Same, Campaign, Live}
use Rattle.ps_bench_words.specs.Asking.Asked.{Sum, Report, Page, NotTaken}
use Rattle.ps_bench_frame.specs.declared.ending.Stop.{Stop}
use Rattle.ps_bench_messages.specs.Telling.{IsTold, Named, named_app}
use Rattle.ps_edge.specs.Heard.{IsHeard}
use Rattle.ps_bench_watch.specs.Remarking.{HearsWatch}
use Rattle.ps_bench_why.specs.Remarking.{HearsWhy}
use Rattle.ps_edge.specs.Hearing.{ListenerSeen}
use Rattle.ps_bench_main.specs.Answering.{explained_of, tried_of, wanted_of}

-- the names of the files of a call, by what it asks
abbrev pub names_asked : Asked → Named
names_asked (Test app cases format) = record (named_app app) { cases = cases }
names_asked (Expand app cases) = record (named_app app) { cases = cases ∷ [] }
names_asked (Watch app trace names faults layout) =
    record (named_app app) { trace = trace; faults = unwrap_or faults [] }
names_asked (Trace app csv) = record (named_app app) { log = csv }
names_asked (Why app trace time name output) = record (named_app app) { trace = trace }
names_asked (Cover app traces output least ideas) = record (named_app app) { traces = traces }
names_asked (Never app rules states) = record (named_app app) { rules = rules }
names_asked (Same app other rules states) = record (named_app app) { other = other; rules = unwrap_or rules [] }
names_asked (Campaign app trace from count channel print) = record (named_app app) { trace = trace }
names_asked (Sum files) = record (named_app []) { traces = files }
names_asked (Report app cases title) = record (named_app app) { cases = cases }
names_asked (Live app names) = named_app app
names_asked (Page text) = named_app []
names_asked NotTaken = named_app []

-- What is heard at the end of a call that nothing stopped: of words that are not taken what is wrong with them, in
-- words that are left open, and of all else nothing.
abbrev pub HearsDone : Asked → ListenerSeen → (after : List ℕ) → Type 0
HearsDone NotTaken who after = (said : List ℕ) × IsHeard false (λ text. text ≡ said) false who after
HearsDone asked who after = after ≡ who.heard

-- what is heard at the end of a call that stopped so, where nobody reads the output any more or somebody does
abbrev pub HearsStop : (is_closed : Bool) → Asked → ListenerSeen → (after : List ℕ) → Stop → Type 0
HearsStop is_closed asked who after stop = IsHeard is_closed (IsTold who (names_asked asked) stop) false who after

-- What who hears a command hears of it while it does what the words ask, by how that ended: what it remarks, and of a
-- command that makes no remarks nothing. Of `test`, `cover` and `same` it is left open what they remark, but who asks
-- for no messages hears nothing.
abbrev pub HearsMeanwhile : Asked → (reading : Bool) (held : List ℕ → Option (List ℕ)) → Result Status Stop →
    ListenerSeen → (after : List ℕ) → Type 0
HearsMeanwhile (Test app cases format) reading held ended who after = IsTrue who.quiet → after ≡ who.heard
HearsMeanwhile (Expand app cases) reading held ended who after = after ≡ who.heard
HearsMeanwhile (Watch app trace names faults layout) reading held ended who after =
    HearsWatch app (wanted_of trace names faults) reading held ended who after
HearsMeanwhile (Trace app csv) reading held ended who after = after ≡ who.heard
HearsMeanwhile (Why app trace time name output) reading held ended who after =
    HearsWhy app (explained_of trace time name output) reading held ended who after
HearsMeanwhile (Cover app traces output least ideas) reading held ended who after = IsTrue who.quiet → after ≡ who.heard
HearsMeanwhile (Never app rules states) reading held ended who after = after ≡ who.heard
HearsMeanwhile (Same app other rules states) reading held ended who after = IsTrue who.quiet → after ≡ who.heard
HearsMeanwhile (Campaign app trace from count channel print) reading held ended who after =
    HearsCampaign app (tried_of trace from count channel print) reading held ended who after
HearsMeanwhile (Sum files) reading held ended who after = after ≡ who.heard
HearsMeanwhile (Report app cases title) reading held ended who after = after ≡ who.heard
HearsMeanwhile (Live app names) reading held ended who after = after ≡ who.heard
HearsMeanwhile (Page text) reading held ended who after = after ≡ who.heard
HearsMeanwhile NotTaken reading held ended who after = after ≡ who.heard

-- the status of a command that ended so
abbrev pub ended_status : Result Status Stop → Status
ended_status (Ok status) = status
ended_status (Err stop) = stop_status stop

-- The same of a call by its status: that is the one of its command, unless what it wrote could not be handed on.
abbrev pub IsToldMeanwhile : Asked → (reading : Bool) (held : List ℕ → Option (List ℕ)) → Status → ListenerSeen →
    (after : List ℕ) → Type 0
IsToldMeanwhile asked reading held status who after =
    (ended : Result Status Stop) × ((status ≡ ended_status ended) ⊎ (status ≡ WriteFault))
    × HearsMeanwhile asked reading held ended who after
