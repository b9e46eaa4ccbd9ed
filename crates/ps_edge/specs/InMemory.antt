-- A call over files and an output in memory, and what a listener in memory hears of it.
use Rattle.std.specs.Prelude.{◌≡◌, ◌⊎◌, ◌++◌, ℕ, true, false, List, None}
use Rattle.ps_outside.specs.InMemory.{FilesInMemory, SinkInMemory}
use Rattle.ps_outside.specs.Outside.{Rose}
use Rattle.ps_top.specs.Asking.{Answer}
use Rattle.ps_top.specs.Calls.{FilesSeen, OutputSeen}
use Rattle.ps_top.specs.Meets.{IsCut}
use Rattle.ps_top.specs.declared.Status.{Status}
use Rattle.ps_top.specs.declared.Status.TheVariants.{Memory}
use Rattle.ps_top.specs.declared.left.Left.{Left}
use Rattle.ps_edge.specs.Doing.{Does, IsAsked, IsRight}
use Rattle.ps_edge.specs.Heard.{IsHeard}
use Rattle.ps_edge.specs.Hearing.{ListenerSeen}
use Rattle.ps_edge.specs.Telling.{IsTold, takes_memory}

-- files in memory tell what they hold
abbrev pub files_in : FilesInMemory → FilesSeen
files_in files = record { tells = true; held = files.held; faults = files.faults }

-- a sink in memory tells what it took
abbrev pub output_in : SinkInMemory → OutputSeen
output_in out = record { tells = true; taken = out.taken; faults = out.faults }

-- all of the answer to the words was given
abbrev pub GaveAll : (words : List (List ℕ)) → FilesInMemory → (out out' : SinkInMemory) → Status → Type 0
GaveAll words files out out' ended =
    (answer : Answer) × IsRight words (files_in files) answer × (ended ≡ answer.status)
    × (out'.taken ≡ out.taken ++ answer.bytes)

-- a beginning of the answer to the words was given
abbrev pub GaveBeginning : (words : List (List ℕ)) → FilesInMemory → (out out' : SinkInMemory) → Type 0
GaveBeginning words files out out' =
    (answer : Answer) × IsRight words (files_in files) answer
    × (written owed : List ℕ) × (written ++ owed ≡ answer.bytes) × (out'.taken ≡ out.taken ++ written)

-- What a call does in memory: the files and the output before and after it, the listener before it and what it has heard
-- after it, what is left behind, and how the call ended.
pub record DoesInMemory (words : List (List ℕ)) (files files' : FilesInMemory) (out out' : SinkInMemory)
    (who : ListenerSeen) (after : List ℕ) (left : Left) (ended : Status) : Type 0 where
  -- A call that was not cut short gave all of the answer, and one that was a beginning of it or nothing.
  pub answers : ¬ IsCut ended → GaveAll words files out out' ended
  pub begins : IsCut ended → (out'.taken ≡ out.taken) ⊎ GaveBeginning words files out out'
  pub memory : ended ≡ Memory → out'.taken ≡ out.taken
  -- One that asks for a name that is not held was cut short, and wrote nothing.
  pub not_held : (name : List ℕ) → IsAsked words (files_in files) name → files.held name ≡ None →
      IsCut ended × (out'.taken ≡ out.taken)
  -- Where no read and no write failed, all was given, or memory ran out.
  pub completes : ((name : List ℕ) → IsAsked words (files_in files) name → ¬ (Rose (files.faults name) (files'.faults name))) →
      ¬ (Rose out.faults out'.faults) → (ended ≡ Memory) ⊎ GaveAll words files out out' ended
  -- Of what the call did, what the listener heard.
  pub hears : IsHeard false (IsTold words who left ended) (takes_memory words ended) who after
  -- And all else that a call does, over files and an output that tell.
  pub does : Does words (files_in files) (files_in files') (output_in out) (output_in out') left ended
