-- What a call does, from its words up to what its output hands on.
use Rattle.std.specs.Prelude.{◌≡◌, ◌≢◌, ◌⊎◌, ℕ, IsTrue, List, None, Any}
use Rattle.ps_outside.specs.Outside.{CountsStay, Rose}
use Rattle.ps_top.specs.Asking.{Answer, AsksFor, IsAnswer, IsLeft, worked}
use Rattle.ps_top.specs.Calls.{FilesSeen, KeepsFiles, KeepsOutput, LeavesRefusal, OutputSeen}
use Rattle.ps_top.specs.Meets.{AppendsAll, AppendsNothing, AppendsPart, IsCut}
use Rattle.ps_top.specs.Program as program
use Rattle.ps_top.specs.declared.Status.{Status}
use Rattle.ps_top.specs.declared.Status.TheVariants.{Usage, Tripped, ReadFault, WriteFault, Memory}
use Rattle.ps_top.specs.declared.left.Left.{Left}
use Rattle.ps_words.specs.Command as asked
use Rattle.ps_words.specs.Command.Command.{Run, Vote, Heal, NotTaken}

-- this is the answer to the words, by the texts that the files hold
abbrev pub IsRight : (words : List (List ℕ)) → FilesSeen → Answer → Type 0
IsRight words files = IsAnswer (program.text words) files.held

-- the answer to the words asks for the text of this name
abbrev pub IsAsked : (words : List (List ℕ)) → FilesSeen → List ℕ → Type 0
IsAsked words files = AsksFor (program.text words) files.held

-- the reads of a name failed once more
abbrev pub ReadFailed : (files files' : FilesSeen) → List ℕ → Type 0
ReadFailed files files' name = Rose (files.faults name) (files'.faults name)

-- What a call with these words does, up to what its output hands on: the files and the output before and after it,
-- what is left behind, and how it ended. A handing on that failed is a write that failed.
pub record Does (words : List (List ℕ)) (files files' : FilesSeen) (out out' : OutputSeen)
    (left : Left) (ended : Status) : Type 0 where
  -- Over files that tell: a call that was not cut short ended as the answer does, and an output that tells took all
  -- of it.
  pub status : IsTrue files.tells → ¬ IsCut ended → (answer : Answer) × IsRight words files answer
      × (ended ≡ answer.status)
  pub whole : IsTrue files.tells → ¬ IsCut ended → AppendsAll (IsRight words files) out.tells out.taken out'.taken ended
  -- A run without faults never trips, and three seats never do.
  pub quiet : IsTrue files.tells → (app trace : List ℕ) → asked.command_of words ≡ Run app trace → ended ≢ Tripped
  pub untripped : IsTrue files.tells → (app trace faults : List ℕ) →
      (asked.command_of words ≡ Vote app trace faults)
      ⊎ (asked.command_of words ≡ Heal app trace faults) → ended ≢ Tripped
  -- One that was cut short appends nothing or a beginning of the answer, and if memory runs out nothing.
  pub stopped : IsTrue files.tells → ended ≡ WriteFault →
      AppendsNothing out.tells out.taken out'.taken ⊎ AppendsPart (IsRight words files) out.tells out.taken out'.taken
  pub unread : IsTrue files.tells → ended ≡ ReadFault →
      AppendsNothing out.tells out.taken out'.taken ⊎ AppendsPart (IsRight words files) out.tells out.taken out'.taken
  pub memory : ended ≡ Memory → AppendsNothing out.tells out.taken out'.taken
  -- What is left behind, where the call was not cut short; and a refusal that was said, whose line ends what an
  -- output that tells took.
  pub leaves : IsTrue files.tells → ¬ IsCut ended → IsLeft (program.text words) files.held (worked left)
  pub refuses : LeavesRefusal left out' ended
  -- Where a name that the answer asks for is not held, nothing is written, and the call was cut short.
  pub not_held : IsTrue files.tells → (name : List ℕ) → IsAsked words files name → files.held name ≡ None → IsCut ended
  pub nothing_written : IsTrue files.tells → (name : List ℕ) → IsAsked words files name → files.held name ≡ None →
      AppendsNothing out.tells out.taken out'.taken
  -- Failures have causes. Over files that tell it is a name that the answer asks for.
  pub asked_fault : IsTrue files.tells → ended ≡ ReadFault →
      (name : List ℕ) × IsAsked words files name × ReadFailed files files' name
  pub read_fault : ended ≡ ReadFault → Any (ReadFailed files files') (asked.names_of (asked.command_of words))
  pub write_fault : ended ≡ WriteFault → Rose out.faults out'.faults
  -- And no failure is hidden, whatever the files and the output tell. A write that fails at the end, after a read
  -- that failed, is what the status tells of the two.
  pub no_read_failed : ended ≢ ReadFault → ended ≢ WriteFault → CountsStay files.faults files'.faults
  pub no_write_failed : ended ≢ WriteFault → out'.faults ≡ out.faults
  -- Usage comes exactly where the words are not taken, unless the output fails or memory runs out.
  pub usage : ended ≡ Usage → asked.command_of words ≡ NotTaken
  pub not_taken : asked.command_of words ≡ NotTaken → (ended ≡ Usage) ⊎ (ended ≡ WriteFault) ⊎ (ended ≡ Memory)
  -- Where nothing failed the call says all, or memory runs out.
  pub completes : IsTrue files.tells → ((name : List ℕ) → IsAsked words files name → ¬ (ReadFailed files files' name)) →
      ¬ (Rose out.faults out'.faults) →
      (ended ≡ Memory) ⊎ AppendsAll (IsRight words files) out.tells out.taken out'.taken ended
  -- What is held stays, whether files and output tell stays, and no count falls.
  pub keeps_files : KeepsFiles files files'
  pub keeps_output : KeepsOutput out out'
