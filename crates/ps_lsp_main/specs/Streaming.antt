-- What the server writes for a message, and for a whole stream.
use Rattle.std.specs.Prelude.{◌≡◌, ℕ, List, [], ◌∷◌, Bool, IsTrue, Option, Result, Ok, Err}
use Rattle.ps_lsp_text.specs.Serving.{IsAnswered}
use Rattle.ps_lsp_text.specs.Stages.{stage_of}
use Rattle.ps_lsp_text.specs.declared.server.Server.{Server}
use Rattle.ps_lsp_text.specs.declared.server.Stage.TheVariants.{Fresh}
use Rattle.ps_lsp_main.specs.Endings.{EndsBy, Leads}
use Rattle.ps_lsp_main.specs.declared.serving.Ending.{Ending}
use Rattle.ps_lsp_main.specs.declared.serving.Ending.TheVariants.{Exit, Broken, Unread, Unwritten, Memory}
use Rattle.ps_lsp_rpc.specs.Frames.{Gives}
use Rattle.ps_lsp_rpc.specs.Sending.{Continues, SendsReply}
use Rattle.ps_lsp_rpc.specs.declared.reading.Frame.{Frame}
use Rattle.ps_lsp_rpc.specs.declared.reading.Frame.TheVariants.{Message, End, Headless, TooLong, Cut}
use Rattle.ps_lsp_rpc.specs.declared.sending.Reply.{Reply}

-- For a message of these bytes a server, which is the next one after it, writes its answer, once where it asks for one and
-- else not at all, and then a notice or none.
pub record Serves (server next : Server) (body before after : List ℕ) : Type 0 where
  pub reply : Reply
  pub answered : IsAnswered server next body reply
  pub sends : SendsReply reply before after

-- What is written for what is read: a message is served, what says no length or is too long is served as one without
-- bytes, and for the end of the stream nothing is written.
abbrev pub ServesFrame : Frame → (server next : Server) → (before after : List ℕ) → Type 0
ServesFrame (Message body) server next before after = Serves server next body before after
ServesFrame Headless server next before after = Serves server next [] before after
ServesFrame TooLong server next before after = Serves server next [] before after
ServesFrame End server next before after = after ≡ before
ServesFrame Cut server next before after = after ≡ before

-- these are read of a stream, one after the other, and this is left
abbrev pub ReadsAll : List Frame → (ahead left : List ℕ) → Type 0
ReadsAll [] ahead left = left ≡ ahead
ReadsAll (frame ∷ more) ahead left = (between : List ℕ) × Gives ahead between frame × ReadsAll more between left

-- what is to be written for each of these is written, one after the other
abbrev pub ServesAll : List Frame → (server last : Server) → (before after : List ℕ) → Type 0
ServesAll [] server last before after = (last ≡ server) × (after ≡ before)
ServesAll (frame ∷ more) server last before after =
    (next : Server) × (between : List ℕ) × ServesFrame frame server next before between × ServesAll more next last between after

-- Up to here a server, at first one that has not been asked to begin, served each of what was read whole, in its order: as
-- far as the input tells what is ahead in it, and the output what was written.
pub record ServesUpTo (reads writes : Bool) (server : Server) (ahead left before after : List ℕ) : Type 0 where
  pub frames : List Frame
  pub first : Server
  pub fresh : stage_of first ≡ Fresh
  pub read : IsTrue reads → ReadsAll frames ahead left
  pub served : IsTrue writes → ServesAll frames first server before after

-- the next of what is read is served whole, and leads the server to this ending or none
pub record ServesNext (reads writes : Bool) (server next : Server) (ending : Option Ending) (ahead left before after : List ℕ) : Type 0 where
  pub frame : Frame
  pub read : IsTrue reads → Gives ahead left frame
  pub served : IsTrue writes → ServesFrame frame server next before after
  pub leads : Leads frame (stage_of server) (stage_of next) ending

-- What an ending reads after what was served whole: nothing at an exit and at the end of the input, and the one message
-- that could not be written. Where a read fails, or memory runs out, nothing is known of it.
abbrev pub ReadsLast : Ending → (ahead left : List ℕ) → Type 0
ReadsLast Exit ahead left = left ≡ ahead
ReadsLast Broken ahead left = left ≡ ahead
ReadsLast Unwritten ahead left = (frame : Frame) × Gives ahead left frame
ReadsLast Unread ahead left = Unit {0}
ReadsLast Memory ahead left = Unit {0}

-- What an ending writes after what was served whole: nothing at an exit, at the end of the input and where a read
-- fails. Where a write fails, or memory runs out, a part of the last answer or notice may stand there.
abbrev pub WritesLast : Ending → (before after : List ℕ) → Type 0
WritesLast Exit before after = after ≡ before
WritesLast Broken before after = after ≡ before
WritesLast Unread before after = after ≡ before
WritesLast Unwritten before after = Continues before after
WritesLast Memory before after = Continues before after

-- what an ending reads and writes after what was served whole
pub record EndsWith (reads writes : Bool) (ending : Ending) (ahead left before after : List ℕ) : Type 0 where
  pub read : IsTrue reads → ReadsLast ending ahead left
  pub wrote : IsTrue writes → WritesLast ending before after

-- where nothing was held back before, nothing is held back after
abbrev pub HandsOn : (held kept : List ℕ) → Type 0
HandsOn held kept = held ≡ [] → kept ≡ []

-- all is handed on at an ending, but for one where a message was not written whole
abbrev pub HandsOnAt : Ending → (held kept : List ℕ) → Type 0
HandsOnAt Exit held kept = HandsOn held kept
HandsOnAt Broken held kept = HandsOn held kept
HandsOnAt Unread held kept = HandsOn held kept
HandsOnAt Unwritten held kept = Unit {0}
HandsOnAt Memory held kept = Unit {0}

-- A stream is served up to this ending: what was read of it was served whole, in its order, and after that stands what
-- the ending leaves; the ending is that of what was read; and nothing is held back where a read fails, at the end of the
-- input and at the exit, if nothing was at first.
pub record ServesStream (reads writes : Bool) (ending : Ending) (ahead left before after held kept : List ℕ) : Type 0 where
  pub behind : List ℕ
  pub between : List ℕ
  pub server : Server
  pub served : ServesUpTo reads writes server ahead behind before between
  pub ends : EndsWith reads writes ending behind left between after
  pub ends_by : EndsBy ending served.frames
  pub hands_on : HandsOnAt ending held kept

-- all is handed on after what is read next, but where a message is not written whole
abbrev pub HandsOnNext : Result (Option Ending) Ending → (held kept : List ℕ) → Type 0
HandsOnNext (Ok given) held kept = HandsOn held kept
HandsOnNext (Err ending) held kept = HandsOnAt ending held kept

-- whether an ending is one of a server that failed at something
abbrev pub IsFailed : Ending → Type 0
IsFailed Exit = ⊥
IsFailed Broken = ⊥
IsFailed Unread = Unit {0}
IsFailed Unwritten = Unit {0}
IsFailed Memory = Unit {0}

-- whether an ending is one where a message was not written whole
abbrev pub IsShort : Ending → Type 0
IsShort Exit = ⊥
IsShort Broken = ⊥
IsShort Unread = ⊥
IsShort Unwritten = Unit {0}
IsShort Memory = Unit {0}
