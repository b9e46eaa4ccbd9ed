-- What is served of a stream, message by message.
use Rattle.std.proofs.Common.{◌≡◌, ◌∙◌, ℕ, List, [], ◌∷◌, ◌++◌, Bool, IsTrue, Option, Some, None, Result, Ok, Err, IfErr, IfOk, OnErr, OnOk, refl, subst}
use Rattle.ps_lsp_rpc.specs.Frames.{Gives}
use Rattle.ps_lsp_rpc.specs.Sending.{Continues}
use Rattle.ps_lsp_rpc.specs.declared.reading.Frame.{Frame}
use Rattle.ps_lsp_text.specs.Stages.{stage_of}
use Rattle.ps_lsp_text.specs.declared.server.Server.{Server}
use Rattle.ps_lsp_text.specs.declared.server.Stage.TheVariants.{Fresh}
use Rattle.ps_lsp_main.specs.Endings.{Leads}
use Rattle.ps_lsp_main.specs.Streaming.{EndsWith, HandsOn, HandsOnAt, HandsOnNext, IsFailed, IsShort, ReadsAll, ServesAll, ServesFrame, ServesNext, ServesStream, ServesUpTo}
use Rattle.ps_lsp_main.specs.declared.serving.Ending.{Ending}
use Rattle.ps_lsp_main.specs.declared.serving.Ending.TheVariants.{Exit, Broken, Unread, Unwritten, Memory}
use Rattle.ps_lsp_main.proofs.Standing.{IsWhole, Stands, ended, failed, stands_first, stands_next, whole_after}

-- one more is read after these
reads_more : (frames : List Frame) (frame : Frame) (ahead between left : List ℕ) → ReadsAll frames ahead between →
    Gives between left frame → ReadsAll (frames ++ frame ∷ []) ahead left
reads_more [] frame ahead between left all next = (left, subst (λ (t : List ℕ). Gives t left frame) all next, refl)
reads_more (first ∷ more) frame ahead between left all next = (all.0, all.1, reads_more more frame all.0 between left all.2 next)

-- one more is served after these
serves_more : (frames : List Frame) (frame : Frame) (first server next : Server) (before between after : List ℕ) →
    ServesAll frames first server before between → ServesFrame frame server next between after →
    ServesAll (frames ++ frame ∷ []) first next before after
serves_more [] frame first server next before between after all step =
    let at : ServesFrame frame first next between after = subst (λ (s : Server). ServesFrame frame s next between after) all.0 step in
    (next, after, subst (λ (t : List ℕ). ServesFrame frame first next t after) all.1 at, (refl, refl))
serves_more (of ∷ more) frame first server next before between after all step =
    (all.0, all.1, all.2, serves_more more frame all.0 server next all.1 between after all.3 step)

-- Up to here a stream was served, and the server goes on: what the loop over the messages keeps.
pub record Goes (reads writes readsnow writesnow : Bool) (server : Server) (ahead left before after held kept : List ℕ) : Type 0 where
  pub upto : ServesUpTo reads writes server ahead left before after
  pub stands : Stands upto.frames (stage_of server)
  pub hands_on : HandsOn held kept
  pub reading : readsnow ≡ reads
  pub writing : writesnow ≡ writes

-- nothing was read and served yet
pub begun : (reads writes : Bool) (server : Server) (ahead before held : List ℕ) → stage_of server ≡ Fresh →
    Goes reads writes reads writes server ahead ahead before before held held
begun reads writes server ahead before held fresh = record {
  upto = record { frames = []; first = server; fresh = fresh; read = λ _. refl; served = λ _. (refl, refl) };
  stands = stands_first (stage_of server) fresh;
  hands_on = λ none. none;
  reading = refl;
  writing = refl;
}

-- the next one is served after what was served
abbrev served_next : (reads writes readsnow writesnow : Bool) (server next : Server) (ending : Option Ending) (ahead between left before middle after : List ℕ) →
    ServesUpTo reads writes server ahead between before middle → readsnow ≡ reads → writesnow ≡ writes →
    ServesNext readsnow writesnow server next ending between left middle after → ServesUpTo reads writes next ahead left before after
served_next reads writes readsnow writesnow server next ending ahead between left before middle after upto reading writing step = record {
  frames = upto.frames ++ step.frame ∷ [];
  first = upto.first;
  fresh = upto.fresh;
  read = λ tells. reads_more upto.frames step.frame ahead between left (upto.read tells) (step.read (reading ∙ tells));
  served = λ tells. serves_more upto.frames step.frame upto.first server next before middle after (upto.served tells) (step.served (writing ∙ tells));
}

-- the server goes on after the next one
pub goes_on : (reads writes readsnow writesnow readsthen writesthen : Bool) (server next : Server) (ending : Option Ending)
    (ahead between left before middle after held kept last : List ℕ) →
    Goes reads writes readsnow writesnow server ahead between before middle held kept → ending ≡ None →
    ServesNext readsnow writesnow server next ending between left middle after → HandsOn kept last →
    readsthen ≡ readsnow → writesthen ≡ writesnow →
    Goes reads writes readsthen writesthen next ahead left before after held last
goes_on reads writes readsnow writesnow readsthen writesthen server next ending ahead between left before middle after held kept last goes none step
    hands reading writing = record {
      upto = served_next reads writes readsnow writesnow server next ending ahead between left before middle after goes.upto goes.reading goes.writing step;
      stands = stands_next goes.upto.frames step.frame (stage_of server) (stage_of next) goes.stands
          (subst (λ (e : Option Ending). Leads step.frame (stage_of server) (stage_of next) e) none step.leads);
      hands_on = λ none. hands (goes.hands_on none);
      reading = reading ∙ goes.reading;
      writing = writing ∙ goes.writing;
    }

-- an ending without a failure reads and writes nothing more
whole_ends : (reads writes : Bool) (ending : Ending) (left after : List ℕ) → IsWhole ending →
    EndsWith reads writes ending left left after after
whole_ends reads writes Exit left after whole = record { read = λ _. refl; wrote = λ _. refl }
whole_ends reads writes Broken left after whole = record { read = λ _. refl; wrote = λ _. refl }
whole_ends reads writes Unread left after whole = elim whole [ ]
whole_ends reads writes Unwritten left after whole = elim whole [ ]
whole_ends reads writes Memory left after whole = elim whole [ ]

-- all is handed on at it
whole_hands : (ending : Ending) (held kept : List ℕ) → IsWhole ending → HandsOn held kept → HandsOnAt ending held kept
whole_hands Exit held kept whole hands = hands
whole_hands Broken held kept whole hands = hands
whole_hands Unread held kept whole hands = elim whole [ ]
whole_hands Unwritten held kept whole hands = elim whole [ ]
whole_hands Memory held kept whole hands = elim whole [ ]

-- all is handed on at an ending, where it was before
then_hands : (ending : Ending) (held kept last : List ℕ) → HandsOn held kept → HandsOnAt ending kept last → HandsOnAt ending held last
then_hands Exit held kept last first second = λ none. second (first none)
then_hands Broken held kept last first second = λ none. second (first none)
then_hands Unread held kept last first second = λ none. second (first none)
then_hands Unwritten held kept last first second = tt
then_hands Memory held kept last first second = tt

-- the server ended after the next one
pub ended_next : (reads writes readsnow writesnow : Bool) (server next : Server) (given : Option Ending) (ending : Ending)
    (ahead between left before middle after held kept last : List ℕ) →
    Goes reads writes readsnow writesnow server ahead between before middle held kept → given ≡ Some ending →
    ServesNext readsnow writesnow server next given between left middle after → HandsOn kept last →
    ServesStream reads writes ending ahead left before after held last
ended_next reads writes readsnow writesnow server next given ending ahead between left before middle after held kept last goes is step hands =
    let leads : Leads step.frame (stage_of server) (stage_of next) (Some ending) =
    subst (λ (e : Option Ending). Leads step.frame (stage_of server) (stage_of next) e) is step.leads in
    let whole : IsWhole ending = whole_after step.frame (stage_of next) ending leads.3 in
    record {
      behind = left;
      between = after;
      server = next;
      served = served_next reads writes readsnow writesnow server next given ahead between left before middle after goes.upto goes.reading goes.writing step;
      ends = whole_ends reads writes ending left after whole;
      ends_by = ended goes.upto.frames step.frame (stage_of server) (stage_of next) ending goes.stands leads;
      hands_on = whole_hands ending held last whole (λ none. hands (goes.hands_on none));
    }

-- the server failed at the next one
pub failed_next : (reads writes readsnow writesnow : Bool) (server : Server) (ending : Ending)
    (ahead between left before middle after held kept last : List ℕ) →
    Goes reads writes readsnow writesnow server ahead between before middle held kept →
    IsFailed ending × EndsWith readsnow writesnow ending between left middle after → HandsOnAt ending kept last →
    ServesStream reads writes ending ahead left before after held last
failed_next reads writes readsnow writesnow server ending ahead between left before middle after held kept last goes fails hands = record {
  behind = between;
  between = middle;
  server = server;
  served = goes.upto;
  ends = record { read = λ tells. fails.1.read (goes.reading ∙ tells); wrote = λ tells. fails.1.wrote (goes.writing ∙ tells) };
  ends_by = failed goes.upto.frames (stage_of server) ending goes.stands fails.0;
  hands_on = then_hands ending held kept last goes.hands_on hands;
}

-- as many messages were served as are counted
pub spent : (reads writes readsnow writesnow : Bool) (server : Server) (ahead left before after held kept : List ℕ) →
    Goes reads writes readsnow writesnow server ahead left before after held kept →
    ServesStream reads writes Unread ahead left before after held kept
spent reads writes readsnow writesnow server ahead left before after held kept goes = record {
  behind = left;
  between = after;
  server = server;
  served = goes.upto;
  ends = record { read = λ _. tt; wrote = λ _. refl };
  ends_by = failed goes.upto.frames (stage_of server) Unread goes.stands tt;
  hands_on = goes.hands_on;
}

-- a message that was read is not written whole
short_ends : (reads writes : Bool) (ending : Ending) (frame : Frame) (ahead left before after : List ℕ) → IsShort ending →
    (IsTrue reads → Gives ahead left frame) → (IsTrue writes → Continues before after) →
    IsFailed ending × EndsWith reads writes ending ahead left before after
short_ends reads writes Exit frame ahead left before after short gives begun = elim short [ ]
short_ends reads writes Broken frame ahead left before after short gives begun = elim short [ ]
short_ends reads writes Unread frame ahead left before after short gives begun = elim short [ ]
short_ends reads writes Unwritten frame ahead left before after short gives begun =
    (tt, record { read = λ tells. (frame, gives tells); wrote = begun })
short_ends reads writes Memory frame ahead left before after short gives begun = (tt, record { read = λ tells. tt; wrote = begun })

-- where a message is not written whole nothing is said of what is handed on
short_hands : (ending : Ending) (held kept : List ℕ) → IsShort ending → HandsOnAt ending held kept
short_hands Exit held kept short = elim short [ ]
short_hands Broken held kept short = elim short [ ]
short_hands Unread held kept short = elim short [ ]
short_hands Unwritten held kept short = tt
short_hands Memory held kept short = tt

-- what is read is served, where that goes well
pub frame_served : (reads writes : Bool) (server next : Server) (frame : Frame) (ahead left before after : List ℕ)
    (result : Result (Option Ending) Ending) → (IsTrue reads → Gives ahead left frame) →
    (IsTrue writes → OnOk result (ServesFrame frame server next before after)) →
    IfOk result (Leads frame (stage_of server) (stage_of next)) →
    IfOk result (λ ending. ServesNext reads writes server next ending ahead left before after)
frame_served reads writes server next frame ahead left before after (Ok given) gives served leads =
    record { frame = frame; read = gives; served = served; leads = leads }
frame_served reads writes server next frame ahead left before after (Err ending) gives served leads = tt

-- what is read is not served whole, where that fails
pub frame_fails : (reads writes : Bool) (frame : Frame) (ahead left before after : List ℕ)
    (result : Result (Option Ending) Ending) → (IsTrue reads → Gives ahead left frame) → IfErr result IsShort →
    (IsTrue writes → OnErr result (Continues before after)) →
    IfErr result (λ ending. IsFailed ending × EndsWith reads writes ending ahead left before after)
frame_fails reads writes frame ahead left before after (Ok given) gives short begun = tt
frame_fails reads writes frame ahead left before after (Err ending) gives short begun =
    short_ends reads writes ending frame ahead left before after short gives begun

-- what is read is handed on
pub frame_hands : (held kept : List ℕ) (result : Result (Option Ending) Ending) → OnOk result (HandsOn held kept) → IfErr result IsShort →
    HandsOnNext result held kept
frame_hands held kept (Ok given) hands short = hands
frame_hands held kept (Err ending) hands short = short_hands ending held kept short
