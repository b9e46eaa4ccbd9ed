-- What is written goes on with what was written before.
use Rattle.std.proofs.Common.{◌≡◌, ◌∙◌, ℕ, List, [], ◌++◌, Option, Some, None, Result, Ok, Err, IfErr, OnErr, ap, sym, take}
use Rattle.std.proofs.lemmas.List.{append_assoc, append-nil}
use Rattle.serde_json.specs.Data.{Data}
use Rattle.ps_outside.specs.declared.sink.Stopped.{Stopped}
use Rattle.ps_lsp_rpc.specs.Frames.{message}
use Rattle.ps_lsp_rpc.specs.Sending.{Continues, Sends}

-- nothing is written
pub still : (before after : List ℕ) → after ≡ before → Continues before after
still before after same = ([], same ∙ sym (append-nil before))

-- what goes on with what goes on with something goes on with that
pub behind : (before between after : List ℕ) → Continues before between → Continues between after → Continues before after
behind before between after first second =
    (first.0 ++ second.0, second.1 ∙ ap (λ (t : List ℕ). t ++ second.0) first.1 ∙ append_assoc before first.0 second.0)

-- what is sent goes on with what was written before
pub of_sent : (value : Option Data) (before after : List ℕ) → Sends value before after → Continues before after
of_sent None before after sends = still before after sends
of_sent (Some value) before after sends = (message sends.0, sends.2)

-- this is written
pub added : (before after more : List ℕ) → after ≡ before ++ more → Continues before after
added before after more is = (more, is)

-- after a failure it goes on too
pub anyway : {T E : Type 0} (before after : List ℕ) (result : Result T E) → Continues before after →
    OnErr result (Continues before after)
anyway before after (Ok value) goes = tt
anyway before after (Err why) goes = goes

-- a write that stops goes on with what was written before
pub of_part : {T : Type 0} (before between after piece : List ℕ) (result : Result T Stopped) → Continues before between →
    IfErr result (λ stop. after ≡ between ++ take stop.taken piece) → OnErr result (Continues before after)
of_part before between after piece (Ok value) first part = tt
of_part before between after piece (Err stop) first part = behind before between after first (take stop.taken piece, part)
