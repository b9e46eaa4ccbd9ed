-- What is written for a message.
use Rattle.std.specs.Prelude.{◌≡◌, ℕ, List, ◌++◌, Option, Some, None, option_map, false}
use Rattle.serde_json.specs.Data.{Data}
use Rattle.serde_json.specs.View.{view}
use Rattle.serde_json.specs.Written.{has_float, compact_text}
use Rattle.ps_lsp_rpc.specs.Frames.{message}
use Rattle.ps_lsp_rpc.specs.declared.sending.Reply.{Reply}

-- a value is written after what was written before, as one message with the value as its body; or nothing where there
-- is none
abbrev pub Sends : Option Data → (before after : List ℕ) → Type 0
Sends None before after = after ≡ before
Sends (Some value) before after =
    (body : List ℕ) × (has_float value ≡ false → body ≡ compact_text value) × (after ≡ before ++ message body)

-- the answer of a reply is written, once where there is one, and then its notice, where there is one
pub record SendsReply (reply : Reply) (before after : List ℕ) : Type 0 where
  pub between : List ℕ
  pub answers : Sends (option_map view reply.answer) before between
  pub notifies : Sends (option_map view reply.notice) between after

-- what was written before stays, and something or nothing is written after it
abbrev pub Continues : (before after : List ℕ) → Type 0
Continues before after = (more : List ℕ) × (after ≡ before ++ more)
