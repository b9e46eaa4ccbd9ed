-- What the server sends for a message.
use Rattle.std.specs.Prelude.{◌≡◌, ℕ, List, Option, option_map}
use Rattle.serde_json.specs.Data.{Data}
use Rattle.serde_json.specs.View.{view}
use Rattle.ps_lsp_rpc.specs.Rpc.{IsReadAs, Said, answer_to, asked}
use Rattle.ps_lsp_rpc.specs.declared.sending.Reply.{Reply}
use Rattle.ps_lsp_text.specs.Answering.{Says, saying_of}
use Rattle.ps_lsp_text.specs.Publishing.{Holds, Publishes, publishing_of}
use Rattle.ps_lsp_text.specs.Stages.{method_in, stage_after, stage_of}
use Rattle.ps_lsp_text.specs.declared.server.Server.{Server}
use Rattle.ps_lsp_text.specs.declared.texts.Texts.{Texts}

-- the texts that are open in a server
abbrev pub texts_of : Server → Texts
texts_of server = server.texts

-- The message of these bytes is answered as often as it asks: a request once under its id, by what there is to say of
-- this very request, and a notification never; its method leads from the stage before it to the one after it; and what
-- there is to publish for it is published, which is all that is found in the text where it opens or changes one, and
-- nothing else; that text is held from then on.
pub record IsAnswered (before after : Server) (body : List ℕ) (reply : Reply) : Type 0 where
  pub value : Option Data
  pub read : IsReadAs body value
  pub said : Said
  pub says : Says (texts_of before) (saying_of (stage_of before) value) said
  pub answers : option_map view reply.answer ≡ answer_to (asked value) said
  pub stage : stage_of after ≡ stage_after (stage_of before) (method_in value)
  pub publishes : Publishes (publishing_of (stage_of before) value) (option_map view reply.notice)
  pub holds : Holds (publishing_of (stage_of before) value) (texts_of after)
