-- What a server publishes for a message.
use Rattle.std.specs.Prelude.{◌≡◌, List, ℕ, Option, Some, None, codes, bytes_eq, if◌then◌else◌}
use Rattle.serde_json.specs.Data.{Data}
use Rattle.ps_lsp_text.specs.Asking.{changed_in, opened_in, uri_in}
use Rattle.ps_lsp_text.specs.Published.{TellsOf, front, withdrawal}
use Rattle.ps_lsp_text.specs.Stages.{method_in}
use Rattle.ps_lsp_text.specs.Texts.{held}
use Rattle.ps_lsp_text.specs.declared.server.Stage.{Stage}
use Rattle.ps_lsp_text.specs.declared.server.Stage.TheVariants.{Fresh, Running, Shut, Ended}
use Rattle.ps_lsp_text.specs.declared.texts.Texts.{Texts}

-- what there is to publish
pub data Publishing : Type 0 where
  -- nothing
  nothing : Publishing
  -- what is found in this text of a name
  findings : (uri text : List ℕ) → Publishing
  -- that nothing is found any more in the text of a name
  closing : (uri : List ℕ) → Publishing

-- what is found in a text of a name, where a message says both
abbrev pub findings_of : (uri text : Option (List ℕ)) → Publishing
findings_of (Some uri) (Some text) = findings uri text
findings_of (Some uri) None = nothing
findings_of None text = nothing

-- that nothing is found any more, where a message says the name
abbrev pub closing_of : (uri : Option (List ℕ)) → Publishing
closing_of (Some uri) = closing uri
closing_of None = nothing

-- what there is to publish for a method while the server answers
abbrev pub publishing_by : (method : List ℕ) → Option Data → Publishing
publishing_by method value =
    if bytes_eq method (codes "textDocument/didOpen") then findings_of (uri_in value) (opened_in value)
    else if bytes_eq method (codes "textDocument/didChange") then findings_of (uri_in value) (changed_in value)
    else if bytes_eq method (codes "textDocument/didClose") then closing_of (uri_in value)
    else nothing

-- what there is to publish for a method, by how far the server was before it
abbrev pub publishing_in : Stage → (method : List ℕ) → Option Data → Publishing
publishing_in Fresh method value = nothing
publishing_in Running method value = publishing_by method value
publishing_in Shut method value = nothing
publishing_in (Ended orderly) method value = nothing

-- nothing for a message without a method
abbrev pub publishing_for : Stage → (method : Option (List ℕ)) → Option Data → Publishing
publishing_for stage None value = nothing
publishing_for stage (Some method) value = publishing_in stage method value

-- what there is to publish for a message, by how far the server was before it
abbrev pub publishing_of : Stage → Option Data → Publishing
publishing_of stage value = publishing_for stage (method_in value) value

-- a notice publishes that, once, and there is none where there is nothing to publish
abbrev pub Publishes : Publishing → Option Data → Type 0
Publishes nothing given = given ≡ None
Publishes (findings uri text) None = ⊥
Publishes (findings uri text) (Some notice) = TellsOf uri text notice
Publishes (closing uri) None = ⊥
Publishes (closing uri) (Some notice) = notice ≡ withdrawal uri

-- the text of which that is published is held under its name from then on, by the bytes that decide of it
abbrev pub Holds : Publishing → Texts → Type 0
Holds nothing texts = Unit {0}
Holds (findings uri text) texts = held texts uri ≡ Some (front text)
Holds (closing uri) texts = Unit {0}
