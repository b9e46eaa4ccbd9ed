-- What the answer to a request says.
use Rattle.std.specs.Prelude.{◌≡◌, ℕ, List, true, Option, Some, None, codes, bytes_eq, if◌then◌else◌}
use Rattle.serde_json.specs.Data.{Data, null, boolean, number, unsigned, string, array, object, member, no_members}
use Rattle.serde_json.specs.Data.{item, no_items}
use Rattle.ps_base.specs.declared.failing.Place.{Place}
use Rattle.ps_text.specs.declared.positions.Position.{Position}
use Rattle.ps_lsp_rpc.specs.Rpc.{Said, gives, fails}
use Rattle.ps_lsp_rpc.specs.declared.answering.Code.TheVariants.{NoRequest, NoMethod, NoParams, NotReady}
use Rattle.ps_lsp_text.specs.Asking.{IsPlaceOf, changed_in, opened_in, position_in, uri_in}
use Rattle.ps_lsp_text.specs.Completing.{Completes}
use Rattle.ps_lsp_text.specs.Defining.{Defines}
use Rattle.ps_lsp_text.specs.Outlining.{Outlines}
use Rattle.ps_lsp_text.specs.Showing.{Hovers}
use Rattle.ps_lsp_text.specs.Stages.{method_in}
use Rattle.ps_lsp_text.specs.Texts.{earlier, held}
use Rattle.ps_lsp_text.specs.declared.server.Asks.{Asks}
use Rattle.ps_lsp_text.specs.declared.server.Asks.TheVariants as asks
use Rattle.ps_lsp_text.specs.declared.server.Stage.{Stage}
use Rattle.ps_lsp_text.specs.declared.server.Stage.TheVariants.{Fresh, Running, Shut, Ended}
use Rattle.ps_lsp_text.specs.declared.texts.Texts.{Texts}

-- what there is to say of a request
pub data Saying : Type 0 where
  -- just this
  just : Said → Saying
  -- what stands at a position of the text of a name
  at_position : Asks → (uri : List ℕ) → Position → Saying
  -- what the text of a name declares
  of_text : (uri : List ℕ) → Saying

-- what makes an editor ask for a completion: a dot
abbrev pub completing : Data
completing = object (member (codes "triggerCharacters") (array (item (string (codes ".")) no_items)) no_members)

-- how an editor tells of texts: that it opens and closes them, and after each change the whole text
abbrev pub telling : Data
telling = object (member (codes "change") (number (unsigned 1)) (member (codes "openClose") (boolean true) no_members))

-- what the server can do: what it answers, how it counts columns, and how it is told of texts
abbrev pub capabilities : Data
capabilities =
    object (member (codes "completionProvider") completing
    (member (codes "definitionProvider") (boolean true)
    (member (codes "documentSymbolProvider") (boolean true)
    (member (codes "hoverProvider") (boolean true)
    (member (codes "positionEncoding") (string (codes "utf-16"))
    (member (codes "textDocumentSync") telling no_members))))))

-- the same and the name of the server
abbrev pub beginning : Data
beginning =
    object (member (codes "capabilities") capabilities
    (member (codes "serverInfo") (object (member (codes "name") (string (codes "plcsafe-lsp")) no_members)) no_members))

-- what is said before the server is asked to begin: of the request to begin what it can do
abbrev pub said_fresh : (method : List ℕ) → Said
said_fresh method =
    if bytes_eq method (codes "initialize") then gives beginning
    else if bytes_eq method (codes "exit") then gives null
    else fails NotReady (codes "the server has not been asked to begin")

-- what is said after it was asked to shut down
abbrev pub said_shut : (method : List ℕ) → Said
said_shut method =
    if bytes_eq method (codes "exit") then gives null else fails NoRequest (codes "the server is shut down")

-- what is said where a text is opened or changed, if that is a request
abbrev pub said_opening : (uri text : Option (List ℕ)) → Said
said_opening (Some uri) (Some text) = gives null
said_opening (Some uri) None = fails NoParams (codes "a text has a name and a text")
said_opening None text = fails NoParams (codes "a text has a name and a text")

-- what is said where one is closed, if that is a request
abbrev pub said_closing : (uri : Option (List ℕ)) → Said
said_closing (Some uri) = gives null
said_closing None = fails NoParams (codes "a text has a name")

-- what there is to say of a question about a position
abbrev pub saying_at : Asks → (uri : Option (List ℕ)) → Option Position → Saying
saying_at asked (Some uri) (Some position) = at_position asked uri position
saying_at asked (Some uri) None = just (fails NoParams (codes "a question has a text and a position"))
saying_at asked None position = just (fails NoParams (codes "a question has a text and a position"))

-- what there is to say of a question about a whole text
abbrev pub saying_on : (uri : Option (List ℕ)) → Saying
saying_on (Some uri) = of_text uri
saying_on None = just (fails NoParams (codes "a question has a text"))

-- what there is to say of a question by its method; of another method that there is none
abbrev pub saying_asked : (method : List ℕ) → Option Data → Saying
saying_asked method value =
    if bytes_eq method (codes "exit") then just (gives null)
    else if bytes_eq method (codes "shutdown") then just (gives null)
    else if bytes_eq method (codes "initialized") then just (gives null)
    else if bytes_eq method (codes "textDocument/hover") then saying_at asks.Hover (uri_in value) (position_in value)
    else if bytes_eq method (codes "textDocument/completion") then
    saying_at asks.Completion (uri_in value) (position_in value)
    else if bytes_eq method (codes "textDocument/definition") then
    saying_at asks.Definition (uri_in value) (position_in value)
    else if bytes_eq method (codes "textDocument/documentSymbol") then saying_on (uri_in value)
    else just (fails NoMethod (codes "there is no such method"))

-- what there is to say of a method while the server answers
abbrev pub saying_by : (method : List ℕ) → Option Data → Saying
saying_by method value =
    if bytes_eq method (codes "textDocument/didOpen") then just (said_opening (uri_in value) (opened_in value))
    else if bytes_eq method (codes "textDocument/didChange") then just (said_opening (uri_in value) (changed_in value))
    else if bytes_eq method (codes "textDocument/didClose") then just (said_closing (uri_in value))
    else saying_asked method value

-- what there is to say of a method, by how far the server was before it
abbrev pub saying_in : Stage → (method : List ℕ) → Option Data → Saying
saying_in Fresh method value = just (said_fresh method)
saying_in Running method value = saying_by method value
saying_in Shut method value = just (said_shut method)
saying_in (Ended orderly) method value = just (said_shut method)

-- of a message without a method that it is no request
abbrev pub saying_for : Stage → (method : Option (List ℕ)) → Option Data → Saying
saying_for stage None value = just (fails NoRequest (codes "a request has a method"))
saying_for stage (Some method) value = saying_in stage method value

-- what there is to say of a message, by how far the server was before it
abbrev pub saying_of : Stage → Option Data → Saying
saying_of stage value = saying_for stage (method_in value) value

-- The result of a question about a place of the text of a name, and of the last one of this name that parsed.
abbrev pub IsResultAt : Asks → (uri text : List ℕ) (parsed : Option (List ℕ)) → Place → Data → Type 0
IsResultAt asks.Hover uri text parsed place result = Hovers text parsed place result
IsResultAt asks.Completion uri text parsed place result = Completes text parsed place result
IsResultAt asks.Definition uri text parsed place result = Defines uri text parsed place result

-- The result of a question about a whole text: what it declares.
abbrev pub IsResultOn : (text : List ℕ) → Data → Type 0
IsResultOn text result = Outlines text result

-- a result is that of a question about a position of a text; null where the text is not open
abbrev pub IsGivenAt : Asks → (uri : List ℕ) (text parsed : Option (List ℕ)) → Position → Data → Type 0
IsGivenAt asked uri None parsed position result = result ≡ null
IsGivenAt asked uri (Some text) parsed position result =
    (place : Place) × IsPlaceOf text position place × IsResultAt asked uri text parsed place result

-- a result is that of a question about a whole text; null where the text is not open
abbrev pub IsGivenOn : (text : Option (List ℕ)) → Data → Type 0
IsGivenOn None result = result ≡ null
IsGivenOn (Some text) result = IsResultOn text result

-- this is said of a request, by the texts that are open
abbrev pub Says : Texts → Saying → Said → Type 0
Says texts (just said) given = given ≡ said
Says texts (at_position asked uri position) (gives result) =
    IsGivenAt asked uri (held texts uri) (earlier texts uri) position result
Says texts (at_position asked uri position) (fails code why) = ⊥
Says texts (of_text uri) (gives result) = IsGivenOn (held texts uri) result
Says texts (of_text uri) (fails code why) = ⊥
