-- Requests and answers, after JSON-RPC 2.0: what a message asks, and what its answer is.
use Rattle.std.specs.Prelude.{◌≡◌, ℕ, ℤ, negsuc, List, Option, Some, None, Bool, true, false, codes, cond}
use Rattle.std.specs.Prelude.{option_map, option_and_then}
use Rattle.std.specs.Str.{IsUtf8}
use Rattle.serde_json.specs.Data.{Data, null, boolean, number, string, array, object, member}
use Rattle.serde_json.specs.Data.{no_members}
use Rattle.serde_json.specs.Find.{get, as_str, of_integer}
use Rattle.serde_json.specs.Read.{read}
use Rattle.serde_json.specs.View.{view}
use Rattle.ps_lsp_rpc.specs.declared.request.Request.{Request}
use Rattle.ps_lsp_rpc.specs.declared.answering.Code.{Code}
use Rattle.ps_lsp_rpc.specs.declared.answering.Code.TheVariants.{NoJson, NoRequest, NoMethod, NoParams, NotReady}
use Rattle.ps_lsp_rpc.specs.declared.answering.Outcome.{Outcome}
use Rattle.ps_lsp_rpc.specs.declared.answering.Outcome.TheVariants.{Given, Failed}

-- what a message asks
pub data Asked : Type 0 where
  -- it is no JSON
  unreadable : Asked
  -- it is JSON and no request: why
  invalid : (why : List ℕ) → Asked
  -- a request, which has an answer under its id
  request : (id : Data) → (method : List ℕ) → Asked
  -- a notification, which has no answer
  notification : (method : List ℕ) → Asked
  -- an answer of the other side, which has none either
  answer : Asked

-- whether a value is an id: a number or a text
abbrev pub is_id : Data → Bool
is_id (number n) = true
is_id (string s) = true
is_id null = false
is_id (boolean b) = false
is_id (array _) = false
is_id (object _) = false

-- what a message with this id and this method asks, of which each may be wanting
abbrev pub asked_by : Option Data → Option (List ℕ) → Asked
asked_by (Some id) (Some method) = cond (is_id id) (request id method) (invalid (codes "an id is a number or a text"))
asked_by (Some id) None = answer
asked_by None (Some method) = notification method
asked_by None None = invalid (codes "a request has a method")

-- what a message of this value asks
abbrev pub asked_of : Data → Asked
asked_of value = asked_by (get (codes "id") value) (option_and_then as_str (get (codes "method") value))

-- what a message that was read, or could not be, asks
abbrev pub asked : Option Data → Asked
asked None = unreadable
asked (Some value) = asked_of value

-- the JSON value of a message, if it is one
abbrev pub value_of : Request → Option Data
value_of r = option_map view r.value

-- what the bytes of a message are: a JSON value, or none
abbrev pub IsReadAs : List ℕ → Option Data → Type 0
IsReadAs body (Some value) = IsUtf8 body × (read body ≡ Some value)
IsReadAs body None = IsUtf8 body → read body ≡ None

-- the numbers of JSON-RPC and of the protocol
abbrev pub code_number : Code → ℤ
code_number NoJson = negsuc 32699
code_number NoRequest = negsuc 32599
code_number NoMethod = negsuc 32600
code_number NoParams = negsuc 32601
code_number NotReady = negsuc 32001

-- the answer to the request of an id, with its result
abbrev pub success : (id result : Data) → Data
success id result = object (member (codes "id") id (member (codes "jsonrpc") (string (codes "2.0")) (member (codes "result") result no_members)))

-- the answer to the request of an id that has none: why
abbrev pub failure : (id : Data) → Code → (why : List ℕ) → Data
failure id code why =
    object (member (codes "error") (object (member (codes "code") (number (of_integer (code_number code))) (member (codes "message") (string why) no_members)))
    (member (codes "id") id (member (codes "jsonrpc") (string (codes "2.0")) no_members)))

-- what there is to say of a request: its result, or why it has none
pub data Said : Type 0 where
  gives : (value : Data) → Said
  fails : Code → (why : List ℕ) → Said

-- what an outcome says
abbrev pub said_by : Outcome → Said
said_by (Given value) = gives (view value)
said_by (Failed code why) = fails code why.now

-- the answer to the request of an id of which this is said
abbrev pub answer_of : (id : Data) → Said → Data
answer_of id (gives value) = success id value
answer_of id (fails code why) = failure id code why

-- The answer to a message of which this is said, where it is a request: a request has one, under its id, that says just
-- this; what is no request has one under no id, that says so; and a notification or an answer has none.
abbrev pub answer_to : Asked → Said → Option Data
answer_to (request id method) said = Some (answer_of id said)
answer_to unreadable said = Some (failure null NoJson (codes "the message is no JSON"))
answer_to (invalid why) said = Some (failure null NoRequest why)
answer_to (notification method) said = None
answer_to answer said = None
