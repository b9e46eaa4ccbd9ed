-- How far a server is, by the methods of the messages that it was sent.
use Rattle.std.specs.Prelude.{List, ℕ, Bool, true, false, Option, Some, None, option_and_then, codes, bytes_eq, if◌then◌else◌}
use Rattle.serde_json.specs.Data.{Data}
use Rattle.serde_json.specs.Find.{as_str, get}
use Rattle.ps_lsp_text.specs.declared.server.Server.{Server}
use Rattle.ps_lsp_text.specs.declared.server.Stage.{Stage}
use Rattle.ps_lsp_text.specs.declared.server.Stage.TheVariants.{Fresh, Running, Shut, Ended}

-- the method of a message that was read, if it has one
abbrev pub method_in : Option Data → Option (List ℕ)
method_in value = option_and_then as_str (option_and_then (get (codes "method")) value)

-- Which stage a method leads to: `initialize` the first one, and after it `shutdown` the next; `exit` the last one from
-- any, in an orderly way after `shutdown` alone.
abbrev pub stage_by : Stage → (method : List ℕ) → Stage
stage_by Fresh method =
    if bytes_eq method (codes "exit") then Ended false else if bytes_eq method (codes "initialize") then Running else Fresh
stage_by Running method =
    if bytes_eq method (codes "exit") then Ended false else if bytes_eq method (codes "shutdown") then Shut else Running
stage_by Shut method = if bytes_eq method (codes "exit") then Ended true else Shut
stage_by (Ended orderly) method = if bytes_eq method (codes "exit") then Ended false else Ended orderly

-- the stage after a message; one without a method leaves it as it is
abbrev pub stage_after : Stage → (method : Option (List ℕ)) → Stage
stage_after stage None = stage
stage_after stage (Some method) = stage_by stage method

-- whether a stage is the last one, and then whether it came after `shutdown`
abbrev pub ended_by : Stage → Option Bool
ended_by Fresh = None
ended_by Running = None
ended_by Shut = None
ended_by (Ended orderly) = Some orderly

-- how far a server is
abbrev pub stage_of : Server → Stage
stage_of server = server.stage
