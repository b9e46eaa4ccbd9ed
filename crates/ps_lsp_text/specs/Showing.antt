-- What the editor shows of a place in a text, as JSON after the Language Server Protocol.
use Rattle.std.specs.Prelude.{◌≡◌, ◌++◌, ℕ, List, [], Option, Some, None, codes, unwrap_or}
use Rattle.serde_json.specs.Data.{Data, null, string, object, member, no_members}
use Rattle.ps_base.specs.declared.failing.Place.{Place}
use Rattle.ps_lsp_text.specs.Demands.{IsDemandOfText}
use Rattle.ps_lsp_text.specs.Hovering.{IsHovered}
use Rattle.ps_lsp_text.specs.Published.{text_of}
use Rattle.ps_lsp_text.specs.declared.hovering.Hovered.{Hovered}

-- words in plain text
abbrev pub hover_data : (words : List ℕ) → Data
hover_data words =
    object (member (codes "contents") (object (member (codes "kind") (string (codes "plaintext"))
    (member (codes "value") (string (text_of words)) no_members))) no_members)

-- a demand in a line of its own, after other words
abbrev pub demand_line : Option (List ℕ) → List ℕ
demand_line None = []
demand_line (Some line) = codes "\n" ++ line

-- what is told besides of the output of a text, if one is there: what it demands
abbrev pub IsDemandTold : (text : List ℕ) → (output demand : Option (List ℕ)) → Type 0
IsDemandTold text None demand = demand ≡ None
IsDemandTold text (Some name) demand = IsDemandOfText text name demand

-- The answer by what is told of a place: null if nothing is, and else the words, and after them what the SAFEBOOL output
-- demands that is there, by the last text that parsed if this one does not.
abbrev pub IsShown : (text : List ℕ) (parsed : Option (List ℕ)) → Option Hovered → Data → Type 0
IsShown text parsed None answer = answer ≡ null
IsShown text parsed (Some told) answer =
    (demand : Option (List ℕ)) × IsDemandTold (unwrap_or parsed text) told.output demand × (answer ≡ hover_data (told.words ++ demand_line demand))

-- an answer shows what is told of a place of a text, or is null if nothing is told of it
pub record Hovers (text : List ℕ) (parsed : Option (List ℕ)) (place : Place) (answer : Data) : Type 0 where
  pub told : Option Hovered
  pub hovered : IsHovered text parsed place told
  pub shown : IsShown text parsed told answer
