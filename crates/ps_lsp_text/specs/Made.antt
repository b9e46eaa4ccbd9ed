-- Texts, lists and objects of JSON that are being made.
use Rattle.std.specs.Prelude.{◌≡◌, ◌++◌, ℕ, List, Bool, IsTrue}
use Rattle.serde_json.specs.Data.{Data, Members, put}
use Rattle.serde_json.specs.View.{members_view}
use Rattle.ps_lsp_text.specs.declared.made.MadeObject.{MadeObject}
use Rattle.ps_lsp_text.specs.declared.made.MadeText.{MadeText}

-- Unless it is not whole, a text was whole before, and has these bytes more.
abbrev pub Extends : (before after : MadeText) → (more : List ℕ) → Type 0
Extends before after more = IsTrue after.is_whole → IsTrue before.is_whole × (after.bytes ≡ before.bytes ++ more)

-- the members so far
abbrev pub members : MadeObject → Members
members made = members_view made.map.entries

-- Unless it is not whole, an object was whole before, and has one more member than it had.
abbrev pub Puts : (before after : MadeObject) → (key : List ℕ) → Data → Type 0
Puts before after key value = IsTrue after.is_whole → IsTrue before.is_whole × (members after ≡ put key value (members before))

-- Unless it is not whole, a list was whole before, and has these items more than it had.
abbrev pub Adds : {A : Type 0} → (was is : Bool) → (before after more : List A) → Type 0
Adds was is before after more = IsTrue is → IsTrue was × (after ≡ before ++ more)
