-- The texts that are open, under their names.
use Rattle.std.specs.Prelude.{List, [], ◌∷◌, ℕ, Bool, Option, Some, None, string_bytes, if◌then◌else◌}
use Rattle.std.specs.Str.{bytes_eq}
use Rattle.ps_lsp_text.specs.declared.texts.Text.{Text}
use Rattle.ps_lsp_text.specs.declared.texts.Texts.{Texts}

-- whether a text has this name
abbrev pub is_named : List ℕ → Text → Bool
is_named uri text = bytes_eq (string_bytes text.uri) uri

-- the bytes of the first text of a name among these
abbrev pub held_in : (uri : List ℕ) → List Text → Option (List ℕ)
held_in uri [] = None
held_in uri (text ∷ more) = if is_named uri text then Some text.bytes else held_in uri more

-- the bytes of the text of a name, if it is open
abbrev pub held : Texts → (uri : List ℕ) → Option (List ℕ)
held texts uri = held_in uri texts.list.items

-- the last text up to this one that parsed
abbrev pub parsed_of : Text → Option (List ℕ)
parsed_of text = if text.parses then Some text.bytes else text.before

-- the last one that parsed before the first text of a name among these, where that one does not parse
abbrev pub earlier_in : (uri : List ℕ) → List Text → Option (List ℕ)
earlier_in uri [] = None
earlier_in uri (text ∷ more) = if is_named uri text then (if text.parses then None else text.before) else earlier_in uri more

-- the last text of a name that parsed, if the one that is held does not and one before it did
abbrev pub earlier : Texts → (uri : List ℕ) → Option (List ℕ)
earlier texts uri = earlier_in uri texts.list.items
