-- Sections among tokens.
use Rattle.std.specs.Prelude.{◌≡◌, ℕ, ◌<◌, Bool, true, false, List, Option, Some, None, option_and_then, if◌then◌else◌}
use Rattle.ps_lexer.specs.declared.token.Form.{Form}
use Rattle.ps_lexer.specs.declared.token.Form.TheVariants as form
use Rattle.ps_lexer.specs.declared.token.Token.{Token}
use Rattle.ps_lexer.specs.declared.token.Word.{Word}
use Rattle.ps_lexer.specs.declared.token.Word.TheVariants as keyword
use Rattle.ps_lsp_text.specs.Looking.{form_in}

-- the keyword that a form is
abbrev pub word_of_form : Form → Option Word
word_of_form (form.Word word) = Some word
word_of_form _ = None

-- the keyword at a place among the tokens, if there is one
abbrev pub word_in : List Token → ℕ → Option Word
word_in tokens i = option_and_then word_of_form (form_in tokens i)

-- whether a keyword opens a section of names
abbrev pub opens_section : Word → Bool
opens_section keyword.VarInput = true
opens_section keyword.VarOutput = true
opens_section keyword.Var = true
opens_section _ = false

-- whether a keyword opens such a section or ends it
abbrev pub bounds_section : Word → Bool
bounds_section keyword.EndVar = true
bounds_section word = opens_section word

-- the section that holds after a keyword, if there is one, and held before it
abbrev pub section_after : (was word : Option Word) → Option Word
section_after was None = was
section_after was (Some keyword.EndVar) = None
section_after was (Some word) = if opens_section word then Some word else was

-- The section in which a token stands, by the keyword that opens it: it does so before the token, and no section is
-- opened or ended from there on. None if each section that is opened before the token is ended before it.
abbrev pub IsSectionOf : (tokens : List Token) (at : ℕ) → Option Word → Type 0
IsSectionOf tokens at (Some word) =
    (k : ℕ) × (k < at) × (word_in tokens k ≡ Some word) × (opens_section word ≡ true)
    × ((j : ℕ) → k < j → j < at → (later : Word) → word_in tokens j ≡ Some later → bounds_section later ≡ false)
IsSectionOf tokens at None =
    (k : ℕ) → k < at → (word : Word) → word_in tokens k ≡ Some word → opens_section word ≡ true →
    (j : ℕ) × (k < j) × (j < at) × (word_in tokens j ≡ Some keyword.EndVar)
