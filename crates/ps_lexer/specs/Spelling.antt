-- How words and names are spelt. Bytes are ASCII codes.
use Rattle.std.specs.Prelude.{◌≡◌, ◌==◌, ℕ, ◌<◌, ◌≤◌, Bool, true, ◌||◌, List, length, codes, slice_index}
use Rattle.std.specs.List.{AllByRecursion}
use Rattle.std.specs.Char.{is_ascii_alphabetic, is_ascii_digit}
pub use Rattle.ps_base.specs.LetterCase.{folded}
use Rattle.ps_base.specs.declared.limits.TheConstants.{LONGEST_NAME, LARGEST_TIME, MOST_TOKENS}
use Rattle.ps_lexer.specs.declared.token.Form.{Form}
use Rattle.ps_lexer.specs.declared.token.Form.TheVariants as form
use Rattle.ps_lexer.specs.declared.token.Token.{Token}
use Rattle.ps_lexer.specs.declared.token.Word.{Word}
use Rattle.ps_lexer.specs.declared.token.Word.TheVariants as word

-- a letter or `_`, which a name begins with
abbrev pub begins_name : ℕ → Bool
begins_name b = is_ascii_alphabetic b || b == 95

-- a letter, `_` or a digit, which a name goes on with
abbrev pub continues_name : ℕ → Bool
continues_name b = begins_name b || is_ascii_digit b

-- a letter or `_`, and then letters, `_` and digits: a name or a keyword, of any length
pub record IsIdentifier (bytes : List ℕ) : Type 0 where
  pub some : 0 < length bytes
  pub begins : begins_name (slice_index bytes 0) ≡ true
  pub continues : (k : ℕ) → k < length bytes → continues_name (slice_index bytes k) ≡ true

-- a keyword in lower case
abbrev pub spelling : Word → List ℕ
spelling word.Program = codes "program"
spelling word.EndProgram = codes "end_program"
spelling word.VarInput = codes "var_input"
spelling word.VarOutput = codes "var_output"
spelling word.Var = codes "var"
spelling word.EndVar = codes "end_var"
spelling word.And = codes "and"
spelling word.Or = codes "or"
spelling word.True = codes "true"
spelling word.False = codes "false"

-- an identifier of at most 64 bytes that is no keyword in any letter case
pub record IsName (bytes : List ℕ) : Type 0 where
  pub identifier : IsIdentifier bytes
  pub short : length bytes ≤ LONGEST_NAME
  pub no_keyword : (k : Word) → folded bytes ≡ spelling k → ⊥

-- where the form is a name, its bytes are a name of the language, and where it is a TIME literal, its value has its
-- limit
abbrev pub IsWellFormed : Form → Type 0
IsWellFormed (form.Name bytes) = IsName bytes
IsWellFormed (form.Time v) = v ≤ LARGEST_TIME
IsWellFormed _ = Unit {0}

-- each token is well formed, and there are at most 1,048,576 of them
pub record IsTokenList (tokens : List Token) : Type 0 where
  pub forms : AllByRecursion (λ t. IsWellFormed t.form) tokens
  pub few : length tokens ≤ MOST_TOKENS
