-- What is a name of the grammar, and of a source.
use Rattle.std.specs.Prelude.{◌≡◌, ℕ, List, ◌∷◌, ◌++◌, Option, Some, None, codes, if◌then◌else◌}
use Rattle.ps_base.specs.LetterCase.{is_same_name}
use Rattle.ps_lexer.specs.Spelling.{IsName}
use Rattle.ps_parser.specs.declared.sign.Sign.{Sign}
use Rattle.ps_parser.specs.declared.sign.Sign.TheVariants.{FunctionBlock, EndFunctionBlock}

-- FUNCTION_BLOCK and END_FUNCTION_BLOCK, in any letter case, are keywords of the grammar
abbrev pub block_word : List ℕ → Option Sign
block_word text =
    if is_same_name text (codes "FUNCTION_BLOCK") then Some FunctionBlock else
    (if is_same_name text (codes "END_FUNCTION_BLOCK") then Some EndFunctionBlock else None)

-- a name of the grammar: a name of the language that is no such keyword
pub record IsPlainName (text : List ℕ) : Type 0 where
  pub name : IsName text
  pub plain : block_word text ≡ None

-- a name, or several names joined by dots as one name
pub data IsDottedName : List ℕ → Type 0 where
  single : {text : List ℕ} → IsName text → IsDottedName text
  joined : {text : List ℕ} (first rest : List ℕ) → IsName first → IsDottedName rest → text ≡ first ++ 46 ∷ rest → IsDottedName text
