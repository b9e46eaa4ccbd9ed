-- What is told of a refusal.
use Rattle.std.proofs.Common.{◌≡◌, ℕ, List, ◌++◌, subst}
use Rattle.ps_base.specs.declared.failing.Refusal.{Refusal}
use Rattle.ps_text.specs.Also.{also_text}
use Rattle.ps_message.specs.Message.{Says}

-- a message of a refusal with the lines of further ones
abbrev pub IsWithFurther : (name text : List ℕ) → Refusal → List ℕ → Type 0
IsWithFurther name text refusal bytes =
    (given first : List ℕ) × Says name text refusal given first
    × (further : List Refusal) × (more : ℕ) × (bytes ≡ first ++ also_text name text further more)

-- a message, and the lines after it
pub with_lines : (file name text given first lines bytes : List ℕ) (refusal : Refusal) → file ≡ name → Says file text refusal given first →
    ((further : List Refusal) × (more : ℕ) × (lines ≡ also_text file text further more)) → bytes ≡ first ++ lines → IsWithFurther name text refusal bytes
with_lines file name text given first lines bytes refusal same says also joined = (
  given,
  first,
  subst (λ (f : List ℕ). Says f text refusal given first) same says,
  also.0,
  also.1,
  subst (λ (f : List ℕ). bytes ≡ first ++ also_text f text also.0 also.1) same (subst (λ (l : List ℕ). bytes ≡ first ++ l) also.2 joined),
)
