-- The tokens of a declaration.
use Rattle.std.proofs.Common.{◌≡◌, ◌<◌, ◌++◌, ◌∙◌, ◌&&◌, ℕ, List, [], ◌∷◌, Bool, true, false, codes, length, refl, ap, arith, append_assoc}
use Rattle.std.specs.List.{list_all}
use Rattle.std.proofs.lemmas.Bool.Decides.{nat_tests}
use Rattle.ps_bench_waves.specs.declared.wire.Wire.{Wire}
use Rattle.ps_bench_waves.specs.declared.wire.Shape.{Shape}
use Rattle.ps_bench_waves.specs.declared.wire.Shape.TheVariants.{Bit, Code, Count, Words}
use Rattle.ps_bench_waves.specs.Identifiers.{identifier}
use Rattle.ps_bench_waves.specs.Declarations.{type_text, range_text, wire_text}
use Rattle.ps_bench_waves.specs.Reading.{is_white, tokens}
use Rattle.ps_bench_waves.specs.ReadBack.{is_printable, type_word, size_word, range_words, wire_tokens}
use Rattle.ps_bench_waves.proofs.Tokens.{AreInk, both_hold, identifier_ink, identifier_some, token_of}

printable_ink : (b : ℕ) → is_printable b ≡ true → is_white b ≡ false
printable_ink b prints = grind (arith, nat_tests)

name_ink : (name : List ℕ) → list_all is_printable name ≡ true → AreInk name
name_ink [] prints = tt
name_ink (b ∷ name) prints =
    let both = both_hold (is_printable b) (list_all is_printable name) prints in
    (printable_ink b both.0, name_ink name both.1)

-- an identifier and a name before a blank
named_back : (number : ℕ) (name rest : List ℕ) → 0 < length name → list_all is_printable name ≡ true →
    tokens (identifier number ++ 32 ∷ (name ++ 32 ∷ rest)) ≡ identifier number ∷ name ∷ tokens rest
named_back number name rest some prints =
    token_of (identifier number) 32 (name ++ 32 ∷ rest) (identifier_some number) (identifier_ink number) refl
    ∙ ap (λ (ts : List (List ℕ)). identifier number ∷ ts) (token_of name 32 rest some (name_ink name prints) refl)

-- the parts of a line, and what stands after it
line_apart : (type id name range rest : List ℕ) → (type ++ (id ++ (codes " " ++ (name ++ range)))) ++ rest ≡ type ++ (id ++ 32 ∷ (name ++ (range ++ rest)))
line_apart type id name range rest =
    append_assoc type (id ++ (codes " " ++ (name ++ range))) rest
    ∙ ap (λ (bytes : List ℕ). type ++ bytes) (append_assoc id (codes " " ++ (name ++ range)) rest ∙ ap (λ (bytes : List ℕ). id ++ 32 ∷ bytes) (append_assoc name range rest))

module _ (number : ℕ) (name rest : List ℕ) (some : 0 < length name) (prints : list_all is_printable name ≡ true) where
  by_shape : (shape : Shape) → tokens ((type_text shape ++ (identifier number ++ (codes " " ++ (name ++ range_text shape)))) ++ rest)
      ≡ (codes "$var" ∷ type_word shape ∷ size_word shape ∷ identifier number ∷ name ∷ (range_words shape ++ codes "$end" ∷ [])) ++ tokens rest
  by_shape Bit =
      ap tokens (line_apart (type_text Bit) (identifier number) name (range_text Bit) rest)
      ∙ ap (λ (ts : List (List ℕ)). codes "$var" ∷ codes "wire" ∷ codes "1" ∷ ts) (named_back number name (codes "$end\n" ++ rest) some prints)
  by_shape Code =
      ap tokens (line_apart (type_text Code) (identifier number) name (range_text Code) rest)
      ∙ ap (λ (ts : List (List ℕ)). codes "$var" ∷ codes "wire" ∷ codes "16" ∷ ts) (named_back number name (codes "[15:0] $end\n" ++ rest) some prints)
  by_shape Count =
      ap tokens (line_apart (type_text Count) (identifier number) name (range_text Count) rest)
      ∙ ap (λ (ts : List (List ℕ)). codes "$var" ∷ codes "wire" ∷ codes "64" ∷ ts) (named_back number name (codes "[63:0] $end\n" ++ rest) some prints)
  by_shape Words =
      ap tokens (line_apart (type_text Words) (identifier number) name (range_text Words) rest)
      ∙ ap (λ (ts : List (List ℕ)). codes "$var" ∷ codes "string" ∷ codes "1" ∷ ts) (named_back number name (codes "$end\n" ++ rest) some prints)

pub wire_back : (number : ℕ) (wire : Wire) (rest : List ℕ) → 0 < length wire.name → list_all is_printable wire.name ≡ true → tokens (wire_text number wire ++ rest) ≡ wire_tokens number wire ++ tokens rest
wire_back number wire rest some prints = by_shape number wire.name rest some prints wire.shape
