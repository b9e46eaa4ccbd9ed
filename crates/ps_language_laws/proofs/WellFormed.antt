-- Tokens that a text is read as are well formed, and there are no more of them than bytes.
use Rattle.std.proofs.Common.{ℕ, ◌+◌, ◌≤◌, inl, inr, List, [], ◌∷◌, length, Ok, sym, subst, arith}
use Rattle.std.specs.List.{AllByRecursion}
use Rattle.ps_lexer.specs.declared.token.Form.{Form}
use Rattle.ps_lexer.specs.declared.token.Form.TheVariants as form
use Rattle.ps_lexer.specs.declared.token.Token.{Token}
use Rattle.ps_lexer.specs.declared.token.Tokens.{Tokens}
use Rattle.ps_lexer.specs.Spelling.{IsName, IsWellFormed, IsTokenList}
use Rattle.ps_lexer.specs.Shapes.{Spells}
use Rattle.ps_lexer.specs.Reading.{Reads, nothing, blank, block, line, token, SpansInOrder, tokens}
use Rattle.ps_lexer.proofs.Pieces.{in_order}

-- what is spelt is well formed
spelt_well : (f : Form) (bytes : List ℕ) → Spells f bytes → IsWellFormed f
spelt_well (form.Name name) bytes (inl s) = absurd s
spelt_well (form.Name name) bytes (inr s) = subst IsName (sym s.0) s.1
spelt_well (form.Time v) bytes (inl s) = absurd s
spelt_well (form.Time v) bytes (inr t) = t.value.1
spelt_well (form.Word k) bytes s = tt
spelt_well form.Assign bytes s = tt
spelt_well form.Colon bytes s = tt
spelt_well form.Semicolon bytes s = tt
spelt_well form.Comma bytes s = tt
spelt_well form.LeftBracket bytes s = tt
spelt_well form.RightBracket bytes s = tt
spelt_well form.Dot bytes s = tt

read_well : {text : List ℕ} {i j : ℕ} {ts : List Token} → Reads text i ts j → AllByRecursion (λ t. IsWellFormed t.form) ts
read_well nothing = tt
read_well (blank b r) = read_well r
read_well (block c r) = read_well r
read_well (line c r) = read_well r
read_well (token t e is r) = (spelt_well t.form _ is.spells, read_well r)

few_spans : (i j : ℕ) (ts : List Token) → SpansInOrder i ts j → length ts + i ≤ j
few_spans i j [] s = omega arith
few_spans i j (t ∷ ts) s = let a = s.0 in let b = s.1 in omega (arith, few_spans t.upto j ts s.2)

pub well_formed : (text : List ℕ) (t : Tokens) → tokens text (Ok t) → IsTokenList t.list
well_formed text t h = let small = h.0 in record { forms = read_well h.1; few = omega (arith, few_spans 0 (length text) t.list (in_order h.1), small) }
