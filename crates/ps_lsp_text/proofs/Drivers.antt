-- The statement that drives a name.
use Rattle.std.proofs.Common.{◌≡◌, ℕ, ◌+◌, ◌-◌, ◌<◌, ◌≤◌, ◌⊎◌, min, max, List, length, take, drop, Some, inl, inr, ap, sym, ◌∙◌, arith}
use Rattle.std.proofs.lemmas.Bool.{cases_lt}
use Rattle.std.proofs.lemmas.List.{drop-take, drop_all, take_all, length-drop, length-take}
use Rattle.std.proofs.lemmas.Option.{none-some}
use Rattle.std.specs.List.{slice_range}
use Rattle.std.specs.Prelude.{option_and_then}
use Rattle.ps_lexer.specs.declared.token.Token.{Token}
use Rattle.ps_lsp_text.specs.Driving.{Drives}
use Rattle.ps_lsp_text.specs.Looking.{name_in, name_of_form}
use Rattle.ps_lsp_text.proofs.AtTokens.{form_past}

-- a name is a token
pub name_within : (tokens : List Token) (k : ℕ) (name : List ℕ) → name_in tokens k ≡ Some name → k < length tokens
name_within tokens k name is = elim (cases_lt k (length tokens)) [
  | inl inside ↦ inside
  | inr past ↦ absurd (none-some name (sym (ap (option_and_then name_of_form) (form_past tokens k past)) ∙ is))
]

-- no token drives a name
pub none_drives : (tokens : List Token) (name : List ℕ) («from» at : ℕ) → ((k : ℕ) → «from» ≤ k → k < at → Drives tokens name k → ⊥) → length tokens ≤ at →
    (k : ℕ) → «from» ≤ k → Drives tokens name k → ⊥
none_drives tokens name start at none all k late drives = let inside = name_within tokens k drives.spelt drives.is in none k late (omega arith) drives

-- the bytes of a text from one place up to another, if a slice takes them
pub piece_is : (text : List ℕ) (first upto begin end : ℕ) → begin ≡ min first (length text) → end ≡ max (min upto (length text)) begin →
    slice_range text begin end ≡ drop first (take upto text)
piece_is text first upto begin end begins ends = by (cases_lt upto first) (cases_lt (length text) upto)
  where
    from_there : first ≤ length text → drop begin text ≡ drop first text
    from_there within = let same : begin ≡ first = omega arith in ap (λ (n : ℕ). drop n text) same

    by : upto < first ⊎ first ≤ upto → length text < upto ⊎ upto ≤ length text → slice_range text begin end ≡ drop first (take upto text)
    by (inl before) size =
        let none : end - begin ≡ 0 = omega arith in
        let short = length-take upto text in
        ap (λ (n : ℕ). take n (drop begin text)) none ∙ sym (drop_all first (take upto text) (omega arith))
    by (inr after) (inr within) =
        let same : begin ≡ first = omega arith in
        let width : end - begin ≡ upto - first = omega arith in
        let all : first + (upto - first) ≡ upto = omega arith in
        ap (λ (n : ℕ). take n (drop begin text)) width ∙ ap (λ (n : ℕ). take (upto - first) (drop n text)) same
        ∙ sym (drop-take first (upto - first) text) ∙ ap (λ (n : ℕ). drop first (take n text)) all
    by (inr after) (inl past) =
        let rest = length-drop begin text in
        let whole : take (end - begin) (drop begin text) ≡ drop begin text = take_all (end - begin) (drop begin text) (omega arith) in
        let every : take upto text ≡ text = take_all upto text (omega arith) in
        whole ∙ same (cases_lt (length text) first) ∙ ap (drop first) (sym every)
      where
        same : length text < first ⊎ first ≤ length text → drop begin text ≡ drop first text
        same (inl past_all) = drop_all begin text (omega arith) ∙ sym (drop_all first text (omega arith))
        same (inr within) = from_there within
