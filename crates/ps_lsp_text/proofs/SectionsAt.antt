-- The section of a token, by that of the token before it.
use Rattle.std.proofs.Common.{◌≡◌, ℕ, ◌+◌, ◌<◌, ◌≤◌, min, true, false, List, length, Option, Some, None, inl, inr, refl, sym, ap, ◌∙◌, arith}
use Rattle.std.proofs.lemmas.Bool.{cases_lt, true≢false}
use Rattle.std.proofs.lemmas.Option.{none-some, same_Some}
use Rattle.std.specs.Prelude.{option_and_then}
use Rattle.ps_lexer.specs.declared.token.Token.{Token}
use Rattle.ps_lexer.specs.declared.token.Word.{Word}
use Rattle.ps_lexer.specs.declared.token.Word.TheVariants as keyword
use Rattle.ps_lsp_text.specs.Sections.{IsSectionOf, bounds_section, opens_section, section_after, word_in, word_of_form}
use Rattle.ps_lsp_text.proofs.AtTokens.{form_past}

-- what opens a section bounds it
bounds_too : (word : Word) → opens_section word ≡ true → bounds_section word ≡ true
bounds_too keyword.Program opens = absurd (true≢false (sym opens))
bounds_too keyword.EndProgram opens = absurd (true≢false (sym opens))
bounds_too keyword.VarInput opens = refl
bounds_too keyword.VarOutput opens = refl
bounds_too keyword.Var opens = refl
bounds_too keyword.EndVar opens = absurd (true≢false (sym opens))
bounds_too keyword.And opens = absurd (true≢false (sym opens))
bounds_too keyword.Or opens = absurd (true≢false (sym opens))
bounds_too keyword.True opens = absurd (true≢false (sym opens))
bounds_too keyword.False opens = absurd (true≢false (sym opens))

module _ (tokens : List Token) where
  -- past the last token there is no keyword
  no_word : (k : ℕ) → length tokens ≤ k → word_in tokens k ≡ None
  no_word k past = ap (option_and_then word_of_form) (form_past tokens k past)

  -- tokens that neither open nor end a section leave it as it is
  still : (i at : ℕ) (was : Option Word) → i ≤ at → ((k : ℕ) → i ≤ k → k < at → (word : Word) → word_in tokens k ≡ Some word → bounds_section word ≡ false) →
      IsSectionOf tokens i was → IsSectionOf tokens at was
  still i at None upto other is = λ k less word there opens. elim (cases_lt k i) [
    | inl before ↦ let ends = is k before word there opens in let stands = ends.2 in (ends.0, ends.1, omega arith, ends.3)
    | inr late ↦ absurd (true≢false (sym (bounds_too word opens) ∙ other k late less word there))
  ]
  still i at (Some word) upto other is = let stands = is.1 in (
    is.0,
    omega arith,
    is.2,
    is.3,
    λ j after below later there. elim (cases_lt j i) [
      | inl before ↦ is.4 j after before later there
      | inr late ↦ other j late below later there
    ],
  )

  -- the section after one more token
  pub section_next : (i : ℕ) (was : Option Word) → IsSectionOf tokens i was → IsSectionOf tokens (i + 1) (section_after was (word_in tokens i))
  section_next i was is = by (word_in tokens i) refl
    where
      plain : (o : Option Word) → word_in tokens i ≡ o → ((word : Word) → o ≡ Some word → bounds_section word ≡ false) → IsSectionOf tokens (i + 1) was
      plain o here none = still i (i + 1) was (omega arith) (λ k late less word there.
          let same : k ≡ i = omega arith in none word (sym here ∙ ap (word_in tokens) (sym same) ∙ there)) is

      bounds_same : (a b : Word) → Some a ≡ Some b → bounds_section a ≡ false → bounds_section b ≡ false
      bounds_same a b same unbound = ap bounds_section (sym (same_Some a b same)) ∙ unbound

      opened_by : (word : Word) → word_in tokens i ≡ Some word → opens_section word ≡ true → IsSectionOf tokens (i + 1) (Some word)
      opened_by word here opens = (i, omega arith, here, opens, λ j after below later there. absurd (omega arith))

      by : (o : Option Word) → word_in tokens i ≡ o → IsSectionOf tokens (i + 1) (section_after was o)
      by None here = plain None here (λ word there. absurd (none-some word there))
      by (Some keyword.EndVar) here = λ k less word there opens. elim (cases_lt k i) [
        | inl before ↦ (i, before, omega arith, here)
        | inr late ↦
            let same : k ≡ i = omega arith in
            let ends : keyword.EndVar ≡ word = same_Some keyword.EndVar word (sym here ∙ ap (word_in tokens) (sym same) ∙ there) in
            absurd (true≢false (sym opens ∙ ap opens_section (sym ends)))
      ]
      by (Some keyword.Program) here = plain (Some keyword.Program) here (λ word there. bounds_same keyword.Program word there refl)
      by (Some keyword.EndProgram) here = plain (Some keyword.EndProgram) here (λ word there. bounds_same keyword.EndProgram word there refl)
      by (Some keyword.VarInput) here = opened_by keyword.VarInput here refl
      by (Some keyword.VarOutput) here = opened_by keyword.VarOutput here refl
      by (Some keyword.Var) here = opened_by keyword.Var here refl
      by (Some keyword.And) here = plain (Some keyword.And) here (λ word there. bounds_same keyword.And word there refl)
      by (Some keyword.Or) here = plain (Some keyword.Or) here (λ word there. bounds_same keyword.Or word there refl)
      by (Some keyword.True) here = plain (Some keyword.True) here (λ word there. bounds_same keyword.True word there refl)
      by (Some keyword.False) here = plain (Some keyword.False) here (λ word there. bounds_same keyword.False word there refl)

  -- after the tokens up to one, or all of them, it is that of the token
  pub section_all : (at i : ℕ) (was : Option Word) → i ≡ min at (length tokens) → IsSectionOf tokens i was → IsSectionOf tokens at was
  section_all at i was is known = still i at was (omega arith) (λ k late less word there. let none = no_word k (omega arith) in absurd (none-some word (sym none ∙ there))) known
