-- What tokens declare in sections.
use Rattle.std.proofs.Common.{◌≡◌, ℕ, ◌+◌, ◌<◌, List, [], ◌∷◌, ◌++◌, length, take, get_or, Option, Some, None, option_map, refl, sym, ap, ◌∙◌}
use Rattle.std.specs.Option.{option_or}
use Rattle.std.specs.Prelude.{option_and_then}
use Rattle.std.proofs.lemmas.List.{take_more}
use Rattle.std.proofs.lemmas.Option.{slice_get-get_or}
use Rattle.ps_lexer.specs.declared.token.Form.TheVariants as form
use Rattle.ps_lexer.specs.declared.token.Token.{Token}
use Rattle.ps_lexer.specs.declared.token.Word.{Word}
use Rattle.ps_lsp_text.specs.Outlining.{is_within, last_keyword, opens}
use Rattle.ps_lsp_text.specs.Sections.{opens_section, word_in, word_of_form}

or_none : (o : Option Word) → option_or o None ≡ o
or_none None = refl
or_none (Some word) = refl

or_assoc : (a b c : Option Word) → option_or (option_or a b) c ≡ option_or a (option_or b c)
or_assoc None b c = refl
or_assoc (Some word) b c = refl

-- the last keyword after one more token
last_more : (tokens : List Token) (t : Token) → last_keyword (tokens ++ t ∷ []) ≡ option_or (word_of_form t.form) (last_keyword tokens)
last_more [] t = sym (or_none (word_of_form t.form))
last_more (x ∷ tokens) t =
    ap (λ (o : Option Word). option_or o (word_of_form x.form)) (last_more tokens t)
    ∙ or_assoc (word_of_form t.form) (last_keyword tokens) (word_of_form x.form)

some_token : Token
some_token = record { form = form.Comma; «from» = 0; upto = 0; place = record { line = 0; column = 0 } }

module _ (tokens : List Token) (at : ℕ) (inside : at < length tokens) where
  within_next : is_within tokens (at + 1) ≡ opens (option_or (word_in tokens at) (last_keyword (take at tokens)))
  within_next =
      let token = get_or tokens at some_token in
      let there : word_of_form token.form ≡ word_in tokens at =
      ap (λ (o : Option Token). option_and_then word_of_form (option_map (λ (x : Token). x.form) o)) (sym (slice_get-get_or tokens at some_token inside)) in
      ap (λ (l : List Token). opens (last_keyword l)) (take_more tokens at some_token inside)
      ∙ ap opens (last_more (take at tokens) token)
      ∙ ap (λ (o : Option Word). opens (option_or o (last_keyword (take at tokens)))) there

  pub within_some : (word : Word) → word_in tokens at ≡ Some word → opens_section word ≡ is_within tokens (at + 1)
  within_some word there = sym (within_next ∙ ap (λ (o : Option Word). opens (option_or o (last_keyword (take at tokens)))) there)

  pub within_none : word_in tokens at ≡ None → is_within tokens at ≡ is_within tokens (at + 1)
  within_none there = sym (within_next ∙ ap (λ (o : Option Word). opens (option_or o (last_keyword (take at tokens)))) there)
