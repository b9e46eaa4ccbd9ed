-- What stands at a place among tokens.
use Rattle.std.proofs.Common.{◌≡◌, ℕ, ◌+◌, ◌<◌, ◌≤◌, Bool, true, false, ◌&&◌, option_and_then, List, length, Option, Some, None, Bor, option_map, option_copied, is_some, nat_lt, slice_index_or, slice_get, IfSome, inl, inr, refl, ap, sym, ◌∙◌, arith, get_or}
use Rattle.std.specs.Prelude.{position}
use Rattle.std.specs.List.{position_or_len}
use Rattle.std.proofs.lemmas.Bool.{cases_lt, cond-true, cond-false, lt-ltb, le-ltb}
use Rattle.std.proofs.lemmas.List.{get_or_default}
use Rattle.std.proofs.lemmas.List.Sums.{position_or_len_is}
use Rattle.std.proofs.lemmas.Bool.Decides.{nat_tests}
use Rattle.std.proofs.lemmas.Option.{slice_get_past, slice_get_read}
use Rattle.ps_base.specs.declared.failing.Place.{Place}
use Rattle.ps_lexer.specs.declared.token.Form.{Form}
use Rattle.ps_lexer.specs.declared.token.Form.TheVariants as form
use Rattle.ps_lexer.specs.declared.token.Token.{Token}
use Rattle.ps_lsp_text.specs.Looking.{form_in, name_in, name_of_form, touches, is_touched}

-- the token at a place, as a call gives it
pub got : (tokens : List Token) (k : ℕ) (r : Option (Bor Token)) → is_some r ≡ nat_lt k (length tokens) →
    IfSome r (λ x. x.now ≡ slice_index_or tokens k x.now) → option_copied r ≡ slice_get tokens k
got tokens k None within is = sym (slice_get_past tokens k (grind (arith, nat_tests)))
got tokens k (Some x) within is = sym (slice_get_read tokens (length tokens) k x.now refl (grind (arith, nat_tests)) is)

-- past the last token there is none
pub form_past : (tokens : List Token) (k : ℕ) → length tokens ≤ k → form_in tokens k ≡ None
form_past tokens k past = ap (option_map (λ (t : Token). t.form)) (slice_get_past tokens k past)

-- where a form stands, a token does
pub form_within : (tokens : List Token) (k : ℕ) (f : Form) → form_in tokens k ≡ Some f → k < length tokens
form_within tokens k f at = elim (cases_lt k (length tokens)) [
  | inl inside ↦ inside
  | inr past ↦ let none = form_past tokens k past in absurd (cc)
]

some_token : Token
some_token = record { form = form.Comma; «from» = 0; upto = 0; place = record { line = 0; column = 0 } }

-- the first place that passes a test, by a loop over the tokens
module _ (test : Token → Bool) (tokens : List Token) (i : ℕ) where
  pub test_below : (t : Token) → i < length tokens → t ≡ get_or tokens i t → ((k : ℕ) → k < i → (d : Token) → test (get_or tokens k d) ≡ false) → test t ≡ false →
      (k : ℕ) → k < i + 1 → (d : Token) → test (get_or tokens k d) ≡ false
  test_below t inside is below here k less d = elim (cases_lt k i) [
    | inl before ↦ below k before d
    | inr more ↦ let same : k ≡ i = omega arith in
        ap (λ (n : ℕ). test (get_or tokens n d)) same ∙ ap test (get_or_default tokens i d t inside ∙ sym is) ∙ here
  ]

  pub first_here : (t : Token) → i < length tokens → t ≡ get_or tokens i t → ((k : ℕ) → k < i → (d : Token) → test (get_or tokens k d) ≡ false) → test t ≡ true →
      i ≡ position_or_len test tokens
  first_here t inside is below here = sym (position_or_len_is test tokens i t (omega arith) (λ k less. below k less t) (λ h. ap test (sym is) ∙ here))

  pub none_first : length tokens ≤ i → ((k : ℕ) → k < i → (d : Token) → test (get_or tokens k d) ≡ false) → (n : ℕ) → n ≡ length tokens → n ≡ position_or_len test tokens
  none_first past below n is =
      sym (position_or_len_is test tokens n some_token (omega arith) (λ k less. below k (omega arith) some_token) (λ h. absurd (omega arith)))

  pub touched_here : (t : Token) → i < length tokens → t ≡ get_or tokens i t → ((k : ℕ) → k < i → (d : Token) → test (get_or tokens k d) ≡ false) → test t ≡ true →
      Some i ≡ position test tokens
  touched_here t inside is below here =
      let first : position_or_len test tokens ≡ i = position_or_len_is test tokens i t (omega arith) (λ k less. below k less t) (λ h. ap test (sym is) ∙ here) in
      sym (cond-true (nat_lt (position_or_len test tokens) (length tokens)) (Some (position_or_len test tokens)) None (lt-ltb (position_or_len test tokens) (length tokens) (omega arith)) ∙ ap Some first)

  pub touched_nowhere : length tokens ≤ i → ((k : ℕ) → k < i → (d : Token) → test (get_or tokens k d) ≡ false) → None ≡ position test tokens
  touched_nowhere past below =
      sym (cond-false (nat_lt (position_or_len test tokens) (length tokens)) (Some (position_or_len test tokens)) None
      (le-ltb (position_or_len test tokens) (length tokens) (let last = none_first past below (length tokens) refl in omega arith)))

-- a token that a place touches is a name that it touches, if it is a name
module _ (place : Place) (tokens : List Token) (i : ℕ) (t : Token) (inside : i < length tokens) (is : t ≡ get_or tokens i t) where
  pub named : name_in tokens i ≡ name_of_form t.form
  named = ap (λ (o : Option Token). option_and_then name_of_form (option_map (λ (x : Token). x.form) o)) (slice_get_read tokens (length tokens) i t refl inside is)

  pub is_touched_true : touches place t ≡ true → is_some (name_in tokens i) ≡ true → is_touched place t ≡ true
  is_touched_true here name = let n = ap is_some (sym named) ∙ name in ap (λ (b : Bool). b && is_some (name_of_form t.form)) here ∙ n

  pub is_touched_unnamed : is_some (name_in tokens i) ≡ false → is_touched place t ≡ false
  is_touched_unnamed none = let n = ap is_some (sym named) ∙ none in ap (λ (b : Bool). touches place t && b) n ∙ never (touches place t)
    where
      never : (b : Bool) → b && false ≡ false
      never true = refl
      never false = refl

pub is_touched_apart : (place : Place) (t : Token) → touches place t ≡ false → is_touched place t ≡ false
is_touched_apart place t apart = ap (λ (b : Bool). b && is_some (name_of_form t.form)) apart

-- a name is there, as a call gives it, or none
pub name_there : (r : Option (Bor (List ℕ))) (o : Option (List ℕ)) → option_map (λ name. name.now) r ≡ o → is_some r ≡ is_some o
name_there None o e = ap is_some e
name_there (Some n) o e = ap is_some e
