-- Where names are declared, today or earlier.
use Rattle.std.proofs.Common.{◌≡◌, ℕ, ◌-◌, ◌<◌, ◌≤◌, Bool, true, false, ◌&&◌, List, length, Option, Some, None, Bor, option_map, nat_lt, slice_get, IfNone, refl, ap, sym, ◌∙◌, subst, arith}
use Rattle.std.specs.Bool.{MatchBool}
use Rattle.std.proofs.lemmas.Bool.{lt-ltb, le-ltb}
use Rattle.std.proofs.lemmas.Option.{same_Some}
use Rattle.ps_lexer.specs.declared.token.Token.{Token}
use Rattle.ps_lsp_text.specs.Looking.{form_in, name_in, width_of}
use Rattle.ps_lsp_text.specs.Declaring.{IsDeclaration, IsUndeclared}
use Rattle.ps_lsp_text.specs.Defining.{is_dot, is_behind_dot, IsAt, IsFound, IsDefinition}
use Rattle.ps_lsp_text.specs.declared.defining.Defined.{Defined}
use Rattle.ps_lsp_text.specs.declared.sight.Declared.{Declared}
use Rattle.ps_lsp_text.proofs.AmongTokens.{declares_within}

-- what holds of no result
pub if_none : {A : Type 0} (r : Option A) (P : Type 0) → P → IfNone r P
if_none None P p = p
if_none (Some x) P p = tt

pub if_none_then : {A : Type 0} {P Q : Type 0} (r : Option A) → IfNone r P → (P → Q) → IfNone r Q
if_none_then None p then = then p
if_none_then (Some x) p then = tt

-- what holds of a call's name that is none
pub if_no_name : (r : Option (Bor (List ℕ))) (P : Option (List ℕ) → Type 0) (Q : Type 0) → P (option_map (λ (x : Bor (List ℕ)). x.now) r) → (P None → Q) → IfNone r Q
if_no_name None P Q p then = then p
if_no_name (Some x) P Q p then = tt

-- the tokens of a sight are those that it gives
pub undeclared_in : (tokens today : List Token) (name : List ℕ) → tokens ≡ today → IsUndeclared tokens name → IsUndeclared today name
undeclared_in tokens today name same none = subst (λ (l : List Token). IsUndeclared l name) same none

pub declaration_in : (tokens again earlier : List Token) (name : List ℕ) (at : ℕ) → tokens ≡ earlier → again ≡ earlier →
    IsDeclaration tokens name (length again) at → IsDeclaration earlier name (length earlier) at
declaration_in tokens again earlier name at same all is =
    subst (λ (l : List Token). IsDeclaration l name (length earlier) at) same (subst (λ (l : List Token). IsDeclaration tokens name (length l) at) all is)

-- the name at a token, as a call gives it
pub name_known : (tokens today : List Token) (at : ℕ) (r : Option (Bor (List ℕ))) (n : Bor (List ℕ)) → option_map (λ (x : Bor (List ℕ)). x.now) r ≡ name_in tokens at →
    tokens ≡ today → r ≡ Some n → name_in today at ≡ Some n.now
name_known tokens today at r n gives same is =
    ap (λ (l : List Token). name_in l at) (sym same) ∙ sym gives ∙ ap (λ (o : Option (Bor (List ℕ))). option_map (λ (x : Bor (List ℕ)). x.now) o) is

-- no dot stands before a token
pub first_apart : (today : List Token) (at : ℕ) → at ≤ 0 → is_behind_dot today at ≡ false
first_apart today at begin = ap (λ (b : Bool). b && is_dot (form_in today (at - 1))) (le-ltb 0 at begin)

pub dot_apart : (tokens today : List Token) (at before : ℕ) (b : Bool) → b ≡ is_dot (form_in tokens before) → tokens ≡ today → before ≡ at - 1 → b ≡ false → is_behind_dot today at ≡ false
dot_apart tokens today at before b gives same is apart =
    ap (λ (x : Bool). nat_lt 0 at && x) (ap (λ (l : List Token). is_dot (form_in l (at - 1))) (sym same) ∙ ap (λ (k : ℕ). is_dot (form_in tokens k)) (sym is) ∙ sym gives ∙ apart)
    ∙ never (nat_lt 0 at)
  where
    never : (x : Bool) → x && false ≡ false
    never true = refl
    never false = refl

-- what is found of a token
abbrev pub found_of : Token → ℕ → Bool → Defined
found_of token width is_today = record { place = token.place; width = width; is_today = is_today }

module _ (today earlier : List Token) (at : ℕ) (known : List ℕ) (named : name_in today at ≡ Some known) where
  -- a name that is declared nowhere is not defined
  pub not_defined : (r : Option Defined) → IsUndeclared today known × IsUndeclared earlier known → r ≡ None → IsDefinition today earlier (Some at) r
  not_defined r none is = by (is_behind_dot today at)
    where
      by : (b : Bool) → MatchBool b (r ≡ None) ((name : List ℕ) → name_in today at ≡ Some name → IsFound today earlier name at r)
      by true = is
      by false = λ name there.
          subst (IsFound today earlier name at) (sym is)
          (subst (λ (n : List ℕ). IsUndeclared today n × IsUndeclared earlier n) (same_Some known name (sym named ∙ there)) none)

  module _ (tokens : List Token) (d : Declared) (those : MatchBool d.is_today (tokens ≡ today) (tokens ≡ earlier))
      (declares : MatchBool d.is_today (IsDeclaration today known at d.at) (IsUndeclared today known × IsDeclaration earlier known (length earlier) d.at)) where
    -- a declaration is a token
    pub token_there : d.at < length tokens
    token_there = by d.is_today those declares
      where
        by : (b : Bool) → MatchBool b (tokens ≡ today) (tokens ≡ earlier) →
            MatchBool b (IsDeclaration today known at d.at) (IsUndeclared today known × IsDeclaration earlier known (length earlier) d.at) → d.at < length tokens
        by true same is = let within = declares_within today known at d.at is.declares in let size = ap length same in omega arith
        by false same is = let within = declares_within earlier known at d.at is.1.declares in let size = ap length same in omega arith

    pub never_lost : (given : Bool) → given ≡ nat_lt d.at (length tokens) → given ≡ false → ⊥
    never_lost given within lost = let there = lt-ltb d.at (length tokens) token_there in cc

    -- its place and its width are what is found
    pub defined : (token : Token) (width : ℕ) → slice_get tokens d.at ≡ Some token → width ≡ width_of token → is_behind_dot today at ≡ false →
        IsDefinition today earlier (Some at) (Some (found_of token width d.is_today))
    defined token width there wide apart =
        subst (λ (b : Bool). MatchBool b (Some (found_of token width d.is_today) ≡ None) ((name : List ℕ) → name_in today at ≡ Some name → IsFound today earlier name at (Some (found_of token width d.is_today)))) (sym apart)
        (λ name is. subst (λ (n : List ℕ). IsFound today earlier n at (Some (found_of token width d.is_today))) (same_Some known name (sym named ∙ is)) (by d.is_today those declares))
      where
        of : (l : List Token) (upto : ℕ) → tokens ≡ l → IsDeclaration l known upto d.at → IsAt l known upto (found_of token width d.is_today)
        of l upto same is = record {
          number = d.at;
          declaration = is;
          token = token;
          is = ap (λ (x : List Token). slice_get x d.at) (sym same) ∙ there;
          place = refl;
          width = wide;
        }

        by : (b : Bool) → MatchBool b (tokens ≡ today) (tokens ≡ earlier) →
            MatchBool b (IsDeclaration today known at d.at) (IsUndeclared today known × IsDeclaration earlier known (length earlier) d.at) →
            MatchBool b (IsAt today known at (found_of token width d.is_today)) (IsUndeclared today known × IsAt earlier known (length earlier) (found_of token width d.is_today))
        by true same is = of today at same is
        by false same is = (is.0, of earlier (length earlier) same is.1)
