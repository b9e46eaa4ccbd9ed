-- What tokens declare.
use Rattle.std.proofs.Common.{◌≡◌, ℕ, ◌+◌, ◌<◌, ◌≤◌, Bool, true, false, cond, List, length, Option, Some, None, is_some, IfSome, IfNone, inl, inr, refl, ap, sym, ◌∙◌, subst, arith}
use Rattle.std.specs.Bool.{MatchBool}
use Rattle.std.proofs.lemmas.Bool.{cases_lt}
use Rattle.std.proofs.lemmas.Option.{same_Some}
use Rattle.ps_lexer.specs.declared.token.Form.TheVariants as form
use Rattle.ps_lexer.specs.declared.token.Token.{Token}
use Rattle.ps_lsp_text.specs.Looking.{name_in}
use Rattle.ps_lsp_text.specs.Declaring.{is_listed, IsColonOf, IsTypeOf, Declares, IsDeclaration, IsUndeclared, HoldsFor, IsTyped}
use Rattle.ps_lsp_text.specs.declared.sight.Declared.{Declared}
use Rattle.ps_lsp_text.proofs.AtTokens.{form_within}

module _ (tokens : List Token) (name : List ℕ) (upto : ℕ) where
  -- what is known of the declaration after the first tokens
  pub record IsSoFar (i at : ℕ) : Type 0 where
    pub inside : at < i
    pub declares : Declares tokens name at
    pub last : (k : ℕ) → k < i → k ≤ upto → Declares tokens name k → k ≤ at
    pub first : upto < at → (k : ℕ) → Declares tokens name k → at ≤ k

  abbrev pub Known : (i : ℕ) → Option ℕ → Type 0
  Known i None = (k : ℕ) → k < i → Declares tokens name k → ⊥
  Known i (Some at) = IsSoFar i at

  pub known_none : Known 0 None
  known_none = λ k below d. omega arith

  -- past a token that declares something else
  pub known_other : (i : ℕ) (found : Option ℕ) → Known i found → (Declares tokens name i → ⊥) → Known (i + 1) found
  known_other i None known other = λ k below d. elim (cases_lt k i) [
    | inl less ↦ known k less d
    | inr more ↦ let same : k ≡ i = omega arith in other (subst (Declares tokens name) same d)
  ]
  known_other i (Some at) known other = let inside = known.inside in record {
    inside = omega arith;
    declares = known.declares;
    last = λ k below low d. elim (cases_lt k i) [
      | inl less ↦ known.last k less low d
      | inr more ↦ let same : k ≡ i = omega arith in absurd (other (subst (Declares tokens name) same d))
    ];
    first = known.first;
  }

  -- at a token that declares the name
  pub known_here : (i : ℕ) (found : Option ℕ) → Known i found → (upto < i → found ≡ None) → Declares tokens name i → IsSoFar (i + 1) i
  known_here i found known none d = record {
    inside = omega arith;
    declares = d;
    last = λ k below low e. omega arith;
    first = λ late k e. elim (cases_lt k i) [
      | inl less ↦ let nothing : Known i None = subst (Known i) (none late) known in absurd (nothing k less e)
      | inr more ↦ more
    ];
  }

  -- past the token that is asked about, what is known is known for good
  known_early : (i at : ℕ) → IsSoFar i at → upto < i → IsDeclaration tokens name upto at
  known_early i at known late = record {
    declares = known.declares;
    last = λ k low d. known.last k (omega arith) low d;
    first = known.first;
  }

  pub declares_within : (k : ℕ) → Declares tokens name k → k < length tokens
  declares_within k d = let listed = d.declared.behind in let within = form_within tokens d.colon form.Colon d.declared.is in omega arith

  -- after all tokens, it is what there is
  pub known_some : (i : ℕ) → length tokens ≤ i → (found : Option ℕ) → Known i found → IfSome found (IsDeclaration tokens name upto)
  known_some i all None known = tt
  known_some i all (Some at) known = record {
    declares = known.declares;
    last = λ k low d. let within = declares_within k d in known.last k (omega arith) low d;
    first = known.first;
  }

  pub known_nothing : (i : ℕ) → length tokens ≤ i → (found : Option ℕ) → Known i found → IfNone found (IsUndeclared tokens name)
  known_nothing i all None known = λ k d. let within = declares_within k d in known k (omega arith) d
  known_nothing i all (Some at) known = tt

  pub known_found : (i : ℕ) (found : Option ℕ) → Known i found → upto < i → IfSome found (IsDeclaration tokens name upto)
  known_found i None known late = tt
  known_found i (Some at) known late = known_early i at known late

-- nothing is found yet
pub no_declaration_yet : (found : Option ℕ) → is_some found ≡ false → found ≡ None
no_declaration_yet None none = refl
no_declaration_yet (Some at) none = absurd (cc)

-- a declaration has one colon
one_colon : (tokens : List Token) (begin c d : ℕ) → IsColonOf tokens begin c → IsColonOf tokens begin d → c ≡ d
one_colon tokens begin c d p q = elim (cases_lt c d) [
  | inl less ↦ let yes = q.listed c p.behind less in let unlisted = ap is_listed p.is in absurd (cc)
  | inr le ↦ elim (cases_lt d c) [
    | inl less ↦ let yes = p.listed d q.behind less in let unlisted = ap is_listed q.is in absurd (cc)
    | inr ge ↦ omega arith
  ]
]

-- and one type, or none
pub one_type : (tokens : List Token) (at : ℕ) (ty other : List ℕ) → IsTypeOf tokens at (Some ty) → IsTypeOf tokens at (Some other) → ty ≡ other
one_type tokens at ty other p q =
    let same = one_colon tokens at p.0 q.0 p.1 q.1 in
    let name = ap (λ (k : ℕ). name_in tokens (k + 1)) same in
    let first = p.2 in
    let second = q.2 in
    cc

pub no_type : (tokens : List Token) (at : ℕ) (ty : List ℕ) → IsTypeOf tokens at (Some ty) → IsTypeOf tokens at None → ⊥
no_type tokens at ty p none = let first = p.2 in let nothing = none p.0 p.1 in cc

-- a name has one declaration that holds for a token
one_declaration : (tokens : List Token) (name : List ℕ) (token a b : ℕ) → IsDeclaration tokens name token a → IsDeclaration tokens name token b → a ≡ b
one_declaration tokens name token a b p q = elim (cases_lt token a) [
  | inl late ↦ let low = p.first late b q.declares in let other : b ≤ a = q.first (omega arith) a p.declares in omega arith
  | inr early ↦ elim (cases_lt token b) [
    | inl late ↦ let low = q.first late a p.declares in absurd (omega arith)
    | inr soon ↦ let low = p.last b soon q.declares in let other = q.last a early p.declares in omega arith
  ]
]

module _ (today earlier : List Token) (name : List ℕ) (token : ℕ) where
  -- a name that has a declaration is declared
  pub holds_declared : (d : Declared) → HoldsFor today earlier name token d → IsUndeclared today name × IsUndeclared earlier name → ⊥
  holds_declared d holds none = by d.is_today holds
    where
      by : (b : Bool) → MatchBool b (IsDeclaration today name token d.at) (IsUndeclared today name × IsDeclaration earlier name (length earlier) d.at) → ⊥
      by true is = none.0 d.at is.declares
      by false is = none.1 d.at is.1.declares

  -- two declarations of it are in the same text, at the same token
  abbrev pub TypesAgree : (d e : Declared) → Type 0
  TypesAgree d e = (o : Option (List ℕ)) → IsTypeOf (cond d.is_today today earlier) d.at o → IsTypeOf (cond e.is_today today earlier) e.at o

  pub types_agree : (d e : Declared) → HoldsFor today earlier name token d → HoldsFor today earlier name token e → TypesAgree d e
  types_agree d e p q = by d.is_today e.is_today p q
    where
      by : (b c : Bool) → MatchBool b (IsDeclaration today name token d.at) (IsUndeclared today name × IsDeclaration earlier name (length earlier) d.at) →
          MatchBool c (IsDeclaration today name token e.at) (IsUndeclared today name × IsDeclaration earlier name (length earlier) e.at) →
          (o : Option (List ℕ)) → IsTypeOf (cond b today earlier) d.at o → IsTypeOf (cond c today earlier) e.at o
      by true true p q o t = subst (λ (k : ℕ). IsTypeOf today k o) (one_declaration today name token d.at e.at p q) t
      by true false p q o t = absurd (q.0 d.at p.declares)
      by false true p q o t = absurd (p.0 e.at q.declares)
      by false false p q o t = subst (λ (k : ℕ). IsTypeOf earlier k o) (one_declaration earlier name (length earlier) d.at e.at p.1 q.1) t

-- a token's name is declared with one type
pub typed_once : (today earlier : List Token) (token : ℕ) (ty other : List ℕ) → IsTyped today earlier token ty → IsTyped today earlier token other → ty ≡ other
typed_once today earlier token ty other p q =
    let same : p.name ≡ q.name = same_Some p.name q.name (sym p.there ∙ q.there) in
    let holds = subst (λ (n : List ℕ). HoldsFor today earlier n token p.declared) same p.holds in
    one_type (cond q.declared.is_today today earlier) q.declared.at ty other (types_agree today earlier q.name token p.declared q.declared holds q.holds (Some ty) p.typed) q.typed

-- a token whose name has a declaration without a type is not typed
pub untyped : (today earlier : List Token) (token : ℕ) (name : List ℕ) (d : Declared) → name_in today token ≡ Some name → HoldsFor today earlier name token d →
    IsTypeOf (cond d.is_today today earlier) d.at None → (ty : List ℕ) → IsTyped today earlier token ty → ⊥
untyped today earlier token name d there holds none ty p =
    let same : name ≡ p.name = same_Some name p.name (sym there ∙ p.there) in
    let known = subst (λ (n : List ℕ). HoldsFor today earlier n token d) same holds in
    no_type (cond p.declared.is_today today earlier) p.declared.at ty p.typed (types_agree today earlier p.name token d p.declared known p.holds None none)

-- one whose name is not declared is not typed either
pub undeclared_untyped : (today earlier : List Token) (token : ℕ) (name : List ℕ) → name_in today token ≡ Some name → IsUndeclared today name × IsUndeclared earlier name →
    (ty : List ℕ) → IsTyped today earlier token ty → ⊥
undeclared_untyped today earlier token name there none ty p =
    let same : name ≡ p.name = same_Some name p.name (sym there ∙ p.there) in
    holds_declared today earlier p.name token p.declared p.holds (subst (λ (n : List ℕ). IsUndeclared today n × IsUndeclared earlier n) same none)
