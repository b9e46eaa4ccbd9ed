-- The signals that decide give a formula its value, and are told operand by operand.
use Rattle.std.proofs.Common.{◌≡◌, ◌⊎◌, ℕ, ◌+◌, ◌<◌, ◌++◌, Bool, true, false, List, [], drop, length, map, refl, subst, sym, ap, ◌∙◌, inl, inr, append_assoc}
use Rattle.std.specs.Prelude.{Contains, if◌then◌else◌, slice_index_or}
use Rattle.std.proofs.lemmas.Bool.{and_cases, and_parts, cases_Bool, cond-true, false≢true, or_cases, or_parts}
use Rattle.std.proofs.lemmas.List.Elements.{Contains-append_left, Contains-append_right}
use mathlib.Core.Bool.{beq}
use Rattle.ps_model.proofs.Rest.{rest_at}
use Rattle.ps_model.specs.declared.expr.Expr.{Expr}
use Rattle.ps_model.specs.Exprs.{formula, operands}
use Rattle.ps_model.specs.Formula.{Formula, Formulas, signal, all_of, any_of, no_operand, operand, value, all_true, any_true}
use Rattle.ps_why.specs.Operands.{EachHasValue, HasValue, SomeHasValue}
use Rattle.ps_why.specs.Reasons.{deciding, deciding_with}
use Rattle.ps_why.proofs.Listing.{first_in}

alike : (a b : Bool) → a ≡ b → beq a b ≡ true
alike a true is = ap (λ x. beq x true) is
alike a false is = ap (λ x. beq x false) is

module _ (v : ℕ → Bool) where
  -- ---- Operand by operand.

  pub operand_next : (whole : Bool) (told told' all : List ℕ) (items : List Expr) (n : ℕ) (x : Expr) → n < length items → x ≡ slice_index_or items n x →
      told ++ deciding_with v whole (operands (map formula (drop n items))) ≡ all →
      told' ≡ told ++ (if beq (value v (formula x)) whole then deciding v (formula x) else []) →
      told' ++ deciding_with v whole (operands (map formula (drop (n + 1) items))) ≡ all
  operand_next whole told told' all items n x within at h is =
      let rest = deciding_with v whole (operands (map formula (drop (n + 1) items))) in
      ap (λ l. l ++ rest) is
      ∙ append_assoc told (if beq (value v (formula x)) whole then deciding v (formula x) else []) rest
      ∙ ap (λ l. told ++ deciding_with v whole (operands (map formula l))) (sym (rest_at items n x within at))
      ∙ h

  pub whole_is : (items : List Expr) (e : Formula) → (e ≡ all_of (operands (map formula items))) ⊎ (e ≡ any_of (operands (map formula items))) →
      deciding_with v (value v e) (operands (map formula items)) ≡ deciding v e
  whole_is items e (inl is) = subst (λ f. deciding_with v (value v f) (operands (map formula items)) ≡ deciding v f) (sym is) refl
  whole_is items e (inr is) = subst (λ f. deciding_with v (value v f) (operands (map formula items)) ≡ deciding v f) (sym is) refl

  -- ---- The value.

  module _ (R : ℕ → Bool → Type 0) where
    -- what is read of these signals is their value
    abbrev Reads : List ℕ → Type 0
    Reads ss = (s : ℕ) → Contains ss s → R s (v s)

    rest_reads : (e : Formula) (es : Formulas) (b : Bool) → Reads (deciding_with v b (operand e es)) → Reads (deciding_with v b es)
    rest_reads e es b h s c = h s (Contains-append_right (if beq (value v e) b then deciding v e else []) (deciding_with v b es) s c)

    first_reads : (e : Formula) (es : Formulas) (b : Bool) → value v e ≡ b → Reads (deciding_with v b (operand e es)) → Reads (deciding v e)
    first_reads e es b is h s c =
        let chosen : (if beq (value v e) b then deciding v e else []) ≡ deciding v e = cond-true (beq (value v e) b) (deciding v e) [] (alike (value v e) b is) in
        h s (Contains-append_left (if beq (value v e) b then deciding v e else []) (deciding_with v b es) s (subst (λ l. Contains l s) (sym chosen) c))

    mutual
      pub decided : (e : Formula) → Reads (deciding v e) → HasValue R e (value v e)
      decided (signal s) h = h s (first_in s [])
      decided (all_of es) h =
          elim (cases_Bool (all_true v es)) [
            | inl on ↦ subst (HasValue R (all_of es)) (sym on) (each_on es on (subst (λ b. Reads (deciding_with v b es)) on h))
            | inr off ↦ subst (HasValue R (all_of es)) (sym off) (some_off es off (subst (λ b. Reads (deciding_with v b es)) off h))
          ]
      decided (any_of es) h =
          elim (cases_Bool (any_true v es)) [
            | inl on ↦ subst (HasValue R (any_of es)) (sym on) (some_on es on (subst (λ b. Reads (deciding_with v b es)) on h))
            | inr off ↦ subst (HasValue R (any_of es)) (sym off) (each_off es off (subst (λ b. Reads (deciding_with v b es)) off h))
          ]

      each_on : (es : Formulas) → all_true v es ≡ true → Reads (deciding_with v true es) → EachHasValue R es true
      each_on no_operand is h = tt
      each_on (operand e es) is h =
          let both = and_parts (value v e) (all_true v es) is in
          (subst (HasValue R e) both.0 (decided e (first_reads e es true both.0 h)), each_on es both.1 (rest_reads e es true h))

      some_off : (es : Formulas) → all_true v es ≡ false → Reads (deciding_with v false es) → SomeHasValue R es false
      some_off no_operand is h = absurd (false≢true (sym is))
      some_off (operand e es) is h =
          elim (and_cases (value v e) (all_true v es) is) [
            | inl off ↦ inl (subst (HasValue R e) off (decided e (first_reads e es false off h)))
            | inr rest ↦ inr (some_off es rest (rest_reads e es false h))
          ]

      some_on : (es : Formulas) → any_true v es ≡ true → Reads (deciding_with v true es) → SomeHasValue R es true
      some_on no_operand is h = absurd (false≢true is)
      some_on (operand e es) is h =
          elim (or_cases (value v e) (any_true v es) is) [
            | inl on ↦ inl (subst (HasValue R e) on (decided e (first_reads e es true on h)))
            | inr rest ↦ inr (some_on es rest (rest_reads e es true h))
          ]

      each_off : (es : Formulas) → any_true v es ≡ false → Reads (deciding_with v false es) → EachHasValue R es false
      each_off no_operand is h = tt
      each_off (operand e es) is h =
          let both = or_parts (value v e) (any_true v es) is in
          (subst (HasValue R e) both.0 (decided e (first_reads e es false both.0 h)), each_off es both.1 (rest_reads e es false h))
