-- The ways of a state decide by what is told of their conditions.
use Rattle.std.proofs.Common.{◌≡◌, ℕ, Bool, true, false, not, ◌&&◌, List, [], ◌∷◌, ◌++◌, refl, sym, ap, ◌∙◌, inl, inr}
use Rattle.std.specs.Prelude.{◌==◌, Contains}
use Rattle.std.specs.List.{AllByRecursion, list_all}
use Rattle.std.proofs.lemmas.Bool.{and_from, and_left, and_right, cond-true, cond-false, eq-eqb, ne_eqb}
use Rattle.std.proofs.lemmas.List.Folds.{list_all_at}
use Rattle.ps_model.specs.Table.{Conditions}
use Rattle.ps_ways.specs.Ways.{asks, holds, meets, meets_all}
use Rattle.ps_ways.specs.declared.way.Ask.{Ask}
use Rattle.ps_ways.specs.declared.way.Literal.{Literal}
use Rattle.ps_ways.specs.declared.way.Literal.TheVariants.{Any, Is, Not}
use Rattle.ps_ways.specs.declared.way.Way.{Way}
use Rattle.ps_why.specs.Guards.{IsClosed, IsKept, IsLeft, IsOpen, IsPassed, LiteralIs, asked, before_any}
use Rattle.ps_why.specs.declared.fact.Fact.{Fact}
use Rattle.ps_why.specs.declared.fact.Fact.TheVariants.{AskIs}
use Rattle.ps_why.proofs.Taking.{next_by}

and_on : (b : Bool) → (b && true) ≡ b
and_on true = refl
and_on false = refl

pub not_not : (b : Bool) → not (not b) ≡ b
not_not true = refl
not_not false = refl

module _ (c : Conditions) where
  -- a way asks what stands up to the first literal that asks nothing
  pub all_asked : (first second third : Literal) → meets_all first second third c ≡ list_all (λ l. meets l c) (before_any (first ∷ second ∷ third ∷ []))
  all_asked Any second third = refl
  all_asked (Is a) Any third = sym (and_on (asks a c))
  all_asked (Not a) Any third = sym (and_on (not (asks a c)))
  all_asked (Is a) (Is b) Any = ap (λ y. asks a c && y) (sym (and_on (asks b c)))
  all_asked (Is a) (Not b) Any = ap (λ y. asks a c && y) (sym (and_on (not (asks b c))))
  all_asked (Not a) (Is b) Any = ap (λ y. not (asks a c) && y) (sym (and_on (asks b c)))
  all_asked (Not a) (Not b) Any = ap (λ y. not (asks a c) && y) (sym (and_on (not (asks b c))))
  all_asked (Is a) (Is b) (Is d) = ap (λ y. asks a c && (asks b c && y)) (sym (and_on (asks d c)))
  all_asked (Is a) (Is b) (Not d) = ap (λ y. asks a c && (asks b c && y)) (sym (and_on (not (asks d c))))
  all_asked (Is a) (Not b) (Is d) = ap (λ y. asks a c && (not (asks b c) && y)) (sym (and_on (asks d c)))
  all_asked (Is a) (Not b) (Not d) = ap (λ y. asks a c && (not (asks b c) && y)) (sym (and_on (not (asks d c))))
  all_asked (Not a) (Is b) (Is d) = ap (λ y. not (asks a c) && (asks b c && y)) (sym (and_on (asks d c)))
  all_asked (Not a) (Is b) (Not d) = ap (λ y. not (asks a c) && (asks b c && y)) (sym (and_on (not (asks d c))))
  all_asked (Not a) (Not b) (Is d) = ap (λ y. not (asks a c) && (not (asks b c) && y)) (sym (and_on (asks d c)))
  all_asked (Not a) (Not b) (Not d) = ap (λ y. not (asks a c) && (not (asks b c) && y)) (sym (and_on (not (asks d c))))

  pub one_unmet : (ls : List Literal) (l : Literal) → Contains ls l → meets l c ≡ false → list_all (λ l. meets l c) ls ≡ false
  one_unmet ls l h n = list_all_at (λ l. meets l c) ls h.0 l h.1 (ap (λ l. meets l c) h.2 ∙ n)

module _ (told : Fact → Type 0) (k : ℕ) (c : Conditions) (so : (a : Ask) (b : Bool) → told (AskIs k a b) → asks a c ≡ b) where
  literal_is : (l : Literal) (b : Bool) → LiteralIs told k l b → meets l c ≡ b
  literal_is Any b h = sym h
  literal_is (Is a) b h = so a b h
  literal_is (Not a) b h = ap not (so a (not b) h) ∙ not_not b

  all_met : (ls : List Literal) → AllByRecursion (λ l. LiteralIs told k l true) ls → list_all (λ l. meets l c) ls ≡ true
  all_met [] h = refl
  all_met (l ∷ ls) h = and_from (meets l c) (list_all (λ l. meets l c) ls) (literal_is l true h.0) (all_met ls h.1)

  open_holds : (w : Way) → IsOpen told k w → holds w c ≡ true
  open_holds w h = all_asked c w.first w.second w.third ∙ all_met (asked w) h

  closed_fails : (w : Way) → IsClosed told k w → holds w c ≡ false
  closed_fails w h = all_asked c w.first w.second w.third ∙ one_unmet c (asked w) h.0 h.1 (literal_is h.0 false h.2)

  passes : (q : ℕ) (w : Way) → IsPassed told k q w → (w.state == q && holds w c) ≡ false
  passes q w (inl h) = and_left (w.state == q) (holds w c) (ne_eqb w.state q h)
  passes q w (inr h) = and_right (w.state == q) (holds w c) (closed_fails w h)

  passes_all : (q : ℕ) (before behind : List Way) → AllByRecursion (IsPassed told k q) before → next_by q (before ++ behind) c ≡ next_by q behind c
  passes_all q [] behind h = refl
  passes_all q (w ∷ before) behind h =
      cond-false (w.state == q && holds w c) w.next (next_by q (before ++ behind) c) (passes q w h.0) ∙ passes_all q before behind h.1

  kept_by : (q : ℕ) (ways : List Way) → AllByRecursion (IsPassed told k q) ways → next_by q ways c ≡ q
  kept_by q [] h = refl
  kept_by q (w ∷ ways) h = cond-false (w.state == q && holds w c) w.next (next_by q ways c) (passes q w h.0) ∙ kept_by q ways h.1

  pub is_left : (ways : List Way) (q q' : ℕ) → IsLeft told k ways q q' → next_by q ways c ≡ q'
  is_left ways q q' h =
      ap (λ ws. next_by q ws c) h.order
      ∙ passes_all q h.before (h.way ∷ h.behind) h.passed
      ∙ cond-true (h.way.state == q && holds h.way c) h.way.next (next_by q h.behind c)
      (and_from (h.way.state == q) (holds h.way c) (eq-eqb h.way.state q h.of_state) (open_holds h.way h.open_way))
      ∙ h.leads

  pub is_kept : (ways : List Way) (q q' : ℕ) → IsKept told k ways q q' → next_by q ways c ≡ q'
  is_kept ways q q' h = kept_by q ways h.0 ∙ sym h.1
