-- A body says the same where its names are spelt as it declares them.
use Rattle.std.proofs.Common.{◌≡◌, ℕ, List, [], ◌∷◌, map, refl, sym, ap, subst}
use Rattle.std.specs.List.{AllByRecursion}
use Rattle.std.specs.Str.{bytes_eq}
use Rattle.ps_base.specs.LetterCase.{folded}
use Rattle.ps_parser.specs.declared.name.Name.{Name}
use Rattle.ps_parser.specs.Tree.{FactorTree, Signal, Pin, Literal, Time, Group, ProductTree, no_factor, factor, SumTree, no_product, product, ArgumentTree, StatementTree, Assign, Call}
use Rattle.ps_derived.specs.declared.declared.Declared.{Declared}
use Rattle.ps_derived.specs.Renaming.{factor_renamed, product_renamed, sum_renamed, argument_renamed, statement_renamed}
use Rattle.ps_derived.specs.Spelling.{as_declared}
use Rattle.ps_derived.specs.Flat.{FlatBlock}
use Rattle.ps_derived.proofs.Spelt.{spelt_same, instance_same}
use Rattle.ps_language_laws.specs.Reading.{Scan, Before}
use Rattle.ps_language_laws.specs.Equations.{Body, Callee, statements_leave, StatementsHold}
use Rattle.ps_language_laws.specs.Nested.{chosen, callee_in, callee_of}
use Rattle.ps_language_laws.proofs.PathNames.{at_same, copy_same}
use Rattle.ps_language_laws.proofs.Plainly.{HasNoDot}
use Rattle.ps_language_laws.proofs.FineCalls.{OutputRead, FactorFine, ProductFine, SumFine, StatementFine}
use Rattle.ps_language_laws.proofs.Renamed.{all_leave_same, all_hold_same}

-- names without letter case are the same
callee_same : (blocks : List Body) (m n : Name) → folded m.text ≡ folded n.text → (ds : List Declared) → ◌≡◌ {A = Callee} (callee_of blocks ds m) (callee_of blocks ds n)
callee_same blocks m n h [] = refl
callee_same blocks m n h (d ∷ ds) = (λ i. chosen (bytes_eq (h i) (folded d.name.text)) (callee_in blocks d.part d.ty) (callee_same blocks m n h ds i))

module _ (blocks : List Body) (ds : List Declared) (path : List ℕ) where
  abbrev spelt : Name → Name
  spelt = as_declared ds

  abbrev who : Name → Callee
  who = callee_of blocks ds

  pub leaves_spelt : (ss : List StatementTree) → statements_leave who path (map (statement_renamed spelt) ss) ≡ statements_leave who path ss
  leaves_spelt ss =
      all_leave_same spelt path path who who (λ n. at_same path (spelt n) n (spelt_same ds n)) (λ n. copy_same path (spelt n) n (spelt_same ds n))
      (λ n. callee_same blocks (spelt n) n (spelt_same ds n) ds) ss

  pub holds_spelt : (scan : Scan) (before : Before) (ss : List StatementTree) →
      ◌≡◌ {A = Type 0} (StatementsHold who path scan before (map (statement_renamed spelt) ss)) (StatementsHold who path scan before ss)
  holds_spelt scan before ss =
      all_hold_same spelt path path who who (λ n. at_same path (spelt n) n (spelt_same ds n)) (λ n. copy_same path (spelt n) n (spelt_same ds n))
      (λ n. callee_same blocks (spelt n) n (spelt_same ds n) ds) scan before ss

-- ---- what is fine stays so

module _ (bs : List FlatBlock) (ds : List Declared) where
  abbrev named : Name → Name
  named = as_declared ds

  no_dot : (n : Name) → HasNoDot (folded n.text) → HasNoDot (folded (named n).text)
  no_dot n h = subst HasNoDot (sym (spelt_same ds n)) h

  mutual
    factor_spelt : (f : FactorTree) → FactorFine bs ds f → FactorFine bs ds (factor_renamed named f)
    factor_spelt (Signal n) h = no_dot n h
    factor_spelt (Pin n q) h = (no_dot n h.0, subst (OutputRead q) (sym (instance_same bs ds ds n)) h.1)
    factor_spelt (Literal b p) h = tt
    factor_spelt (Time t p) h = tt
    factor_spelt (Group s) h = sum_spelt s h

    product_spelt : (p : ProductTree) → ProductFine bs ds p → ProductFine bs ds (product_renamed named p)
    product_spelt no_factor h = tt
    product_spelt (factor f fs) h = (factor_spelt f h.0, product_spelt fs h.1)

    sum_spelt : (s : SumTree) → SumFine bs ds s → SumFine bs ds (sum_renamed named s)
    sum_spelt no_product h = tt
    sum_spelt (product p ps) h = (product_spelt p h.0, sum_spelt ps h.1)

  arguments_spelt : (args : List ArgumentTree) → AllByRecursion (λ (a : ArgumentTree). SumFine bs ds a.value) args →
      AllByRecursion (λ (a : ArgumentTree). SumFine bs ds a.value) (map (argument_renamed named) args)
  arguments_spelt [] h = tt
  arguments_spelt (a ∷ args) h = (sum_spelt a.value h.0, arguments_spelt args h.1)

  statement_spelt : (s : StatementTree) → StatementFine bs ds s → StatementFine bs ds (statement_renamed named s)
  statement_spelt (Assign t s) h = tt
  statement_spelt (Call n args) h = (no_dot n h.0, arguments_spelt args h.1)

  pub fine_spelt : (ss : List StatementTree) → AllByRecursion (StatementFine bs ds) ss → AllByRecursion (StatementFine bs ds) (map (statement_renamed named) ss)
  fine_spelt [] h = tt
  fine_spelt (s ∷ ss) h = (statement_spelt s h.0, fine_spelt ss h.1)
