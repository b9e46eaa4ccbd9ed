-- Phrases that fit are whole trees, with groups nested at most so deep; and the other way round.
use Rattle.std.proofs.Common.{ℕ, zero, suc, ◌≤◌, max, List, [], ◌∷◌, ◌++◌, arith}
use Rattle.std.specs.List.{flat_map, AllByRecursion}
use Rattle.ps_parser.specs.declared.name.Name.{Name}
use Rattle.ps_parser.specs.declared.section.Declaration.{Declaration}
use Rattle.ps_parser.specs.declared.section.Section.{Section}
use Rattle.ps_parser.specs.declared.statement.Target.TheVariants as target
use Rattle.ps_parser.specs.declared.sign.Sign.TheVariants as sign
use Rattle.ps_parser.specs.declared.heads.Heads.{Heads}
use Rattle.ps_parser.specs.Names.{IsPlainName}
use Rattle.ps_parser.specs.Symbol.{Symbol, Mark, Named, AllProper}
use Rattle.ps_parser.specs.Tree.{FactorTree, Signal, Pin, Literal, Time, Group, ProductTree, no_factor, factor, SumTree, no_product, product, ArgumentTree, StatementTree, Assign, Call, SourceTree, factors, products}
use Rattle.ps_parser.specs.Spelt.{factor_spelt, product_spelt, more_factors, sum_spelt, more_products, argument_spelt, statement_spelt, name_spelt, declaration_spelt, section_spelt, joined_spell, spelt, foot_sign}
use Rattle.ps_parser.specs.Whole as whole
use Rattle.ps_parser.specs.Whole.{factor_nesting, product_nesting, sum_nesting, arguments_nesting, statement_nesting, statements_nesting, nesting}
use Rattle.ps_parser.specs.Phrase.{JoinedFits}
use Rattle.ps_parser.specs.Grammar.{FactorFits, SumFits, a_sum, an_argument, any_arguments, a_statement, a_declaration, names, a_section, a_source}

pub proper_left : (xs ys : List Symbol) → AllProper (xs ++ ys) → AllProper xs
proper_left [] ys h = tt
proper_left (x ∷ xs) ys h = (h.0, proper_left xs ys h.1)

pub proper_right : (xs ys : List Symbol) → AllProper (xs ++ ys) → AllProper ys
proper_right [] ys h = h
proper_right (x ∷ xs) ys h = proper_right xs ys h.1

max_left : (a b n : ℕ) → max a b ≤ n → a ≤ n
max_left a b n h = grind arith

max_right : (a b n : ℕ) → max a b ≤ n → b ≤ n
max_right a b n h = grind arith

max_both : (a b n : ℕ) → a ≤ n → b ≤ n → max a b ≤ n
max_both a b n h k = grind arith

-- what fits, and is spelt with names of the grammar, is whole
module _ (IsNamed : List ℕ → Type 0) (plain : (text : List ℕ) → IsPlainName text → IsNamed text) where
  module _ (n : ℕ) (factor_out : (f : FactorTree) → FactorFits n f → AllProper (factor_spelt f) → whole.FactorWhole IsNamed f) where
    more_factors_out : (p : ProductTree) → AllByRecursion (FactorFits n) (factors p) → AllProper (more_factors p) → whole.MoreFactorsWhole IsNamed p
    more_factors_out no_factor h proper = tt
    more_factors_out (factor f fs) h proper = (factor_out f h.0 (proper_left (factor_spelt f) (more_factors fs) proper.1), more_factors_out fs h.1 (proper_right (factor_spelt f) (more_factors fs) proper.1))

    product_out : (p : ProductTree) → JoinedFits (FactorFits n) (factors p) → AllProper (product_spelt p) → whole.ProductWhole IsNamed p
    product_out no_factor h proper = h
    product_out (factor f fs) h proper = (factor_out f h.0 (proper_left (factor_spelt f) (more_factors fs) proper), more_factors_out fs h.1 (proper_right (factor_spelt f) (more_factors fs) proper))

    more_products_out : (s : SumTree) → AllByRecursion (λ p. JoinedFits (FactorFits n) (factors p)) (products s) → AllProper (more_products s) → whole.MoreProductsWhole IsNamed s
    more_products_out no_product h proper = tt
    more_products_out (product p ps) h proper = (product_out p h.0 (proper_left (product_spelt p) (more_products ps) proper.1), more_products_out ps h.1 (proper_right (product_spelt p) (more_products ps) proper.1))

    sum_out_of : (s : SumTree) → SumFits (FactorFits n) s → AllProper (sum_spelt s) → whole.SumWhole IsNamed s
    sum_out_of no_product h proper = h
    sum_out_of (product p ps) h proper = (product_out p h.0 (proper_left (product_spelt p) (more_products ps) proper), more_products_out ps h.1 (proper_right (product_spelt p) (more_products ps) proper))

  factor_out : (n : ℕ) (f : FactorTree) → FactorFits n f → AllProper (factor_spelt f) → whole.FactorWhole IsNamed f
  factor_out n (Signal m) h proper = plain m.text proper.0
  factor_out n (Pin m q) h proper = (plain m.text proper.0, plain q.text proper.1.1.0)
  factor_out n (Literal b p) h proper = tt
  factor_out n (Time t p) h proper = proper.0
  factor_out zero (Group s) h proper = absurd h
  factor_out (suc n) (Group s) h proper = sum_out_of n (factor_out n) s h (proper_left (sum_spelt s) (Mark sign.RightBracket ∷ []) proper.1)

  sum_out : (n : ℕ) (s : SumTree) → a_sum.fits n s → AllProper (sum_spelt s) → whole.SumWhole IsNamed s
  sum_out n s h proper = sum_out_of n (factor_out n) s h proper

  argument_out : (n : ℕ) (a : ArgumentTree) → an_argument.fits n a → AllProper (argument_spelt a) → whole.ArgumentWhole IsNamed a
  argument_out n a h proper = (plain a.pin.text proper.0, sum_out n a.value h.1.1 proper.1.1)

  more_arguments_out : (n : ℕ) (args : List ArgumentTree) → AllByRecursion (an_argument.fits n) args → AllProper (flat_map (λ a. Mark sign.Comma ∷ argument_spelt a) args) → AllByRecursion (whole.ArgumentWhole IsNamed) args
  more_arguments_out n [] h proper = tt
  more_arguments_out n (a ∷ args) h proper =
      let rest = flat_map (λ a. Mark sign.Comma ∷ argument_spelt a) args in
      (argument_out n a h.0 (proper_left (argument_spelt a) rest proper.1), more_arguments_out n args h.1 (proper_right (argument_spelt a) rest proper.1))

  arguments_out : (n : ℕ) (args : List ArgumentTree) → any_arguments.fits n args → AllProper (joined_spell (Mark sign.Comma) argument_spelt args) → AllByRecursion (whole.ArgumentWhole IsNamed) args
  arguments_out n [] h proper = tt
  arguments_out n (a ∷ args) h proper =
      let rest = flat_map (λ a. Mark sign.Comma ∷ argument_spelt a) args in
      (argument_out n a h.0 (proper_left (argument_spelt a) rest proper), more_arguments_out n args h.1 (proper_right (argument_spelt a) rest proper))

  statement_out : (n : ℕ) (s : StatementTree) → a_statement.fits n s → AllProper (statement_spelt s) → whole.StatementWhole IsNamed s
  statement_out n (Assign (target.Name m) s) h proper = (plain m.text proper.0, sum_out n s h.1.1.0 (proper_left (sum_spelt s) (Mark sign.Semicolon ∷ []) proper.1.1))
  statement_out n (Assign (target.Pin m q) s) h proper = ((plain m.text proper.0, plain q.text proper.1.1.0), sum_out n s h.1.1.1.1.0 (proper_left (sum_spelt s) (Mark sign.Semicolon ∷ []) proper.1.1.1.1))
  statement_out n (Call m args) h proper = (plain m.text proper.0, arguments_out n args h.1.1.0 (proper_left (joined_spell (Mark sign.Comma) argument_spelt args) (Mark sign.RightBracket ∷ Mark sign.Semicolon ∷ []) proper.1.1))

  statements_out : (n : ℕ) (ss : List StatementTree) → AllByRecursion (a_statement.fits n) ss → AllProper (flat_map statement_spelt ss) → AllByRecursion (whole.StatementWhole IsNamed) ss
  statements_out n [] h proper = tt
  statements_out n (s ∷ ss) h proper = (statement_out n s h.0 (proper_left (statement_spelt s) (flat_map statement_spelt ss) proper), statements_out n ss h.1 (proper_right (statement_spelt s) (flat_map statement_spelt ss) proper))

  more_names_out : (ns : List Name) → AllProper (flat_map (λ m. Mark sign.Comma ∷ name_spelt m) ns) → AllByRecursion (λ m. IsNamed m.text) ns
  more_names_out [] proper = tt
  more_names_out (m ∷ ns) proper = (plain m.text proper.1.0, more_names_out ns proper.1.1)

  names_out : (n : ℕ) (ns : List Name) → names.fits n ns → AllProper (joined_spell (Mark sign.Comma) name_spelt ns) → whole.NamesWhole IsNamed ns
  names_out n [] h proper = h
  names_out n (m ∷ ns) h proper = (plain m.text proper.0, more_names_out ns proper.1)

  declaration_out : (n : ℕ) (d : Declaration) → a_declaration.fits n d → AllProper (declaration_spelt d) → whole.DeclarationWhole IsNamed d
  declaration_out n d h proper =
      let front = joined_spell (Mark sign.Comma) name_spelt d.names in
      let back = Mark sign.Colon ∷ Named d.ty ∷ Mark sign.Semicolon ∷ [] in
      (names_out n d.names h.0 (proper_left front back proper), plain d.ty.text (proper_right front back proper).1.0)

  declarations_out : (n : ℕ) (ds : List Declaration) → AllByRecursion (a_declaration.fits n) ds → AllProper (flat_map declaration_spelt ds) → AllByRecursion (whole.DeclarationWhole IsNamed) ds
  declarations_out n [] h proper = tt
  declarations_out n (d ∷ ds) h proper = (declaration_out n d h.0 (proper_left (declaration_spelt d) (flat_map declaration_spelt ds) proper), declarations_out n ds h.1 (proper_right (declaration_spelt d) (flat_map declaration_spelt ds) proper))

  section_out : (n : ℕ) (s : Section) → a_section.fits n s → AllProper (section_spelt s) → whole.SectionWhole IsNamed s
  section_out n s h proper = declarations_out n s.declarations h.1.0 (proper_left (flat_map declaration_spelt s.declarations) (Mark sign.EndVar ∷ []) proper.1)

  sections_out : (n : ℕ) (ss : List Section) → AllByRecursion (a_section.fits n) ss → AllProper (flat_map section_spelt ss) → AllByRecursion (whole.SectionWhole IsNamed) ss
  sections_out n [] h proper = tt
  sections_out n (s ∷ ss) h proper = (section_out n s h.0 (proper_left (section_spelt s) (flat_map section_spelt ss) proper), sections_out n ss h.1 (proper_right (section_spelt s) (flat_map section_spelt ss) proper))

  pub source_out : (h : Heads) (n : ℕ) (s : SourceTree) → (a_source h).fits n s → AllProper (spelt h s) → whole.IsWhole IsNamed s
  source_out h n s fits proper =
      let foot = Mark (foot_sign h) ∷ [] in
      let body = flat_map statement_spelt s.statements ++ foot in (
        plain s.name.text proper.1.0,
        sections_out n s.sections fits.1.1.0 (proper_left (flat_map section_spelt s.sections) body proper.1.1),
        statements_out n s.statements fits.1.1.1.0 (proper_left (flat_map statement_spelt s.statements) foot (proper_right (flat_map section_spelt s.sections) body proper.1.1)),
      )

-- what fits is nested no deeper
module _ (n : ℕ) (factor_shallow : (f : FactorTree) → FactorFits n f → factor_nesting f ≤ n) where
  more_factors_shallow : (p : ProductTree) → AllByRecursion (FactorFits n) (factors p) → product_nesting p ≤ n
  more_factors_shallow no_factor h = omega arith
  more_factors_shallow (factor f fs) h = max_both (factor_nesting f) (product_nesting fs) n (factor_shallow f h.0) (more_factors_shallow fs h.1)

  product_shallow : (p : ProductTree) → JoinedFits (FactorFits n) (factors p) → product_nesting p ≤ n
  product_shallow no_factor h = absurd h
  product_shallow (factor f fs) h = more_factors_shallow (factor f fs) h

  more_products_shallow : (s : SumTree) → AllByRecursion (λ p. JoinedFits (FactorFits n) (factors p)) (products s) → sum_nesting s ≤ n
  more_products_shallow no_product h = omega arith
  more_products_shallow (product p ps) h = max_both (product_nesting p) (sum_nesting ps) n (product_shallow p h.0) (more_products_shallow ps h.1)

  sum_shallow_of : (s : SumTree) → SumFits (FactorFits n) s → sum_nesting s ≤ n
  sum_shallow_of no_product h = absurd h
  sum_shallow_of (product p ps) h = more_products_shallow (product p ps) h

factor_shallow : (n : ℕ) (f : FactorTree) → FactorFits n f → factor_nesting f ≤ n
factor_shallow zero (Group s) h = absurd h
factor_shallow (suc n) (Group s) h = let le = sum_shallow_of n (factor_shallow n) s h in omega (arith, le)
factor_shallow n (Signal m) h = omega arith
factor_shallow n (Pin m q) h = omega arith
factor_shallow n (Literal b p) h = omega arith
factor_shallow n (Time t p) h = omega arith

sum_shallow : (n : ℕ) (s : SumTree) → a_sum.fits n s → sum_nesting s ≤ n
sum_shallow n s h = sum_shallow_of n (factor_shallow n) s h

arguments_shallow : (n : ℕ) (args : List ArgumentTree) → AllByRecursion (an_argument.fits n) args → arguments_nesting args ≤ n
arguments_shallow n [] h = omega arith
arguments_shallow n (a ∷ args) h = max_both (sum_nesting a.value) (arguments_nesting args) n (sum_shallow n a.value h.0.1.1) (arguments_shallow n args h.1)

any_shallow : (n : ℕ) (args : List ArgumentTree) → any_arguments.fits n args → arguments_nesting args ≤ n
any_shallow n [] h = omega arith
any_shallow n (a ∷ args) h = arguments_shallow n (a ∷ args) h

statement_shallow : (n : ℕ) (s : StatementTree) → a_statement.fits n s → statement_nesting s ≤ n
statement_shallow n (Assign (target.Name m) s) h = sum_shallow n s h.1.1.0
statement_shallow n (Assign (target.Pin m q) s) h = sum_shallow n s h.1.1.1.1.0
statement_shallow n (Call m args) h = any_shallow n args h.1.1.0

statements_shallow : (n : ℕ) (ss : List StatementTree) → AllByRecursion (a_statement.fits n) ss → statements_nesting ss ≤ n
statements_shallow n [] h = omega arith
statements_shallow n (s ∷ ss) h = max_both (statement_nesting s) (statements_nesting ss) n (statement_shallow n s h.0) (statements_shallow n ss h.1)

pub source_shallow : (h : Heads) (n : ℕ) (s : SourceTree) → (a_source h).fits n s → nesting s ≤ n
source_shallow h n s fits = statements_shallow n s.statements fits.1.1.1.0

-- what is whole and nested no deeper fits
module _ (IsNamed : List ℕ → Type 0) where
  module _ (n : ℕ) (factor_in : (f : FactorTree) → whole.FactorWhole IsNamed f → factor_nesting f ≤ n → FactorFits n f) where
    more_factors_in : (p : ProductTree) → whole.MoreFactorsWhole IsNamed p → product_nesting p ≤ n → AllByRecursion (FactorFits n) (factors p)
    more_factors_in no_factor h le = tt
    more_factors_in (factor f fs) h le = (factor_in f h.0 (max_left (factor_nesting f) (product_nesting fs) n le), more_factors_in fs h.1 (max_right (factor_nesting f) (product_nesting fs) n le))

    product_in : (p : ProductTree) → whole.ProductWhole IsNamed p → product_nesting p ≤ n → JoinedFits (FactorFits n) (factors p)
    product_in no_factor h le = h
    product_in (factor f fs) h le = (factor_in f h.0 (max_left (factor_nesting f) (product_nesting fs) n le), more_factors_in fs h.1 (max_right (factor_nesting f) (product_nesting fs) n le))

    more_products_in : (s : SumTree) → whole.MoreProductsWhole IsNamed s → sum_nesting s ≤ n → AllByRecursion (λ p. JoinedFits (FactorFits n) (factors p)) (products s)
    more_products_in no_product h le = tt
    more_products_in (product p ps) h le = (product_in p h.0 (max_left (product_nesting p) (sum_nesting ps) n le), more_products_in ps h.1 (max_right (product_nesting p) (sum_nesting ps) n le))

    sum_in_of : (s : SumTree) → whole.SumWhole IsNamed s → sum_nesting s ≤ n → SumFits (FactorFits n) s
    sum_in_of no_product h le = h
    sum_in_of (product p ps) h le = (product_in p h.0 (max_left (product_nesting p) (sum_nesting ps) n le), more_products_in ps h.1 (max_right (product_nesting p) (sum_nesting ps) n le))

  factor_in : (n : ℕ) (f : FactorTree) → whole.FactorWhole IsNamed f → factor_nesting f ≤ n → FactorFits n f
  factor_in zero (Group s) h le = absurd (omega arith)
  factor_in (suc n) (Group s) h le = sum_in_of n (factor_in n) s h (omega (arith, le))
  factor_in n (Signal m) h le = tt
  factor_in n (Pin m q) h le = tt
  factor_in n (Literal b p) h le = tt
  factor_in n (Time t p) h le = tt

  sum_in : (n : ℕ) (s : SumTree) → whole.SumWhole IsNamed s → sum_nesting s ≤ n → a_sum.fits n s
  sum_in n s h le = sum_in_of n (factor_in n) s h le

  arguments_in : (n : ℕ) (args : List ArgumentTree) → AllByRecursion (whole.ArgumentWhole IsNamed) args → arguments_nesting args ≤ n → AllByRecursion (an_argument.fits n) args
  arguments_in n [] h le = tt
  arguments_in n (a ∷ args) h le = ((tt, (tt, sum_in n a.value h.0.1 (max_left (sum_nesting a.value) (arguments_nesting args) n le))), arguments_in n args h.1 (max_right (sum_nesting a.value) (arguments_nesting args) n le))

  any_in : (n : ℕ) (args : List ArgumentTree) → AllByRecursion (whole.ArgumentWhole IsNamed) args → arguments_nesting args ≤ n → any_arguments.fits n args
  any_in n [] h le = tt
  any_in n (a ∷ args) h le = arguments_in n (a ∷ args) h le

  statement_in : (n : ℕ) (s : StatementTree) → whole.StatementWhole IsNamed s → statement_nesting s ≤ n → a_statement.fits n s
  statement_in n (Assign (target.Name m) s) h le = (tt, (tt, (sum_in n s h.1 le, tt)))
  statement_in n (Assign (target.Pin m q) s) h le = (tt, (tt, (tt, (tt, (sum_in n s h.1 le, tt)))))
  statement_in n (Call m args) h le = (tt, (tt, (any_in n args h.1 le, (tt, tt))))

  statements_in : (n : ℕ) (ss : List StatementTree) → AllByRecursion (whole.StatementWhole IsNamed) ss → statements_nesting ss ≤ n → AllByRecursion (a_statement.fits n) ss
  statements_in n [] h le = tt
  statements_in n (s ∷ ss) h le = (statement_in n s h.0 (max_left (statement_nesting s) (statements_nesting ss) n le), statements_in n ss h.1 (max_right (statement_nesting s) (statements_nesting ss) n le))

  more_names_in : (n : ℕ) (ns : List Name) → AllByRecursion (λ _. Unit {0}) ns
  more_names_in n [] = tt
  more_names_in n (m ∷ ns) = (tt, more_names_in n ns)

  names_in : (n : ℕ) (ns : List Name) → whole.NamesWhole IsNamed ns → names.fits n ns
  names_in n [] h = h
  names_in n (m ∷ ns) h = (tt, more_names_in n ns)

  declarations_in : (n : ℕ) (ds : List Declaration) → AllByRecursion (whole.DeclarationWhole IsNamed) ds → AllByRecursion (a_declaration.fits n) ds
  declarations_in n [] h = tt
  declarations_in n (d ∷ ds) h = ((names_in n d.names h.0.0, (tt, (tt, tt))), declarations_in n ds h.1)

  sections_in : (n : ℕ) (ss : List Section) → AllByRecursion (whole.SectionWhole IsNamed) ss → AllByRecursion (a_section.fits n) ss
  sections_in n [] h = tt
  sections_in n (s ∷ ss) h = ((tt, (declarations_in n s.declarations h.0, tt)), sections_in n ss h.1)

  pub source_in : (h : Heads) (n : ℕ) (s : SourceTree) → whole.IsWhole IsNamed s → nesting s ≤ n → (a_source h).fits n s
  source_in h n s w le = (tt, (tt, (sections_in n s.sections w.1, (statements_in n s.statements w.2 le, tt))))
