-- A copy inside a copy: the names of both instances stand before each name.
use Rattle.std.proofs.Common.{◌≡◌, List, [], ◌∷◌, ◌++◌, Option, None, Some, map, refl, ap, append_assoc}
use Rattle.ps_parser.specs.declared.name.Name.{Name}
use Rattle.ps_parser.specs.declared.section.Declaration.{Declaration}
use Rattle.ps_parser.specs.declared.statement.Target.{Target}
use Rattle.ps_parser.specs.declared.statement.Target.TheVariants as target
use Rattle.ps_parser.specs.Tree.{FactorTree, Signal, Pin, Literal, Time, Group, ProductTree, no_factor, factor, SumTree, no_product, product, ArgumentTree, StatementTree, Assign, Call}
use Rattle.ps_derived.specs.Bodies.{is_input, is_output, is_local}
use Rattle.ps_derived.specs.Renaming.{factor_renamed, product_renamed, sum_renamed, target_renamed, argument_renamed}
use Rattle.ps_derived.specs.Dotted.{inside, statement_inside, declaration_inside}
use Rattle.ps_derived.specs.Flat.{FlatBlock, declarations_in, copy_declares}
use Rattle.ps_flatten.specs.Laying.{copied, copy_declared, copy_stated}

module _ (g h : Name) where
  name_nested : (n : Name) → inside (inside g h) n ≡ inside g (inside h n)
  name_nested n = (λ i. record { text = append_assoc g.text (46 ∷ h.text) (46 ∷ n.text) i; place = n.place })

  mutual
    factor_nested : (f : FactorTree) → factor_renamed (inside (inside g h)) f ≡ factor_renamed (inside g) (factor_renamed (inside h) f)
    factor_nested (Signal n) = ap Signal (name_nested n)
    factor_nested (Pin n q) = ap (λ m. Pin m q) (name_nested n)
    factor_nested (Literal b p) = refl
    factor_nested (Time t p) = refl
    factor_nested (Group s) = ap Group (sum_nested s)

    product_nested : (p : ProductTree) → product_renamed (inside (inside g h)) p ≡ product_renamed (inside g) (product_renamed (inside h) p)
    product_nested no_factor = refl
    product_nested (factor f fs) = (λ i. factor (factor_nested f i) (product_nested fs i))

    sum_nested : (s : SumTree) → sum_renamed (inside (inside g h)) s ≡ sum_renamed (inside g) (sum_renamed (inside h) s)
    sum_nested no_product = refl
    sum_nested (product p ps) = (λ i. product (product_nested p i) (sum_nested ps i))

  target_nested : (t : Target) → target_renamed (inside (inside g h)) t ≡ target_renamed (inside g) (target_renamed (inside h) t)
  target_nested (target.Name n) = ap target.Name (name_nested n)
  target_nested (target.Pin n q) = ap (λ m. target.Pin m q) (name_nested n)

  arguments_nested : (args : List ArgumentTree) → map (argument_renamed (inside (inside g h))) args ≡ map (argument_renamed (inside g)) (map (argument_renamed (inside h)) args)
  arguments_nested [] = refl
  arguments_nested (a ∷ args) = (λ i. (record { pin = a.pin; value = sum_nested a.value i }) ∷ arguments_nested args i)

  statement_nested : (s : StatementTree) → statement_inside (inside g h) s ≡ statement_inside g (statement_inside h s)
  statement_nested (Assign t s) = (λ i. Assign (target_nested t i) (sum_nested s i))
  statement_nested (Call n args) = (λ i. Call (name_nested n i) (arguments_nested args i))

  statements_nested : (ss : List StatementTree) → map (statement_inside (inside g h)) ss ≡ map (statement_inside g) (map (statement_inside h) ss)
  statements_nested [] = refl
  statements_nested (s ∷ ss) = (λ i. statement_nested s i ∷ statements_nested ss i)

  names_nested : (ns : List Name) → map (inside (inside g h)) ns ≡ map (inside g) (map (inside h) ns)
  names_nested [] = refl
  names_nested (n ∷ ns) = (λ i. name_nested n i ∷ names_nested ns i)

  declarations_nested : (ds : List Declaration) → map (declaration_inside (inside g h)) ds ≡ map (declaration_inside g) (map (declaration_inside h) ds)
  declarations_nested [] = refl
  declarations_nested (d ∷ ds) = (λ i. (record { names = names_nested d.names i; ty = d.ty }) ∷ declarations_nested ds i)

  pub copy_declared_nested : (o : Option FlatBlock) → copy_declared (inside g h) o ≡ map (declaration_inside g) (copy_declared h o)
  copy_declared_nested None = refl
  copy_declared_nested (Some b) = declarations_nested (copied b.flat.sections)

  pub copy_stated_nested : (o : Option FlatBlock) → copy_stated (inside g h) o ≡ map (statement_inside g) (copy_stated h o)
  copy_stated_nested None = refl
  copy_stated_nested (Some b) = statements_nested b.flat.statements
