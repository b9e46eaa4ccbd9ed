-- A program without function blocks is its own flat source.
use Rattle.std.proofs.Common.{◌≡◌, List, [], ◌∷◌, ◌++◌, Option, None, Some, map, refl, ap, ◌∙◌}
use Rattle.std.specs.List.{flat_map}
use Rattle.ps_parser.specs.declared.name.Name.{Name}
use Rattle.ps_parser.specs.declared.section.Part.{Part}
use Rattle.ps_parser.specs.declared.section.Part.TheVariants.{Input, Output, Local}
use Rattle.ps_parser.specs.declared.section.Declaration.{Declaration}
use Rattle.ps_parser.specs.declared.section.Section.{Section}
use Rattle.ps_parser.specs.Tree.{FactorTree, Signal, Pin, Literal, Time, Group, ProductTree, no_factor, factor, SumTree, no_product, product, ArgumentTree, StatementTree, Assign, Call, SourceTree}
use Rattle.ps_derived.specs.declared.declared.Declared.{Declared}
use Rattle.ps_derived.specs.Bodies.{declared_names, first_declared}
use Rattle.ps_derived.specs.Flat.{block_in, instance_by, instance_if, output_read, declaration_flat, section_flat, factor_flat, product_flat, sum_flat, argument_flat, call_flat, statement_flat, flat}

no_block : (part : Part) (ty : Name) → block_in [] part ty ≡ None
no_block Input ty = refl
no_block Output ty = refl
no_block Local ty = refl

no_instance : (o : Option Declared) → instance_if [] o ≡ None
no_instance None = refl
no_instance (Some d) = ap (instance_by d) (no_block d.part d.ty)

module _ (ds : List Declared) where
  mutual
    factor_alone : (f : FactorTree) → factor_flat [] ds f ≡ f
    factor_alone (Signal n) = refl
    factor_alone (Pin n q) = ap (output_read n q) (no_instance (first_declared ds n))
    factor_alone (Literal b p) = refl
    factor_alone (Time t p) = refl
    factor_alone (Group s) = ap Group (sum_alone s)

    product_alone : (p : ProductTree) → product_flat [] ds p ≡ p
    product_alone no_factor = refl
    product_alone (factor f fs) = (λ i. factor (factor_alone f i) (product_alone fs i))

    sum_alone : (s : SumTree) → sum_flat [] ds s ≡ s
    sum_alone no_product = refl
    sum_alone (product p ps) = (λ i. product (product_alone p i) (sum_alone ps i))

  arguments_alone : (args : List ArgumentTree) → map (argument_flat [] ds) args ≡ args
  arguments_alone [] = refl
  arguments_alone (a ∷ args) = (λ i. record { pin = a.pin; value = sum_alone a.value i } ∷ arguments_alone args i)

  statement_alone : (s : StatementTree) → statement_flat [] ds s ≡ s ∷ []
  statement_alone (Assign t s) = (λ i. Assign t (sum_alone s i) ∷ [])
  statement_alone (Call n args) = ap (call_flat [] ds n args) (no_instance (first_declared ds n)) ∙ (λ i. Call n (arguments_alone args i) ∷ [])

  statements_alone : (ss : List StatementTree) → flat_map (statement_flat [] ds) ss ≡ ss
  statements_alone [] = refl
  statements_alone (s ∷ ss) = (λ i. statement_alone s i ++ statements_alone ss i)

declarations_alone : (part : Part) (ds : List Declaration) → flat_map (λ d. declaration_flat d (block_in [] part d.ty)) ds ≡ ds
declarations_alone part [] = refl
declarations_alone part (d ∷ ds) = (λ i. declaration_flat d (no_block part d.ty i) ++ declarations_alone part ds i)

sections_alone : (ss : List Section) → map (section_flat []) ss ≡ ss
sections_alone [] = refl
sections_alone (s ∷ ss) = (λ i. record { part = s.part; declarations = declarations_alone s.part s.declarations i } ∷ sections_alone ss i)

pub own_flat_source : (p : SourceTree) → flat (record { blocks = []; program = p }) ≡ p
own_flat_source p = (λ i. record { name = p.name; sections = sections_alone p.sections i; statements = statements_alone (declared_names p.sections) p.statements i })
