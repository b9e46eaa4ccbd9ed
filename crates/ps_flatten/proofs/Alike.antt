-- A body that is laid flat over function blocks as they are kept is laid flat over them as they are.
use Rattle.std.proofs.Common.{◌≡◌, Bool, true, false, List, [], ◌∷◌, ◌++◌, Option, None, Some, map, refl, ap, ◌∙◌, cond, true≢false}
use Rattle.std.specs.List.{flat_map, find}
use Rattle.std.proofs.lemmas.Bool.{false≢true}
use Rattle.ps_parser.specs.declared.name.Name.{Name}
use Rattle.ps_parser.specs.declared.section.Part.{Part}
use Rattle.ps_parser.specs.declared.section.Part.TheVariants.{Input, Output, Local}
use Rattle.ps_parser.specs.declared.section.Declaration.{Declaration}
use Rattle.ps_parser.specs.declared.section.Section.{Section}
use Rattle.ps_parser.specs.declared.statement.Target.TheVariants as target
use Rattle.ps_parser.specs.Tree.{FactorTree, Signal, Pin, Literal, Time, Group, ProductTree, no_factor, factor, SumTree, no_product, product, ArgumentTree, StatementTree, Assign, Call, SourceTree}
use Rattle.ps_derived.specs.declared.declared.Declared.{Declared}
use Rattle.ps_derived.specs.Bodies.{same, declared_names, first_declared, inputs}
use Rattle.ps_derived.specs.Dotted.{inside, statement_inside, declaration_inside}
use Rattle.ps_derived.specs.Flat.{FlatBlock, DerivedInstance, block_named, block_in, instance_by, instance_if, instance_of, copy_declares, declaration_flat, section_flat, output_read, factor_flat, product_flat, sum_flat, argument_flat, input_assigned, call_flat, statement_flat, body_flat, block_flat}
use Rattle.ps_flatten.specs.Laying.{copied, IsLaid, AreLaid}

-- both are there and alike, or none is
abbrev Alike : Option FlatBlock → Option FlatBlock → Type 0
Alike None None = Unit {0}
Alike None (Some b) = ⊥
Alike (Some l) None = ⊥
Alike (Some l) (Some b) = IsLaid l b

named_alike : (ls bs : List FlatBlock) (n : Name) → AreLaid ls bs → Alike (block_named ls n) (block_named bs n)
named_alike [] [] n h = tt
named_alike [] (b ∷ bs) n h = absurd h
named_alike (l ∷ ls) [] n h = absurd h
named_alike (l ∷ ls) (b ∷ bs) n h = by (same n l.name) (same n b.name) (ap (same n) h.0.name) (named_alike ls bs n h.1)
  where
    by : (t u : Bool) → t ≡ u → Alike (block_named ls n) (block_named bs n) → Alike (cond t (Some l) (block_named ls n)) (cond u (Some b) (block_named bs n))
    by true true e rest = h.0
    by true false e rest = absurd (true≢false e)
    by false true e rest = absurd (false≢true e)
    by false false e rest = rest

names_alike : (l b : FlatBlock) (ns : List Name) → IsLaid l b → flat_map (copy_declares l) ns ≡ flat_map (copy_declares b) ns
names_alike l b [] h = refl
names_alike l b (n ∷ ns) h = (λ i. map (declaration_inside n) (h.declares i) ++ names_alike l b ns h i)

module _ (ls bs : List FlatBlock) (laid : AreLaid ls bs) where
  -- ---- declarations

  local_alike : (d : Declaration) (o q : Option FlatBlock) → Alike o q → declaration_flat d o ≡ declaration_flat d q
  local_alike d None None h = refl
  local_alike d None (Some b) h = absurd h
  local_alike d (Some l) None h = absurd h
  local_alike d (Some l) (Some b) h = names_alike l b d.names h

  declaration_alike : (part : Part) (d : Declaration) → declaration_flat d (block_in ls part d.ty) ≡ declaration_flat d (block_in bs part d.ty)
  declaration_alike Input d = refl
  declaration_alike Output d = refl
  declaration_alike Local d = local_alike d (block_named ls d.ty) (block_named bs d.ty) (named_alike ls bs d.ty laid)

  section_alike : (s : Section) → section_flat ls s ≡ section_flat bs s
  section_alike s = (λ i. record { part = s.part; declarations = flat_map (λ d. declaration_alike s.part d i) s.declarations })

  -- ---- statements

  -- both are instances that are alike, or none is one
  abbrev Same : Option DerivedInstance → Option DerivedInstance → Type 0
  Same None None = Unit {0}
  Same None (Some j) = ⊥
  Same (Some i) None = ⊥
  Same (Some i) (Some j) = (i.name ≡ j.name) × (i.block.declared ≡ j.block.declared) × (i.block.flat.statements ≡ j.block.flat.statements)

  made_alike : (d : Declared) (o q : Option FlatBlock) → Alike o q → Same (instance_by d o) (instance_by d q)
  made_alike d None None h = tt
  made_alike d None (Some b) h = absurd h
  made_alike d (Some l) None h = absurd h
  made_alike d (Some l) (Some b) h = (refl, h.declared, h.statements)

  part_alike : (d : Declared) (part : Part) → Same (instance_by d (block_in ls part d.ty)) (instance_by d (block_in bs part d.ty))
  part_alike d Input = tt
  part_alike d Output = tt
  part_alike d Local = made_alike d (block_named ls d.ty) (block_named bs d.ty) (named_alike ls bs d.ty laid)

  if_alike : (o : Option Declared) → Same (instance_if ls o) (instance_if bs o)
  if_alike None = tt
  if_alike (Some d) = part_alike d d.part

  module _ (ds : List Declared) where
    instance_alike : (n : Name) → Same (instance_of ls ds n) (instance_of bs ds n)
    instance_alike n = if_alike (first_declared ds n)

    read_alike : (n q : Name) (o p : Option DerivedInstance) → Same o p → output_read n q o ≡ output_read n q p
    read_alike n q None None h = refl
    read_alike n q None (Some j) h = absurd h
    read_alike n q (Some i) None h = absurd h
    read_alike n q (Some i) (Some j) h =
        (λ k. output_read n q (Some (record { name = h.0 k; block = record { name = i.block.name; declared = h.1 k; flat = i.block.flat } })))

    mutual
      factor_alike : (f : FactorTree) → factor_flat ls ds f ≡ factor_flat bs ds f
      factor_alike (Signal n) = refl
      factor_alike (Pin n q) = read_alike n q (instance_of ls ds n) (instance_of bs ds n) (instance_alike n)
      factor_alike (Literal b p) = refl
      factor_alike (Time t p) = refl
      factor_alike (Group s) = ap Group (sum_alike s)

      product_alike : (p : ProductTree) → product_flat ls ds p ≡ product_flat bs ds p
      product_alike no_factor = refl
      product_alike (factor f fs) = (λ i. factor (factor_alike f i) (product_alike fs i))

      sum_alike : (s : SumTree) → sum_flat ls ds s ≡ sum_flat bs ds s
      sum_alike no_product = refl
      sum_alike (product p ps) = (λ i. product (product_alike p i) (sum_alike ps i))

    argument_alike : (a : ArgumentTree) → argument_flat ls ds a ≡ argument_flat bs ds a
    argument_alike a = (λ i. record { pin = a.pin; value = sum_alike a.value i })

    assigned_alike : (x : Name) (o : Option ArgumentTree) → input_assigned ls ds x o ≡ input_assigned bs ds x o
    assigned_alike x None = refl
    assigned_alike x (Some a) = ap (Assign (target.Name (record { text = x.text; place = a.pin.place }))) (sum_alike a.value)

    call_alike : (n : Name) (args : List ArgumentTree) (o p : Option DerivedInstance) → Same o p → call_flat ls ds n args o ≡ call_flat bs ds n args p
    call_alike n args None None h = (λ i. Call n (map (λ a. argument_alike a i) args) ∷ [])
    call_alike n args None (Some j) h = absurd h
    call_alike n args (Some i) None h = absurd h
    call_alike n args (Some i) (Some j) h =
        (λ k. map (λ x. assigned_alike (inside (h.0 k) x) (find (λ a. same x a.pin) args) k) (inputs (h.1 k)) ++ map (statement_inside (h.0 k)) (h.2 k))

    statement_alike : (s : StatementTree) → statement_flat ls ds s ≡ statement_flat bs ds s
    statement_alike (Assign t s) = ap (λ v. Assign t v ∷ []) (sum_alike s)
    statement_alike (Call n args) = call_alike n args (instance_of ls ds n) (instance_of bs ds n) (instance_alike n)

  -- a body
  pub body_alike : (s : SourceTree) → body_flat ls s ≡ body_flat bs s
  body_alike s = (λ i. record { name = s.name; sections = map (λ x. section_alike x i) s.sections; statements = flat_map (λ x. statement_alike (declared_names s.sections) x i) s.statements })

  -- a function block over them
  pub block_alike : (l : FlatBlock) (s : SourceTree) → IsLaid l (block_flat ls s) → IsLaid l (block_flat bs s)
  block_alike l s h = record {
    name = h.name;
    declared = h.declared;
    declares = h.declares ∙ ap (λ (b : SourceTree). copied b.sections) (body_alike s);
    statements = h.statements ∙ ap (λ (b : SourceTree). b.statements) (body_alike s);
  }

-- ---- one more function block

pub laid_push : (ls bs : List FlatBlock) (l b : FlatBlock) → AreLaid ls bs → IsLaid l b → AreLaid (ls ++ l ∷ []) (bs ++ b ∷ [])
laid_push [] [] l b h one = (one, tt)
laid_push [] (c ∷ bs) l b h one = absurd h
laid_push (k ∷ ls) [] l b h one = absurd h
laid_push (k ∷ ls) (c ∷ bs) l b h one = (h.0, laid_push ls bs l b h.1 one)
