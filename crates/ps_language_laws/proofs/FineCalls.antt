-- Calls of a text of the grammar that breaks no rule: names have no dot, and after the dot of a derived instance stands an output.
use Rattle.std.proofs.Common.{◌≡◌, Bool, true, false, List, [], ◌∷◌, ◌++◌, Option, None, Some, refl, sym, ◌∙◌, if◌then◌else◌, cond}
use Rattle.std.specs.List.{flat_map, AllByRecursion}
use Rattle.std.proofs.lemmas.Grind.{flat_map-append}
use Rattle.ps_base.specs.LetterCase.{folded}
use Rattle.ps_base.specs.declared.failing.Refusal.{Refusal}
use Rattle.ps_parser.specs.declared.name.Name.{Name}
use Rattle.ps_parser.specs.declared.section.Part.{Part}
use Rattle.ps_parser.specs.declared.section.Part.TheVariants.{Input, Output, Local}
use Rattle.ps_parser.specs.Tree.{FactorTree, Signal, Pin, Literal, Time, Group, ProductTree, no_factor, factor, SumTree, no_product, product, ArgumentTree, StatementTree, Assign, Call}
use Rattle.ps_parser.specs.Names.{IsPlainName}
use Rattle.ps_parser.specs.Whole.{FactorWhole, ProductWhole, MoreFactorsWhole, SumWhole, MoreProductsWhole, ArgumentWhole, StatementWhole}
use Rattle.ps_names.specs.Offences.{unless}
use Rattle.ps_names.specs.Uses.{Use, runs, gives, factor_uses, product_uses, sum_uses, value_uses, argument_uses, statement_uses}
use Rattle.ps_names.proofs.Distinct.{none_left, none_right}
use Rattle.ps_derived.specs.declared.declared.Declared.{Declared}
use Rattle.ps_derived.specs.Bodies.{same, type_in, is_output, first_declared, inputs}
use Rattle.ps_derived.specs.Flat.{FlatBlock, DerivedInstance, block_named, block_in, instance_by, instance_if, instance_of}
use Rattle.ps_derived.specs.declared.interface.Interface.{Interface}
use Rattle.ps_derived.specs.Interfaces.{interface_named, derived_if, is_in}
use Rattle.ps_offences.specs.BlockRules.{misread, misused}
use Rattle.ps_language_laws.proofs.Plainly.{HasNoDot, plain_name}

-- what bodies see of function blocks that are laid flat
abbrev pub faces : List FlatBlock → List Interface
faces [] = []
faces (b ∷ bs) = record { name = b.name; scope = b.declared; inputs = inputs b.declared } ∷ faces bs

-- what is read after the dot of a derived instance, if it is one, is an output
abbrev pub OutputRead : Name → Option DerivedInstance → Type 0
OutputRead q None = Unit {0}
OutputRead q (Some i) = is_in is_output (first_declared i.block.declared q) ≡ true

module _ (blocks : List FlatBlock) (ds : List Declared) where
  abbrev mutual
    pub FactorFine : FactorTree → Type 0
    FactorFine (Signal m) = HasNoDot (folded m.text)
    FactorFine (Pin m q) = HasNoDot (folded m.text) × OutputRead q (instance_of blocks ds m)
    FactorFine (Literal b p) = Unit {0}
    FactorFine (Time t p) = Unit {0}
    FactorFine (Group s) = SumFine s

    pub ProductFine : ProductTree → Type 0
    ProductFine no_factor = Unit {0}
    ProductFine (factor f fs) = FactorFine f × ProductFine fs

    pub SumFine : SumTree → Type 0
    SumFine no_product = Unit {0}
    SumFine (product p ps) = ProductFine p × SumFine ps

  abbrev pub StatementFine : StatementTree → Type 0
  StatementFine (Assign t s) = Unit {0}
  StatementFine (Call n args) = HasNoDot (folded n.text) × AllByRecursion (λ (a : ArgumentTree). SumFine a.value) args

  -- ---- what rule B3 says

  -- the function block with a name, as bodies see it
  named_face : (bs : List FlatBlock) (d : Declared) (q : Name) → misread q (interface_named (faces bs) d.ty) ≡ [] → OutputRead q (instance_by d (block_named bs d.ty))
  named_face [] d q h = tt
  named_face (b ∷ bs) d q h = by (same d.ty b.name) (named_face bs d q) h
    where
      output : (x : Bool) (o : Refusal) → unless x (o ∷ []) ≡ [] → x ≡ true
      output true o e = refl
      output false o e = cc

      by : (x : Bool) → (misread q (interface_named (faces bs) d.ty) ≡ [] → OutputRead q (instance_by d (block_named bs d.ty))) →
          misread q (cond x (Some (record { name = b.name; scope = b.declared; inputs = inputs b.declared })) (interface_named (faces bs) d.ty)) ≡ [] →
          OutputRead q (instance_by d (cond x (Some b) (block_named bs d.ty)))
      by true rest e = output (is_in is_output (first_declared b.declared q)) _ e
      by false rest e = rest e

  declared_face : (d : Declared) (part : Part) (q : Name) → misread q (type_in (λ (b : Interface). b.name) (faces blocks) part d.ty) ≡ [] → OutputRead q (instance_by d (block_in blocks part d.ty))
  declared_face d Input q h = tt
  declared_face d Output q h = tt
  declared_face d Local q h = named_face blocks d q h

  first_face : (o : Option Declared) (q : Name) → misread q (derived_if (faces blocks) o) ≡ [] → OutputRead q (instance_if blocks o)
  first_face None q h = tt
  first_face (Some d) q h = declared_face d d.part q h

  -- ---- of a text of the grammar

  abbrev Fine : List Use → Type 0
  Fine us = flat_map (misused (faces blocks) ds) us ≡ []

  front : (us ws : List Use) → Fine (us ++ ws) → Fine us
  front us ws h = none_left _ (flat_map (misused (faces blocks) ds) ws) (sym (flat_map-append (misused (faces blocks) ds) us ws) ∙ h)

  back : (us ws : List Use) → Fine (us ++ ws) → Fine ws
  back us ws h = none_right (flat_map (misused (faces blocks) ds) us) _ (sym (flat_map-append (misused (faces blocks) ds) us ws) ∙ h)

  mutual
    factor_fine : (f : FactorTree) → FactorWhole IsPlainName f → Fine (factor_uses f) → FactorFine f
    factor_fine (Signal m) w h = plain_name m.text w
    factor_fine (Pin m q) w h = (plain_name m.text w.0, first_face (first_declared ds m) q (none_left _ [] h))
    factor_fine (Literal b p) w h = tt
    factor_fine (Time t p) w h = tt
    factor_fine (Group s) w h = sum_fine s w h

    more_factors_fine : (p : ProductTree) → MoreFactorsWhole IsPlainName p → Fine (product_uses p) → ProductFine p
    more_factors_fine no_factor w h = tt
    more_factors_fine (factor f fs) w h = (factor_fine f w.0 (front (factor_uses f) (product_uses fs) h), more_factors_fine fs w.1 (back (factor_uses f) (product_uses fs) h))

    product_fine : (p : ProductTree) → ProductWhole IsPlainName p → Fine (product_uses p) → ProductFine p
    product_fine no_factor w h = tt
    product_fine (factor f fs) w h = (factor_fine f w.0 (front (factor_uses f) (product_uses fs) h), more_factors_fine fs w.1 (back (factor_uses f) (product_uses fs) h))

    more_products_fine : (s : SumTree) → MoreProductsWhole IsPlainName s → Fine (sum_uses s) → SumFine s
    more_products_fine no_product w h = tt
    more_products_fine (product p ps) w h = (product_fine p w.0 (front (product_uses p) (sum_uses ps) h), more_products_fine ps w.1 (back (product_uses p) (sum_uses ps) h))

    sum_fine : (s : SumTree) → SumWhole IsPlainName s → Fine (sum_uses s) → SumFine s
    sum_fine no_product w h = tt
    sum_fine (product p ps) w h = (product_fine p w.0 (front (product_uses p) (sum_uses ps) h), more_products_fine ps w.1 (back (product_uses p) (sum_uses ps) h))

  value_fine : (s : SumTree) → SumWhole IsPlainName s → Fine (value_uses s) → SumFine s
  value_fine (product (factor (Literal b p) no_factor) no_product) w h = ((tt, tt), tt)
  value_fine (product (factor (Time t p) no_factor) no_product) w h = ((tt, tt), tt)
  value_fine s w h = sum_fine s w h

  arguments_fine : (n : Name) (args : List ArgumentTree) → AllByRecursion (ArgumentWhole IsPlainName) args → Fine (flat_map (argument_uses n) args) → AllByRecursion (λ (a : ArgumentTree). SumFine a.value) args
  arguments_fine n [] w h = tt
  arguments_fine n (a ∷ args) w h = (
    value_fine a.value w.0.1 (none_right (misused (faces blocks) ds (gives n a.pin)) _ (front (argument_uses n a) (flat_map (argument_uses n) args) h)),
    arguments_fine n args w.1 (back (argument_uses n a) (flat_map (argument_uses n) args) h),
  )

  statement_fine : (s : StatementTree) → StatementWhole IsPlainName s → Fine (statement_uses s) → StatementFine s
  statement_fine (Assign t s) w h = tt
  statement_fine (Call n args) w h = (plain_name n.text w.0, arguments_fine n args w.1 (none_right (misused (faces blocks) ds (runs n)) _ h))

  pub statements_fine : (ss : List StatementTree) → AllByRecursion (StatementWhole IsPlainName) ss → Fine (flat_map statement_uses ss) → AllByRecursion StatementFine ss
  statements_fine [] w h = tt
  statements_fine (s ∷ ss) w h = (
    statement_fine s w.0 (front (statement_uses s) (flat_map statement_uses ss) h),
    statements_fine ss w.1 (back (statement_uses s) (flat_map statement_uses ss) h),
  )
