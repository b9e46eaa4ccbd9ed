-- A body of a whole source is whole where it is laid flat over whole function blocks, and each call of a derived instance
-- has an argument for each input.
use Rattle.std.proofs.Common.{◌≡◌, ℕ, suc, ◌≤◌, max, Bool, true, false, List, [], ◌∷◌, ◌++◌, Option, None, Some, map, is_some, refl, sym, ap, subst, ◌∙◌, append_assoc, cond, arith, if◌then◌else◌}
use Rattle.std.specs.List.{flat_map, find, AllByRecursion}
use Rattle.std.proofs.lemmas.Bool.{false≢true}
use Rattle.ps_base.specs.declared.limits.TheConstants.{MOST_GROUPS}
use Rattle.ps_parser.specs.declared.name.Name.{Name}
use Rattle.ps_parser.specs.declared.section.Part.{Part}
use Rattle.ps_parser.specs.declared.section.Part.TheVariants.{Input, Output, Local}
use Rattle.ps_parser.specs.declared.section.Declaration.{Declaration}
use Rattle.ps_parser.specs.declared.section.Section.{Section}
use Rattle.ps_parser.specs.declared.statement.Target.{Target}
use Rattle.ps_parser.specs.declared.statement.Target.TheVariants as target
use Rattle.ps_parser.specs.Tree.{FactorTree, Signal, Pin, Literal, Time, Group, ProductTree, no_factor, factor, SumTree, no_product, product, ArgumentTree, StatementTree, Assign, Call, SourceTree}
use Rattle.ps_parser.specs.Names.{IsDottedName, single, joined}
use Rattle.ps_parser.specs.Whole.{FactorWhole, ProductWhole, MoreFactorsWhole, SumWhole, MoreProductsWhole, TargetWhole, ArgumentWhole, StatementWhole, NamesWhole, DeclarationWhole, SectionWhole, factor_nesting, product_nesting, sum_nesting, arguments_nesting, statement_nesting, statements_nesting, IsSource}
use Rattle.ps_derived.specs.declared.declared.Declared.{Declared}
use Rattle.ps_derived.specs.Bodies.{same, is_input, is_output, is_local, is_among, declared_as, declares, section_declares, declared_names, first_declared, inputs_after, inputs}
use Rattle.ps_derived.specs.Renaming.{factor_renamed, product_renamed, sum_renamed, target_renamed, argument_renamed, statement_renamed}
use Rattle.ps_derived.specs.Dotted.{inside, statement_inside, declaration_inside}
use Rattle.ps_derived.specs.Spelling.{spelling, as_declared, spelt_as_declared}
use Rattle.ps_derived.specs.Flat.{FlatBlock, DerivedInstance, block_in, instance_by, instance_if, instance_of, declarations_in, copy_declares, declaration_flat, section_flat, output_read, factor_flat, product_flat, sum_flat, argument_flat, input_assigned, call_flat, statement_flat, block_flat}
use Rattle.ps_derived.specs.Giving.{HasArgument}
use Rattle.ps_flatten.proofs.Given.{GivesAll, Gives}

-- ---- lists

pub all_append : {X : Type 0} (P : X → Type 0) (xs ys : List X) → AllByRecursion P xs → AllByRecursion P ys → AllByRecursion P (xs ++ ys)
all_append P [] ys h k = k
all_append P (x ∷ xs) ys h k = (h.0, all_append P xs ys h.1 k)

all_map : {X Y : Type 0} (P : X → Type 0) (Q : Y → Type 0) (f : X → Y) (xs : List X) → ((x : X) → P x → Q (f x)) → AllByRecursion P xs → AllByRecursion Q (map f xs)
all_map P Q f [] g h = tt
all_map P Q f (x ∷ xs) g h = (g x h.0, all_map P Q f xs g h.1)

all_flat : {X Y : Type 0} (P : X → Type 0) (Q : Y → Type 0) (f : X → List Y) (xs : List X) → ((x : X) → P x → AllByRecursion Q (f x)) → AllByRecursion P xs → AllByRecursion Q (flat_map f xs)
all_flat P Q f [] g h = tt
all_flat P Q f (x ∷ xs) g h = all_append Q (f x) (flat_map f xs) (g x h.0) (all_flat P Q f xs g h.1)

-- what each item keeps, the one that is found keeps
abbrev Keeps : {X : Type 0} → (X → Type 0) → Option X → Type 0
Keeps P None = Unit {0}
Keeps P (Some x) = P x

found : {X : Type 0} (P : X → Type 0) (p : X → Bool) (xs : List X) → AllByRecursion P xs → Keeps P (find p xs)
found P p [] h = tt
found P p (x ∷ xs) h = by (p x) (found P p xs h.1)
  where
    by : (b : Bool) → Keeps P (find p xs) → Keeps P (cond b (Some x) (find p xs))
    by true rest = h.0
    by false rest = rest

both : {X : Type 0} (P Q : X → Type 0) (xs : List X) → AllByRecursion P xs → AllByRecursion Q xs → AllByRecursion (λ x. P x × Q x) xs
both P Q [] h k = tt
both P Q (x ∷ xs) h k = ((h.0, k.0), both P Q xs h.1 k.1)

-- ---- names

dotted_joined : (g n : List ℕ) → IsDottedName g → IsDottedName n → IsDottedName (g ++ 46 ∷ n)
dotted_joined g n (single h) k = joined g n h k refl
dotted_joined g n (joined first rest h more is) k =
    joined first (rest ++ 46 ∷ n) h (dotted_joined rest n more k) (ap (λ t. t ++ 46 ∷ n) is ∙ append_assoc first (46 ∷ rest) (46 ∷ n))

-- a name is dotted
abbrev pub Named : Name → Type 0
Named n = IsDottedName n.text

named_inside : (g n : Name) → Named g → Named n → Named (inside g n)
named_inside g n h k = dotted_joined g.text n.text h k

-- ---- under other names

module _ (rename : Name → Name) (named : (n : Name) → Named n → Named (rename n)) where
  mutual
    factor_in : (f : FactorTree) → FactorWhole IsDottedName f → FactorWhole IsDottedName (factor_renamed rename f)
    factor_in (Signal n) h = named n h
    factor_in (Pin n q) h = (named n h.0, h.1)
    factor_in (Literal b p) h = tt
    factor_in (Time t p) h = h
    factor_in (Group s) h = sum_in s h

    product_in : (p : ProductTree) → ProductWhole IsDottedName p → ProductWhole IsDottedName (product_renamed rename p)
    product_in no_factor h = h
    product_in (factor f fs) h = (factor_in f h.0, factors_in fs h.1)

    factors_in : (p : ProductTree) → MoreFactorsWhole IsDottedName p → MoreFactorsWhole IsDottedName (product_renamed rename p)
    factors_in no_factor h = tt
    factors_in (factor f fs) h = (factor_in f h.0, factors_in fs h.1)

    sum_in : (s : SumTree) → SumWhole IsDottedName s → SumWhole IsDottedName (sum_renamed rename s)
    sum_in no_product h = h
    sum_in (product p ps) h = (product_in p h.0, products_in ps h.1)

    products_in : (s : SumTree) → MoreProductsWhole IsDottedName s → MoreProductsWhole IsDottedName (sum_renamed rename s)
    products_in no_product h = tt
    products_in (product p ps) h = (product_in p h.0, products_in ps h.1)

  mutual
    factor_deep : (f : FactorTree) → factor_nesting (factor_renamed rename f) ≡ factor_nesting f
    factor_deep (Signal n) = refl
    factor_deep (Pin n q) = refl
    factor_deep (Literal b p) = refl
    factor_deep (Time t p) = refl
    factor_deep (Group s) = ap suc (sum_deep s)

    product_deep : (p : ProductTree) → product_nesting (product_renamed rename p) ≡ product_nesting p
    product_deep no_factor = refl
    product_deep (factor f fs) = (λ i. max (factor_deep f i) (product_deep fs i))

    sum_deep : (s : SumTree) → sum_nesting (sum_renamed rename s) ≡ sum_nesting s
    sum_deep no_product = refl
    sum_deep (product p ps) = (λ i. max (product_deep p i) (sum_deep ps i))

  arguments_deep : (args : List ArgumentTree) → arguments_nesting (map (argument_renamed rename) args) ≡ arguments_nesting args
  arguments_deep [] = refl
  arguments_deep (a ∷ args) = (λ i. max (sum_deep a.value i) (arguments_deep args i))

  target_in : (t : Target) → TargetWhole IsDottedName t → TargetWhole IsDottedName (target_renamed rename t)
  target_in (target.Name n) h = named n h
  target_in (target.Pin n q) h = (named n h.0, h.1)

-- a statement is whole, and nested no deeper than a source may be
abbrev pub Fine : StatementTree → Type 0
Fine s = StatementWhole IsDottedName s × (statement_nesting s ≤ MOST_GROUPS)

fine_renamed : (rename : Name → Name) → ((n : Name) → Named n → Named (rename n)) → (s : StatementTree) → Fine s → Fine (statement_renamed rename s)
fine_renamed rename named (Assign t s) h = ((target_in rename named t h.0.0, sum_in rename named s h.0.1), subst (λ n. n ≤ MOST_GROUPS) (sym (sum_deep rename named s)) h.1)
fine_renamed rename named (Call n args) h = (
  (named n h.0.0, all_map (ArgumentWhole IsDottedName) (ArgumentWhole IsDottedName) (argument_renamed rename) args (λ a w. (w.0, sum_in rename named a.value w.1)) h.0.1),
  subst (λ n. n ≤ MOST_GROUPS) (sym (arguments_deep rename named args)) h.1,
)

fine_inside : (g : Name) → Named g → (s : StatementTree) → Fine s → Fine (statement_inside g s)
fine_inside g named = fine_renamed (inside g) (λ n. named_inside g n named)

names_inside : (g : Name) → Named g → (ns : List Name) → NamesWhole IsDottedName ns → NamesWhole IsDottedName (map (inside g) ns)
names_inside g named [] h = h
names_inside g named (n ∷ ns) h = (named_inside g n named h.0, all_map Named Named (inside g) ns (λ m. named_inside g m named) h.1)

declaration_in : (g : Name) → Named g → (d : Declaration) → DeclarationWhole IsDottedName d → DeclarationWhole IsDottedName (declaration_inside g d)
declaration_in g named d h = (names_inside g named d.names h.0, h.1)

-- ---- what a body declares

all_names : (ns : List Name) → NamesWhole IsDottedName ns → AllByRecursion Named ns
all_names [] h = absurd h
all_names (n ∷ ns) h = h

-- the name of a declaration is dotted
abbrev pub DeclaredNamed : Declared → Type 0
DeclaredNamed d = Named d.name

declared_named : (ss : List Section) → AllByRecursion (SectionWhole IsDottedName) ss → AllByRecursion DeclaredNamed (declared_names ss)
declared_named ss h =
    all_flat (SectionWhole IsDottedName) DeclaredNamed section_declares ss
    (λ s w. all_flat (DeclarationWhole IsDottedName) DeclaredNamed (declares s.part) s.declarations
    (λ d v. all_map Named DeclaredNamed (declared_as s.part d.ty) d.names (λ n x. x) (all_names d.names v.0)) w)
    h

-- a name is dotted, however it is spelt
spelt_named : (q : Name) (o : Option Declared) → Named q → Keeps DeclaredNamed o → IsDottedName (spelling q o)
spelt_named q None h k = h
spelt_named q (Some d) h k = k

fine_of : (ss : List StatementTree) → AllByRecursion (StatementWhole IsDottedName) ss → statements_nesting ss ≤ MOST_GROUPS → AllByRecursion Fine ss
fine_of [] h le = tt
fine_of (s ∷ ss) h le = ((h.0, grind arith), fine_of ss h.1 (grind arith))

fine_whole : (ss : List StatementTree) → AllByRecursion Fine ss → AllByRecursion (StatementWhole IsDottedName) ss
fine_whole [] h = tt
fine_whole (s ∷ ss) h = (h.0.0, fine_whole ss h.1)

max_within : (a b n : ℕ) → a ≤ n → b ≤ n → max a b ≤ n
max_within a b n h k = grind arith

fine_shallow : (ss : List StatementTree) → AllByRecursion Fine ss → statements_nesting ss ≤ MOST_GROUPS
fine_shallow [] h = omega arith
fine_shallow (s ∷ ss) h = max_within (statement_nesting s) (statements_nesting ss) MOST_GROUPS h.0.1 (fine_shallow ss h.1)

-- a whole source is whole with its names spelt as they are declared
pub spelt_source : (s : SourceTree) → IsSource s → IsSource (spelt_as_declared s)
spelt_source s h =
    let ds = declared_names s.sections in
    let named = declared_named s.sections h.whole.1 in
    let spelt = statement_renamed (as_declared ds) in
    let fine = all_map Fine Fine spelt s.statements
    (fine_renamed (as_declared ds) (λ n k. spelt_named n (first_declared ds n) k (found DeclaredNamed (λ d. same n d.name) ds named)))
    (fine_of s.statements h.whole.2 h.shallow) in
    record { whole = (h.whole.0, h.whole.1, fine_whole (map spelt s.statements) fine); shallow = fine_shallow (map spelt s.statements) fine }

inputs_named : (before : List Name) (ds : List Declared) → AllByRecursion DeclaredNamed ds → AllByRecursion Named (inputs_after before ds)
inputs_named before [] h = tt
inputs_named before (d ∷ ds) h =
    all_append Named (if is_among before d then [] else (if is_input d.part then d.name ∷ [] else [])) (inputs_after (before ++ d.name ∷ []) ds)
    (by (is_among before d) (is_input d.part)) (inputs_named (before ++ d.name ∷ []) ds h.1)
  where
    by : (again input : Bool) → AllByRecursion Named (if again then [] else (if input then d.name ∷ [] else []))
    by true input = tt
    by false true = (h.0, tt)
    by false false = tt

-- ---- function blocks that are laid flat

-- all that it declares, its sections and its statements are whole
pub record BlockFine (b : FlatBlock) : Type 0 where
  pub declared : AllByRecursion DeclaredNamed b.declared
  pub sections : AllByRecursion (SectionWhole IsDottedName) b.flat.sections
  pub statements : AllByRecursion Fine b.flat.statements

part_whole : (p : Part → Bool) (ss : List Section) → AllByRecursion (SectionWhole IsDottedName) ss → AllByRecursion (DeclarationWhole IsDottedName) (declarations_in p ss)
part_whole p [] h = tt
part_whole p (s ∷ ss) h = all_append (DeclarationWhole IsDottedName) (if p s.part then s.declarations else []) (declarations_in p ss) (by (p s.part)) (part_whole p ss h.1)
  where
    by : (b : Bool) → AllByRecursion (DeclarationWhole IsDottedName) (if b then s.declarations else [])
    by true = h.0
    by false = tt

copy_whole : (b : FlatBlock) → BlockFine b → (g : Name) → Named g → AllByRecursion (DeclarationWhole IsDottedName) (copy_declares b g)
copy_whole b h g named =
    let ss = b.flat.sections in
    all_map (DeclarationWhole IsDottedName) (DeclarationWhole IsDottedName) (declaration_inside g) (declarations_in is_input ss ++ (declarations_in is_output ss ++ declarations_in is_local ss)) (declaration_in g named)
    (all_append (DeclarationWhole IsDottedName) (declarations_in is_input ss) (declarations_in is_output ss ++ declarations_in is_local ss) (part_whole is_input ss h.sections)
    (all_append (DeclarationWhole IsDottedName) (declarations_in is_output ss) (declarations_in is_local ss) (part_whole is_output ss h.sections) (part_whole is_local ss h.sections)))

module _ (bs : List FlatBlock) (fine : AllByRecursion BlockFine bs) where
  block_fine : (part : Part) (ty : Name) → Keeps BlockFine (block_in bs part ty)
  block_fine Input ty = tt
  block_fine Output ty = tt
  block_fine Local ty = found BlockFine (λ b. same ty b.name) bs fine

  declaration_whole : (d : Declaration) (o : Option FlatBlock) → DeclarationWhole IsDottedName d → Keeps BlockFine o → AllByRecursion (DeclarationWhole IsDottedName) (declaration_flat d o)
  declaration_whole d None h k = (h, tt)
  declaration_whole d (Some b) h k = all_flat Named (DeclarationWhole IsDottedName) (copy_declares b) d.names (λ n. copy_whole b k n) (all_names d.names h.0)

  section_whole : (s : Section) → SectionWhole IsDottedName s → SectionWhole IsDottedName (section_flat bs s)
  section_whole s h =
      all_flat (DeclarationWhole IsDottedName) (DeclarationWhole IsDottedName) (λ d. declaration_flat d (block_in bs s.part d.ty)) s.declarations
      (λ d w. declaration_whole d (block_in bs s.part d.ty) w (block_fine s.part d.ty)) h

  -- ---- statements

  -- its name is dotted, and its function block is whole
  abbrev InstanceFine : DerivedInstance → Type 0
  InstanceFine i = Named i.name × BlockFine i.block

  made_fine : (d : Declared) (o : Option FlatBlock) → DeclaredNamed d → Keeps BlockFine o → Keeps InstanceFine (instance_by d o)
  made_fine d None h k = tt
  made_fine d (Some b) h k = (h, k)

  if_fine : (o : Option Declared) → Keeps DeclaredNamed o → Keeps InstanceFine (instance_if bs o)
  if_fine None h = tt
  if_fine (Some d) h = made_fine d (block_in bs d.part d.ty) h (block_fine d.part d.ty)

  read_whole : (n q : Name) (o : Option DerivedInstance) → Named n → Named q → Keeps InstanceFine o → FactorWhole IsDottedName (output_read n q o)
  read_whole n q None h k i = (h, k)
  read_whole n q (Some i) h k w =
      dotted_joined i.name.text (spelling q (first_declared i.block.declared q)) w.0
      (spelt_named q (first_declared i.block.declared q) k (found DeclaredNamed (λ d. same q d.name) i.block.declared w.1.declared))

  read_deep : (n q : Name) (o : Option DerivedInstance) → factor_nesting (output_read n q o) ≡ 0
  read_deep n q None = refl
  read_deep n q (Some i) = refl

  module _ (ds : List Declared) (named : AllByRecursion DeclaredNamed ds) where
    instance_fine : (n : Name) → Keeps InstanceFine (instance_of bs ds n)
    instance_fine n = if_fine (first_declared ds n) (found DeclaredNamed (λ d. same n d.name) ds named)

    mutual
      factor_whole : (f : FactorTree) → FactorWhole IsDottedName f → FactorWhole IsDottedName (factor_flat bs ds f)
      factor_whole (Signal n) h = h
      factor_whole (Pin n q) h = read_whole n q (instance_of bs ds n) h.0 h.1 (instance_fine n)
      factor_whole (Literal b p) h = tt
      factor_whole (Time t p) h = h
      factor_whole (Group s) h = sum_whole s h

      product_whole : (p : ProductTree) → ProductWhole IsDottedName p → ProductWhole IsDottedName (product_flat bs ds p)
      product_whole no_factor h = h
      product_whole (factor f fs) h = (factor_whole f h.0, factors_whole fs h.1)

      factors_whole : (p : ProductTree) → MoreFactorsWhole IsDottedName p → MoreFactorsWhole IsDottedName (product_flat bs ds p)
      factors_whole no_factor h = tt
      factors_whole (factor f fs) h = (factor_whole f h.0, factors_whole fs h.1)

      sum_whole : (s : SumTree) → SumWhole IsDottedName s → SumWhole IsDottedName (sum_flat bs ds s)
      sum_whole no_product h = h
      sum_whole (product p ps) h = (product_whole p h.0, products_whole ps h.1)

      products_whole : (s : SumTree) → MoreProductsWhole IsDottedName s → MoreProductsWhole IsDottedName (sum_flat bs ds s)
      products_whole no_product h = tt
      products_whole (product p ps) h = (product_whole p h.0, products_whole ps h.1)

    mutual
      flat_factor_deep : (f : FactorTree) → factor_nesting (factor_flat bs ds f) ≡ factor_nesting f
      flat_factor_deep (Signal n) = refl
      flat_factor_deep (Pin n q) = read_deep n q (instance_of bs ds n)
      flat_factor_deep (Literal b p) = refl
      flat_factor_deep (Time t p) = refl
      flat_factor_deep (Group s) = ap suc (flat_sum_deep s)

      flat_product_deep : (p : ProductTree) → product_nesting (product_flat bs ds p) ≡ product_nesting p
      flat_product_deep no_factor = refl
      flat_product_deep (factor f fs) = (λ i. max (flat_factor_deep f i) (flat_product_deep fs i))

      flat_sum_deep : (s : SumTree) → sum_nesting (sum_flat bs ds s) ≡ sum_nesting s
      flat_sum_deep no_product = refl
      flat_sum_deep (product p ps) = (λ i. max (flat_product_deep p i) (flat_sum_deep ps i))

    flat_arguments_deep : (args : List ArgumentTree) → arguments_nesting (map (argument_flat bs ds) args) ≡ arguments_nesting args
    flat_arguments_deep [] = refl
    flat_arguments_deep (a ∷ args) = (λ i. max (flat_sum_deep a.value i) (flat_arguments_deep args i))

    -- an argument is whole, and nested no deeper than a source may be
    abbrev FineArgument : ArgumentTree → Type 0
    FineArgument a = ArgumentWhole IsDottedName a × (sum_nesting a.value ≤ MOST_GROUPS)

    fine_arguments : (args : List ArgumentTree) → AllByRecursion (ArgumentWhole IsDottedName) args → arguments_nesting args ≤ MOST_GROUPS → AllByRecursion FineArgument args
    fine_arguments [] h le = tt
    fine_arguments (a ∷ args) h le = ((h.0, grind arith), fine_arguments args h.1 (grind arith))

    assigned_fine : (x : Name) (o : Option ArgumentTree) → Named x → is_some o ≡ true → Keeps FineArgument o → Fine (input_assigned bs ds x o)
    assigned_fine x None h there k = absurd (false≢true there)
    assigned_fine x (Some a) h there k = ((h, sum_whole a.value k.0.1), subst (λ n. n ≤ MOST_GROUPS) (sym (flat_sum_deep a.value)) k.1)

    call_fine : (n : Name) (args : List ArgumentTree) (o : Option DerivedInstance) → Fine (Call n args) → Keeps InstanceFine o → GivesAll args o → AllByRecursion Fine (call_flat bs ds n args o)
    call_fine n args None h k given = (
      (
        (h.0.0, all_map (ArgumentWhole IsDottedName) (ArgumentWhole IsDottedName) (argument_flat bs ds) args (λ a w. (w.0, sum_whole a.value w.1)) h.0.1),
        subst (λ m. m ≤ MOST_GROUPS) (sym (flat_arguments_deep args)) h.1,
      ),
      tt,
    )
    call_fine n args (Some i) h k given =
        let good = fine_arguments args h.0.1 h.1 in
        all_append Fine (map (λ x. input_assigned bs ds (inside i.name x) (find (λ a. same x a.pin) args)) (inputs i.block.declared)) (map (statement_inside i.name) i.block.flat.statements)
        (all_map (λ x. Named x × HasArgument args x) Fine (λ x. input_assigned bs ds (inside i.name x) (find (λ a. same x a.pin) args)) (inputs i.block.declared)
        (λ x w. assigned_fine (inside i.name x) (find (λ a. same x a.pin) args) (named_inside i.name x k.0 w.0) w.1 (found FineArgument (λ a. same x a.pin) args good))
        (both Named (HasArgument args) (inputs i.block.declared) (inputs_named [] i.block.declared k.1.declared) given))
        (all_map Fine Fine (statement_inside i.name) i.block.flat.statements (fine_inside i.name k.0) k.1.statements)

    statement_fine : (s : StatementTree) → Fine s → Gives bs ds s → AllByRecursion Fine (statement_flat bs ds s)
    statement_fine (Assign t s) h given = (((h.0.0, sum_whole s h.0.1), subst (λ n. n ≤ MOST_GROUPS) (sym (flat_sum_deep s)) h.1), tt)
    statement_fine (Call n args) h given = call_fine n args (instance_of bs ds n) h (instance_fine n) given

  -- ---- bodies

  pub body_fine : (s : SourceTree) → IsSource s → AllByRecursion (Gives bs (declared_names s.sections)) s.statements → BlockFine (block_flat bs s)
  body_fine s h given =
      let ds = declared_names s.sections in
      let named = declared_named s.sections h.whole.1 in
      record {
        declared = named;
        sections = all_map (SectionWhole IsDottedName) (SectionWhole IsDottedName) (section_flat bs) s.sections section_whole h.whole.1;
        statements = all_flat (λ x. Fine x × Gives bs ds x) Fine (statement_flat bs ds) s.statements (λ x w. statement_fine ds named x w.0 w.1)
            (both Fine (Gives bs ds) s.statements (fine_of s.statements h.whole.2 h.shallow) given);
      }

-- a whole source without derived instances
pub fine_source : (b : FlatBlock) → BlockFine b → Named b.flat.name → IsSource b.flat
fine_source b h named = record {
  whole = (named, h.sections, fine_whole b.flat.statements h.statements);
  shallow = fine_shallow b.flat.statements h.statements;
}
