-- The counts of a flat source are sums over its body.
use Rattle.std.proofs.Common.{◌≡◌, ℕ, suc, ◌+◌, ◌≤◌, Bool, true, false, List, [], ◌∷◌, ◌++◌, Option, None, Some, length, map, position, slice_get, nat_lt, cond, refl, sym, ap, ◌∙◌, arith, length-append, if◌then◌else◌}
use Rattle.std.specs.List.{flat_map, sum_by, find, position_or_len}
use Rattle.std.specs.Option.{option_map}
use Rattle.std.proofs.lemmas.List.{length-map, append-nil}
use Rattle.std.proofs.lemmas.List.Folds.{find_at}
use Rattle.std.proofs.lemmas.List.Sums.{sum_by-cons, sum_by-append}
use Rattle.std.proofs.lemmas.Option.{slice_get_past}
use Rattle.std.proofs.lemmas.Grind.{flat_map-append}
use Rattle.std.proofs.lemmas.Bool.Decides.{nat_tests}
use Rattle.ps_parser.specs.declared.name.Name.{Name}
use Rattle.ps_parser.specs.declared.section.Part.{Part}
use Rattle.ps_parser.specs.declared.section.Part.TheVariants.{Input, Output, Local}
use Rattle.ps_parser.specs.declared.section.Declaration.{Declaration}
use Rattle.ps_parser.specs.declared.section.Section.{Section}
use Rattle.ps_parser.specs.Tree.{ArgumentTree, StatementTree, Assign, Call, SourceTree}
use Rattle.ps_derived.specs.declared.declared.Declared.{Declared}
use Rattle.ps_derived.specs.declared.sizes.BlockSize.{BlockSize}
use Rattle.ps_derived.specs.declared.limits.TheConstants.{MOST_FLAT_NAMES, MOST_FLAT_STATEMENTS}
use Rattle.ps_derived.specs.Bodies.{same, type_in, is_input, is_output, is_local, declared_as, declares, section_declares, declared_names, first_declared, inputs}
use Rattle.ps_derived.specs.Renaming.{statement_renamed}
use Rattle.ps_derived.specs.Dotted.{inside, statement_inside, declaration_inside}
use Rattle.ps_derived.specs.Spelling.{as_declared, spelt_as_declared}
use Rattle.ps_derived.proofs.Lookups.{type_map}
use Rattle.ps_derived.proofs.Spelt.{instance_same}
use Rattle.ps_derived.specs.Flat.{FlatBlock, DerivedInstance, block_named, block_in, instance_by, instance_if, instance_of, declarations_in, copy_declares, declaration_flat, section_flat, input_assigned, call_flat, statement_flat, body_flat, block_flat, blocks_flat}
use Rattle.ps_derived.specs.Limits.{name_count, counted_to, size_of}
use Rattle.ps_derived.specs.Counting.{item_at, names_weight, declared_weight, call_weight, size_made, statement_weight}

-- ---- counts up to a limit

-- where parts count alike, their sums do
pub sums_count_alike : {X : Type 0} (limit : ℕ) (f g : X → ℕ) (xs : List X) → ((x : X) → counted_to limit (f x) ≡ counted_to limit (g x)) → counted_to limit (sum_by f xs) ≡ counted_to limit (sum_by g xs)
sums_count_alike limit f g [] h = refl
sums_count_alike limit f g (x ∷ xs) h =
    let here = h x in
    let rest = sums_count_alike limit f g xs h in
    let both : counted_to limit (f x + sum_by f xs) ≡ counted_to limit (g x + sum_by g xs) = omega arith in
    ap (counted_to limit) (sum_by-cons f x xs) ∙ both ∙ ap (counted_to limit) (sym (sum_by-cons g x xs))

-- one more part
pub count_more : (limit result count more n m : ℕ) → result ≡ counted_to limit (count + more) → count ≡ counted_to limit n → more ≡ m → result ≡ counted_to limit (n + m)
count_more limit result count more n m r c e = omega arith

module _ (blocks : List FlatBlock) where
  abbrev sizes : List BlockSize
  sizes = map size_of blocks

  size_in : (part : Part) (ty : Name) → type_in (λ (s : BlockSize). s.name) sizes part ty ≡ option_map size_of (block_in blocks part ty)
  size_in part ty = type_map size_of (λ (s : BlockSize). s.name) blocks part ty

  -- ---- declared names

  -- how many names stand in the place of one
  abbrev names_of : Option FlatBlock → ℕ
  names_of None = 1
  names_of (Some b) = name_count b.flat

  abbrev names_by : Declared → ℕ
  names_by d = names_of (block_in blocks d.part d.ty)

  names_alike : (o : Option FlatBlock) → counted_to MOST_FLAT_NAMES (names_weight (option_map size_of o)) ≡ counted_to MOST_FLAT_NAMES (names_of o)
  names_alike None = refl
  names_alike (Some b) = omega arith

  declared_alike : (d : Declared) → counted_to MOST_FLAT_NAMES (declared_weight sizes d) ≡ counted_to MOST_FLAT_NAMES (names_by d)
  declared_alike d = ap (λ o. counted_to MOST_FLAT_NAMES (names_weight o)) (size_in d.part d.ty) ∙ names_alike (block_in blocks d.part d.ty)

  -- how many names these declarations have
  abbrev names_in : List Declaration → ℕ
  names_in ds = sum_by (λ d. length d.names) ds

  declared_length : (part : Part) (ds : List Declaration) → length (flat_map (declares part) ds) ≡ names_in ds
  declared_length part [] = refl
  declared_length part (d ∷ ds) = length-append (declares part d) (flat_map (declares part) ds) ∙ (λ i. length-map d.names (declared_as part d.ty) i + declared_length part ds i) ∙ sym (sum_by-cons (λ e. length e.names) d ds)

  inside_length : (part : Part) (g : Name) (ds : List Declaration) → length (flat_map (declares part) (map (declaration_inside g) ds)) ≡ names_in ds
  inside_length part g [] = refl
  inside_length part g (d ∷ ds) =
      length-append (declares part (declaration_inside g d)) (flat_map (declares part) (map (declaration_inside g) ds))
      ∙ (λ i. (length-map (map (inside g) d.names) (declared_as part d.ty) ∙ length-map d.names (inside g)) i + inside_length part g ds i)
      ∙ sym (sum_by-cons (λ e. length e.names) d ds)

  -- the declarations of one more section are among those of one part
  one_part : (part : Part) (ds ins outs locals : List Declaration) (n : ℕ) → names_in ins + (names_in outs + names_in locals) ≡ n →
      names_in ((if is_input part then ds else []) ++ ins) + (names_in ((if is_output part then ds else []) ++ outs) + names_in ((if is_local part then ds else []) ++ locals)) ≡ names_in ds + n
  one_part Input ds ins outs locals n e = omega (arith, sum_by-append (λ d. length d.names) ds ins)
  one_part Output ds ins outs locals n e = omega (arith, sum_by-append (λ d. length d.names) ds outs)
  one_part Local ds ins outs locals n e = omega (arith, sum_by-append (λ d. length d.names) ds locals)

  -- each section is one of VAR_INPUT, VAR_OUTPUT or VAR
  parts_length : (ss : List Section) → names_in (declarations_in is_input ss) + (names_in (declarations_in is_output ss) + names_in (declarations_in is_local ss)) ≡ length (declared_names ss)
  parts_length [] = refl
  parts_length (s ∷ ss) = one_part s.part s.declarations (declarations_in is_input ss) (declarations_in is_output ss) (declarations_in is_local ss) (length (declared_names ss)) (parts_length ss)
      ∙ (λ i. sym (declared_length s.part s.declarations) i + length (declared_names ss)) ∙ sym (length-append (section_declares s) (declared_names ss))

  copy_length : (part : Part) (b : FlatBlock) (g : Name) → length (flat_map (declares part) (copy_declares b g)) ≡ name_count b.flat
  copy_length part b g =
      let ss = b.flat.sections in
      let ins = declarations_in is_input ss in
      let outs = declarations_in is_output ss in
      let locals = declarations_in is_local ss in
      inside_length part g (ins ++ (outs ++ locals))
      ∙ sum_by-append (λ d. length d.names) ins (outs ++ locals)
      ∙ ap (λ n. names_in ins + n) (sum_by-append (λ d. length d.names) outs locals)
      ∙ parts_length ss

  kept_length : (part : Part) (ty : Name) (ns : List Name) → block_in blocks part ty ≡ None → length (map (declared_as part ty) ns) ≡ sum_by names_by (map (declared_as part ty) ns)
  kept_length part ty [] e = refl
  kept_length part ty (n ∷ ns) e =
      let both : suc (length (map (declared_as part ty) ns)) ≡ names_of (block_in blocks part ty) + sum_by names_by (map (declared_as part ty) ns) = omega (arith, ap names_of e, kept_length part ty ns e) in
      both ∙ sym (sum_by-cons names_by (declared_as part ty n) (map (declared_as part ty) ns))

  copies_length : (part : Part) (ty : Name) (ns : List Name) (b : FlatBlock) → block_in blocks part ty ≡ Some b → length (flat_map (declares part) (flat_map (copy_declares b) ns)) ≡ sum_by names_by (map (declared_as part ty) ns)
  copies_length part ty [] b e = refl
  copies_length part ty (n ∷ ns) b e =
      ap length (flat_map-append (declares part) (copy_declares b n) (flat_map (copy_declares b) ns))
      ∙ length-append (flat_map (declares part) (copy_declares b n)) (flat_map (declares part) (flat_map (copy_declares b) ns))
      ∙ (λ i. (copy_length part b n ∙ sym (ap names_of e)) i + copies_length part ty ns b e i)
      ∙ sym (sum_by-cons names_by (declared_as part ty n) (map (declared_as part ty) ns))

  declaration_length : (part : Part) (d : Declaration) (o : Option FlatBlock) → block_in blocks part d.ty ≡ o → length (flat_map (declares part) (declaration_flat d o)) ≡ sum_by names_by (declares part d)
  declaration_length part d None e = ap length (append-nil (declares part d)) ∙ kept_length part d.ty d.names e
  declaration_length part d (Some b) e = copies_length part d.ty d.names b e

  section_length : (part : Part) (ds : List Declaration) → length (flat_map (declares part) (flat_map (λ d. declaration_flat d (block_in blocks part d.ty)) ds)) ≡ sum_by names_by (flat_map (declares part) ds)
  section_length part [] = refl
  section_length part (d ∷ ds) =
      let here = declaration_flat d (block_in blocks part d.ty) in
      let rest = flat_map (λ d. declaration_flat d (block_in blocks part d.ty)) ds in
      ap length (flat_map-append (declares part) here rest)
      ∙ length-append (flat_map (declares part) here) (flat_map (declares part) rest)
      ∙ (λ i. declaration_length part d (block_in blocks part d.ty) refl i + section_length part ds i)
      ∙ sym (sum_by-append names_by (declares part d) (flat_map (declares part) ds))

  sections_length : (ss : List Section) → length (declared_names (map (section_flat blocks) ss)) ≡ sum_by names_by (declared_names ss)
  sections_length [] = refl
  sections_length (s ∷ ss) =
      length-append (section_declares (section_flat blocks s)) (declared_names (map (section_flat blocks) ss))
      ∙ (λ i. section_length s.part s.declarations i + sections_length ss i)
      ∙ sym (sum_by-append names_by (section_declares s) (declared_names ss))

  pub names_counted : (s : SourceTree) → counted_to MOST_FLAT_NAMES (sum_by (declared_weight sizes) (declared_names s.sections)) ≡ counted_to MOST_FLAT_NAMES (name_count (body_flat blocks s))
  names_counted s =
      sums_count_alike MOST_FLAT_NAMES (declared_weight sizes) names_by (declared_names s.sections) declared_alike
      ∙ ap (counted_to MOST_FLAT_NAMES) (sym (sections_length s.sections))

  -- ---- statements

  -- how many statements stand in the place of a call
  abbrev calls_of : Option DerivedInstance → ℕ
  calls_of None = 1
  calls_of (Some i) = length (inputs i.block.declared) + length i.block.flat.statements

  abbrev statements_by : List Declared → StatementTree → ℕ
  statements_by ds (Assign t s) = 1
  statements_by ds (Call n args) = calls_of (instance_of blocks ds n)

  block_alike : (d : Declared) (o : Option FlatBlock) → counted_to MOST_FLAT_STATEMENTS (call_weight (option_map size_of o)) ≡ counted_to MOST_FLAT_STATEMENTS (calls_of (instance_by d o))
  block_alike d None = refl
  block_alike d (Some b) = omega arith

  call_alike : (o : Option Declared) → counted_to MOST_FLAT_STATEMENTS (call_weight (size_made sizes o)) ≡ counted_to MOST_FLAT_STATEMENTS (calls_of (instance_if blocks o))
  call_alike None = refl
  call_alike (Some d) = ap (λ o. counted_to MOST_FLAT_STATEMENTS (call_weight o)) (size_in d.part d.ty) ∙ block_alike d (block_in blocks d.part d.ty)

  statement_alike : (ds : List Declared) (s : StatementTree) → counted_to MOST_FLAT_STATEMENTS (statement_weight sizes ds s) ≡ counted_to MOST_FLAT_STATEMENTS (statements_by ds s)
  statement_alike ds (Assign t s) = refl
  statement_alike ds (Call n args) = call_alike (first_declared ds n)

  call_length : (ds : List Declared) (n : Name) (args : List ArgumentTree) (o : Option DerivedInstance) → length (call_flat blocks ds n args o) ≡ calls_of o
  call_length ds n args None = refl
  call_length ds n args (Some i) =
      let assigned = λ (x : Name). input_assigned blocks ds (inside i.name x) (find (λ a. same x a.pin) args) in
      length-append (map assigned (inputs i.block.declared)) (map (statement_inside i.name) i.block.flat.statements)
      ∙ (λ j. length-map (inputs i.block.declared) assigned j + length-map i.block.flat.statements (statement_inside i.name) j)

  statement_length : (ds : List Declared) (s : StatementTree) → length (statement_flat blocks ds s) ≡ statements_by ds s
  statement_length ds (Assign t s) = refl
  statement_length ds (Call n args) = call_length ds n args (instance_of blocks ds n)

  statements_length : (ds : List Declared) (ss : List StatementTree) → length (flat_map (statement_flat blocks ds) ss) ≡ sum_by (statements_by ds) ss
  statements_length ds [] = refl
  statements_length ds (s ∷ ss) = length-append (statement_flat blocks ds s) (flat_map (statement_flat blocks ds) ss) ∙ (λ i. statement_length ds s i + statements_length ds ss i) ∙ sym (sum_by-cons (statements_by ds) s ss)

  pub statements_counted : (s : SourceTree) → counted_to MOST_FLAT_STATEMENTS (sum_by (statement_weight sizes (declared_names s.sections)) s.statements) ≡ counted_to MOST_FLAT_STATEMENTS (length (body_flat blocks s).statements)
  statements_counted s =
      sums_count_alike MOST_FLAT_STATEMENTS (statement_weight sizes (declared_names s.sections)) (statements_by (declared_names s.sections)) s.statements (statement_alike (declared_names s.sections))
      ∙ ap (counted_to MOST_FLAT_STATEMENTS) (sym (statements_length (declared_names s.sections) s.statements))

  -- a body that spells its names as it declares them counts as it is
  spelt_by : (ds : List Declared) (s : StatementTree) → statements_by ds (statement_renamed (as_declared ds) s) ≡ statements_by ds s
  spelt_by ds (Assign t s) = refl
  spelt_by ds (Call n args) = ap calls_of (instance_same blocks ds ds n)

  spelt_sum : (ds : List Declared) (ss : List StatementTree) → sum_by (statements_by ds) (map (statement_renamed (as_declared ds)) ss) ≡ sum_by (statements_by ds) ss
  spelt_sum ds [] = refl
  spelt_sum ds (s ∷ ss) =
      let spelt = statement_renamed (as_declared ds) in
      sum_by-cons (statements_by ds) (spelt s) (map spelt ss) ∙ (λ i. spelt_by ds s i + spelt_sum ds ss i) ∙ sym (sum_by-cons (statements_by ds) s ss)

  spelt_length : (s : SourceTree) → length (body_flat blocks s).statements ≡ length (body_flat blocks (spelt_as_declared s)).statements
  spelt_length s =
      let ds = declared_names s.sections in
      statements_length ds s.statements ∙ sym (spelt_sum ds s.statements) ∙ sym (statements_length ds (map (statement_renamed (as_declared ds)) s.statements))

  pub spelt_size : (s : SourceTree) → size_of (block_flat blocks s) ≡ size_of (block_flat blocks (spelt_as_declared s))
  spelt_size s =
      (λ i. record {
        name = s.name;
        inputs = counted_to MOST_FLAT_STATEMENTS (length (inputs (declared_names s.sections)));
        names = counted_to MOST_FLAT_NAMES (name_count (body_flat blocks s));
        statements = counted_to MOST_FLAT_STATEMENTS (spelt_length s i);
      })

-- the size of a body, by its counts
pub size_is : (before : List FlatBlock) (t source : SourceTree) (name : Name) (input_count names statements : ℕ) → t ≡ source
    → name ≡ t.name → input_count ≡ counted_to MOST_FLAT_STATEMENTS (length (inputs (declared_names t.sections)))
    → names ≡ counted_to MOST_FLAT_NAMES (sum_by (declared_weight (map size_of before)) (declared_names t.sections))
    → statements ≡ counted_to MOST_FLAT_STATEMENTS (sum_by (statement_weight (map size_of before) (declared_names t.sections)) t.statements)
    → (record { name = name; inputs = input_count; names = names; statements = statements }) ≡ size_of (block_flat before source)
size_is before t source name input_count names statements same n i k s =
    let here : (record { name = name; inputs = input_count; names = names; statements = statements }) ≡ size_of (block_flat before t) =
    (λ j. record { name = n j; inputs = i j; names = (k ∙ names_counted before t) j; statements = (s ∙ statements_counted before t) j }) in
    here ∙ ap (λ u. size_of (block_flat before u)) same

-- one more function block is laid flat over those before it
pub blocks_flat_push : (before : List FlatBlock) (bs : List SourceTree) (b : SourceTree) → blocks_flat before (bs ++ b ∷ []) ≡ blocks_flat before bs ++ block_flat (blocks_flat before bs) b ∷ []
blocks_flat_push before [] b = refl
blocks_flat_push before (x ∷ bs) b = blocks_flat_push (before ++ block_flat before x ∷ []) bs b

-- a count is within its limit where what it counts is
pub within_count : (limit n : ℕ) → counted_to limit n ≤ limit → n ≤ limit
within_count limit n h = omega arith

pub count_within : (limit n : ℕ) → n ≤ limit → counted_to limit n ≤ limit
count_within limit n h = omega arith
