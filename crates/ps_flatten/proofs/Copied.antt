-- What copies of function blocks have, as they are kept.
use Rattle.std.proofs.Common.{◌≡◌, ℕ, ◌+◌, ◌<◌, Bool, List, [], ◌∷◌, ◌++◌, Option, None, Some, map, take, get_or, length, refl, sym, ap, ◌∙◌, append_assoc, if◌then◌else◌, true, ◌==◌, arith}
use Rattle.std.specs.List.{flat_map}
use Rattle.std.proofs.lemmas.Bool.{eqb-true}
use Rattle.std.proofs.lemmas.List.{append-nil, map_more}
use Rattle.ps_parser.specs.declared.name.Name.{Name}
use Rattle.ps_parser.specs.declared.section.Declaration.{Declaration}
use Rattle.ps_parser.specs.declared.section.Section.{Section}
use Rattle.ps_parser.specs.declared.section.Part.{Part}
use Rattle.ps_derived.specs.Dotted.{inside, declaration_inside, statement_inside}
use Rattle.ps_derived.specs.Flat.{FlatBlock, copy_declares, declarations_in}
use Rattle.ps_parser.specs.Tree.{StatementTree}
use Rattle.ps_flatten.specs.declared.laid.Laid.{Laid}
use Rattle.ps_flatten.specs.Laying.{block_seen, copied, copy_declared, copy_stated, declares, states}
use Rattle.ps_flatten.proofs.Nesting.{copy_declared_nested, copy_stated_nested}

-- what is kept of the declarations of a function block are those of a copy, in their order
pub copied_kept : (before : List FlatBlock) (l : Laid) → copied (block_seen before l).flat.sections ≡ flat_map (declares before) l.declarations.items
copied_kept before l = append-nil (flat_map (declares before) l.declarations.items)

-- what a copy of it declares
pub copy_kept : (before : List FlatBlock) (l : Laid) (g : Name) (o : Option FlatBlock) → Some (block_seen before l) ≡ o →
    map (declaration_inside g) (flat_map (declares before) l.declarations.items) ≡ copy_declared g o
copy_kept before l g o is = sym (ap (map (declaration_inside g)) (copied_kept before l)) ∙ ap (copy_declared g) is

-- the same inside an instance
pub copy_kept_inside : (before : List FlatBlock) (l : Laid) (g h path : Name) (o : Option FlatBlock) → path ≡ inside g h → Some (block_seen before l) ≡ o →
    map (declaration_inside path) (flat_map (declares before) l.declarations.items) ≡ map (declaration_inside g) (copy_declared h o)
copy_kept_inside before l g h path o at is =
    ap (λ p. map (declaration_inside p) (flat_map (declares before) l.declarations.items)) at ∙ copy_kept before l (inside g h) o is ∙ copy_declared_nested g h o

-- the statements of a copy of it
pub stated_kept : (before : List FlatBlock) (l : Laid) (g : Name) (o : Option FlatBlock) → Some (block_seen before l) ≡ o →
    map (statement_inside g) (flat_map (states before) l.statements.items) ≡ copy_stated g o
stated_kept before l g o is = ap (copy_stated g) is

-- the same inside an instance
pub stated_kept_inside : (before : List FlatBlock) (l : Laid) (g h path : Name) (o : Option FlatBlock) → path ≡ inside g h → Some (block_seen before l) ≡ o →
    map (statement_inside path) (flat_map (states before) l.statements.items) ≡ map (statement_inside g) (copy_stated h o)
stated_kept_inside before l g h path o at is =
    ap (λ p. map (statement_inside p) (flat_map (states before) l.statements.items)) at ∙ stated_kept before l (inside g h) o is ∙ copy_stated_nested g h o

-- ---- the declarations of one part

-- in more sections
pub part_append : (p : Part → Bool) (xs ys : List Section) → declarations_in p (xs ++ ys) ≡ declarations_in p xs ++ declarations_in p ys
part_append p [] ys = refl
part_append p (x ∷ xs) ys =
    ap (λ l. (if p x.part then x.declarations else []) ++ l) (part_append p xs ys) ∙ sym (append_assoc (if p x.part then x.declarations else []) (declarations_in p xs) (declarations_in p ys))

-- one more section
pub part_more : (p : Part → Bool) (f : Section → Section) (start written more : List Declaration) (xs : List Section) (i : ℕ) (d : Section) → i < length xs →
    written ≡ start ++ declarations_in p (map f (take i xs)) →
    more ≡ written ++ (if p (f (get_or xs i d)).part then (f (get_or xs i d)).declarations else []) →
    more ≡ start ++ declarations_in p (map f (take (i + 1) xs))
part_more p f start written more xs i d lt was is =
    let y = f (get_or xs i d) in
    let one = if p y.part then y.declarations else [] in
    is ∙ ap (λ l. l ++ one) was ∙ append_assoc start (declarations_in p (map f (take i xs))) one
    ∙ ap (λ l. start ++ (declarations_in p (map f (take i xs)) ++ l)) (sym (append-nil one))
    ∙ ap (λ l. start ++ l) (sym (part_append p (map f (take i xs)) (y ∷ [])))
    ∙ ap (λ l. start ++ declarations_in p l) (sym (map_more f xs i d lt))

-- where there is no function block nothing is written
pub nothing_declared : (g h : Name) (o : Option FlatBlock) (written : List Declaration) → None ≡ o → written ≡ written ++ map (declaration_inside g) (copy_declared h o)
nothing_declared g h o written is = sym (append-nil written) ∙ ap (λ q. written ++ map (declaration_inside g) (copy_declared h q)) is

pub nothing_stated : (g h : Name) (o : Option FlatBlock) (written : List StatementTree) → None ≡ o → written ≡ written ++ map (statement_inside g) (copy_stated h o)
nothing_stated g h o written is = sym (append-nil written) ∙ ap (λ q. written ++ map (statement_inside g) (copy_stated h q)) is

-- copies of a function block that declares nothing
pub copies_empty : (before : List FlatBlock) (l : Laid) (ns : List Name) → l.declarations.items ≡ [] → flat_map (copy_declares (block_seen before l)) ns ≡ []
copies_empty before l [] none_ = refl
copies_empty before l (n ∷ ns) none_ =
    ap (λ ds. map (declaration_inside n) ds ++ flat_map (copy_declares (block_seen before l)) ns) (copied_kept before l ∙ ap (flat_map (declares before)) none_) ∙ copies_empty before l ns none_

pub none_declared : (g : Name) (o : Option FlatBlock) (written : List Declaration) → None ≡ o → written ≡ written ++ copy_declared g o
none_declared g o written is = sym (append-nil written) ∙ ap (λ q. written ++ copy_declared g q) is

pub none_stated : (g : Name) (o : Option FlatBlock) (written : List StatementTree) → None ≡ o → written ≡ written ++ copy_stated g o
none_stated g o written is = sym (append-nil written) ∙ ap (λ q. written ++ copy_stated g q) is

-- a list of no length
pub empty_of : {X : Type 0} (n : ℕ) (xs : List X) (b : Bool) → b ≡ true → b ≡ (n == 0) → n ≡ length xs → xs ≡ []
empty_of n [] b is test long = refl
empty_of n (x ∷ xs) b is test long =
    let none_ : n ≡ 0 = eqb-true n 0 (sym test ∙ is) in
    absurd (omega (arith, none_, long))
