-- What stands at the front of a whole text.
use Rattle.std.proofs.Common.{◌≡◌, ℕ, ◌≤◌, List, [], ◌∷◌, ◌++◌, Some, length, drop, get_or, refl, sym, ap, ◌∙◌, append_assoc, arith}
use Rattle.std.proofs.lemmas.List.{append-nil}
use Rattle.std.proofs.lemmas.Grind.{flat_map-append}
use Rattle.std.specs.List.{flat_map, AllByRecursion}
use Rattle.ps_parser.specs.declared.heads.Heads.TheVariants.{Program, Block}
use Rattle.ps_parser.specs.declared.sign.Sign.TheVariants as sign
use Rattle.ps_parser.specs.Symbol.{Symbol, Mark}
use Rattle.ps_parser.specs.Tree.{SourceTree}
use Rattle.ps_parser.specs.Spelt.{spelt}
use Rattle.ps_parser.specs.Phrase.{next}
use Rattle.ps_parser.specs.Parsing.{IsSourceWithin}
use Rattle.ps_parser.proofs.Uniqueness.{one_source_at_front}
use Rattle.ps_derived.specs.declared.library.Library.{Library}
use Rattle.ps_derived.specs.Texts.{library_spelt, IsLibraryWithin}

abbrev pub blocks_spelt : List SourceTree → List Symbol
blocks_spelt = flat_map (spelt Block)

pub within_deeper : (n m : ℕ) (s : SourceTree) → n ≤ m → IsSourceWithin n s → IsSourceWithin m s
within_deeper n m s le w = let nested = w.nested in record { grammatical = w.grammatical; nested = omega arith }

pub all_within_deeper : (n m : ℕ) (bs : List SourceTree) → n ≤ m → AllByRecursion (IsSourceWithin n) bs → AllByRecursion (IsSourceWithin m) bs
all_within_deeper n m [] le w = tt
all_within_deeper n m (b ∷ bs) le w = (within_deeper n m b le w.0, all_within_deeper n m bs le w.1)

pub all_within_push : (n : ℕ) (bs : List SourceTree) (b : SourceTree) → AllByRecursion (IsSourceWithin n) bs → IsSourceWithin n b → AllByRecursion (IsSourceWithin n) (bs ++ b ∷ [])
all_within_push n [] b w v = (v, tt)
all_within_push n (c ∷ bs) b w v = (w.0, all_within_push n bs b w.1 v)

pub blocks_spelt_push : (bs : List SourceTree) (b : SourceTree) → blocks_spelt (bs ++ b ∷ []) ≡ blocks_spelt bs ++ spelt Block b
blocks_spelt_push bs b = flat_map-append (spelt Block) bs (b ∷ []) ∙ ap (λ l. blocks_spelt bs ++ l) (append-nil (spelt Block b))

-- a shorter front of a list is the front of a longer one
pub front_of_longer : {X : Type 0} (xs ys zs ws : List X) → xs ++ ys ≡ zs ++ ws → length xs ≤ length zs → (more : List X) × (zs ≡ xs ++ more)
front_of_longer [] ys zs ws e le = (zs, refl)
front_of_longer (x ∷ xs) ys [] ws e le = absurd (omega arith)
front_of_longer (x ∷ xs) ys (z ∷ zs) ws e le =
    let rest = front_of_longer xs ys zs ws (ap (drop 1) e) (omega arith) in
    let head : z ≡ x = ap (λ l. get_or l 0 z) (sym e) in
    (rest.0, ap (λ y. y ∷ zs) head ∙ ap (λ l. x ∷ l) rest.1)

-- no program is spelt where a function block stands next
pub program_or_block : (p b : SourceTree) (xs ys : List Symbol) → spelt Program p ++ xs ≡ spelt Block b ++ ys → ⊥
program_or_block p b xs ys e = let firsts : Some (Mark sign.Program) ≡ Some (Mark sign.FunctionBlock) = ap next e in cc

-- A text whose front is these blocks: the blocks that follow them, and what is spelt after them.
pub record IsBehind (depth : ℕ) (bs cs : List SourceTree) (p : SourceTree) (rest : List Symbol) : Type 0 where
  pub later : List SourceTree
  pub blocks : cs ≡ bs ++ later
  pub within : AllByRecursion (IsSourceWithin depth) later
  pub spelling : blocks_spelt later ++ spelt Program p ≡ rest

pub behind_blocks : (n m : ℕ) (bs cs : List SourceTree) (p : SourceTree) (rest : List Symbol) → AllByRecursion (IsSourceWithin n) bs → AllByRecursion (IsSourceWithin m) cs
    → blocks_spelt cs ++ spelt Program p ≡ blocks_spelt bs ++ rest → IsBehind m bs cs p rest
behind_blocks n m [] cs p rest wb wc e = record { later = cs; blocks = refl; within = wc; spelling = e }
behind_blocks n m (b ∷ bs) [] p rest wb wc e =
    absurd (program_or_block p b [] (blocks_spelt bs ++ rest) (append-nil (spelt Program p) ∙ e ∙ append_assoc (spelt Block b) (blocks_spelt bs) rest))
behind_blocks n m (b ∷ bs) (c ∷ cs) p rest wb wc e =
    let assoc : spelt Block c ++ (blocks_spelt cs ++ spelt Program p) ≡ spelt Block b ++ (blocks_spelt bs ++ rest) =
    sym (append_assoc (spelt Block c) (blocks_spelt cs) (spelt Program p)) ∙ e ∙ append_assoc (spelt Block b) (blocks_spelt bs) rest in
    let same = one_source_at_front Block m n c b (blocks_spelt cs ++ spelt Program p) (blocks_spelt bs ++ rest) wc.0 wb.0 assoc in
    let more = behind_blocks n m bs cs p rest wb.1 wc.1 same.1 in
    record { later = more.later; blocks = λ i. same.0 i ∷ more.blocks i; within = more.within; spelling = more.spelling }

-- after all blocks stands the program alone
pub program_behind : (n m : ℕ) (later : List SourceTree) (p q : SourceTree) (rest : List Symbol) → IsSourceWithin n p → IsSourceWithin m q
    → blocks_spelt later ++ spelt Program p ≡ spelt Program q ++ rest → (later ≡ []) × (p ≡ q) × (rest ≡ [])
program_behind n m [] p q rest wp wq e =
    let same = one_source_at_front Program n m p q [] rest wp wq (append-nil (spelt Program p) ∙ e) in
    (refl, same.0, sym same.1)
program_behind n m (b ∷ later) p q rest wp wq e =
    absurd (program_or_block q b rest (blocks_spelt later ++ spelt Program p) (sym e ∙ append_assoc (spelt Block b) (blocks_spelt later) (spelt Program p)))

pub one_spelling : (depth : ℕ) (l other : Library) → IsLibraryWithin depth l → IsLibraryWithin depth other → library_spelt l ≡ library_spelt other → l ≡ other
one_spelling depth l other wl wo e =
    let behind = behind_blocks depth depth other.blocks l.blocks l.program (spelt Program other.program) wo.blocks wl.blocks e in
    let last = program_behind depth depth behind.later l.program other.program [] wl.program wo.program (behind.spelling ∙ sym (append-nil (spelt Program other.program))) in
    let blocks : l.blocks ≡ other.blocks = behind.blocks ∙ ap (λ bs. other.blocks ++ bs) last.0 ∙ append-nil other.blocks in
    λ i. record { blocks = blocks i; program = last.1 i }
