-- Names of the grammar have no dot, so paths are told apart by their names.
use Rattle.std.proofs.Common.{◌≡◌, ℕ, suc, ◌+◌, ◌<◌, Bool, true, false, cond, List, [], ◌∷◌, ◌++◌, map, length, nat_lt, refl, sym, ap, ◌∙◌, append_assoc, arith}
use Rattle.std.specs.Prelude.{slice_index}
use Rattle.std.specs.List.{AllByRecursion}
use Rattle.std.specs.Char.{to_ascii_lowercase}
use Rattle.std.proofs.lemmas.Bool.{false≢true}
use Rattle.std.proofs.lemmas.Bool.Decides.{nat_tests}
use Rattle.std.proofs.lemmas.List.{append_cancel_left}
use Rattle.ps_base.specs.LetterCase.{folded}
use Rattle.ps_lexer.specs.Spelling.{continues_name}
use Rattle.ps_parser.specs.declared.name.Name.{Name}
use Rattle.ps_parser.specs.Names.{IsPlainName}
use Rattle.ps_language_laws.specs.Paths.{at, copy_at}
use Rattle.ps_language_laws.specs.Laws.{written, PathsAreApart}

-- no byte is a dot
abbrev pub HasNoDot : List ℕ → Type 0
HasNoDot bytes = AllByRecursion (λ c. c ≡ 46 → ⊥) bytes

lower_dot : (c : ℕ) → to_ascii_lowercase c ≡ 46 → c ≡ 46
lower_dot c h = by (nat_lt c 65) (nat_lt c 91) refl refl h
  where
    by : (a b : Bool) → nat_lt c 65 ≡ a → nat_lt c 91 ≡ b → cond a c (cond b (c + 32) c) ≡ 46 → c ≡ 46
    by true b low high e = e
    by false true low high e = grind (arith, nat_tests)
    by false false low high e = e

no_dot : (c : ℕ) → continues_name c ≡ true → to_ascii_lowercase c ≡ 46 → ⊥
no_dot c h is = false≢true (sym (ap continues_name (lower_dot c is)) ∙ h)

none_dots : (bytes : List ℕ) → ((k : ℕ) → k < length bytes → continues_name (slice_index bytes k) ≡ true) → HasNoDot (folded bytes)
none_dots [] h = tt
none_dots (c ∷ bytes) h = (no_dot c (h 0 (omega arith)), none_dots bytes (λ k less. h (suc k) (omega arith)))

pub plain_name : (text : List ℕ) → IsPlainName text → HasNoDot (folded text)
plain_name text h = none_dots text h.name.identifier.continues

-- ---- two paths

never_dotted : (m n x : List ℕ) → HasNoDot m → m ≡ n ++ 46 ∷ x → ⊥
never_dotted [] [] x h e = cc
never_dotted [] (d ∷ n) x h e = cc
never_dotted (c ∷ m) [] x h e = h.0 (let f : c ≡ 46 = cc in f)
never_dotted (c ∷ m) (d ∷ n) x h e = never_dotted m n x h.1 (let f : m ≡ n ++ 46 ∷ x = cc in f)

split_once : (m n q x : List ℕ) → HasNoDot m → HasNoDot n → m ++ 46 ∷ q ≡ n ++ 46 ∷ x → (m ≡ n) × (q ≡ x)
split_once [] [] q x h k e = (refl, (let f : q ≡ x = cc in f))
split_once [] (d ∷ n) q x h k e = absurd (k.0 (let f : d ≡ 46 = cc in f))
split_once (c ∷ m) [] q x h k e = absurd (h.0 (let f : c ≡ 46 = cc in f))
split_once (c ∷ m) (d ∷ n) q x h k e =
    let rest = split_once m n q x h.1 k.1 (let f : m ++ 46 ∷ q ≡ n ++ 46 ∷ x = cc in f) in
    ((λ i. (let f : c ≡ d = cc in f) i ∷ rest.0 i), rest.1)

below : (path : List ℕ) (n x : Name) → at (copy_at path n) x ≡ path ++ (folded n.text ++ 46 ∷ folded x.text)
below path n x = append_assoc path (folded n.text ++ 46 ∷ []) (folded x.text) ∙ ap (λ l. path ++ l) (append_assoc (folded n.text) (46 ∷ []) (folded x.text))

-- a name of a body is none of a copy in it
pub own_name : (path : List ℕ) (m n x : Name) → HasNoDot (folded m.text) → at path m ≡ at (copy_at path n) x → ⊥
own_name path m n x h e = never_dotted (folded m.text) (folded n.text) (folded x.text) h (append_cancel_left path _ _ (e ∙ below path n x))

-- and copies are told apart by their names
pub one_copy : (path : List ℕ) (m q n x : Name) → HasNoDot (folded m.text) → HasNoDot (folded n.text) → at (copy_at path m) q ≡ at (copy_at path n) x →
    (folded m.text ≡ folded n.text) × (folded q.text ≡ folded x.text)
one_copy path m q n x h k e =
    split_once (folded m.text) (folded n.text) (folded q.text) (folded x.text) h k
    (append_cancel_left path (folded m.text ++ 46 ∷ folded q.text) (folded n.text ++ 46 ∷ folded x.text) (sym (below path m q) ∙ e ∙ below path n x))

-- ---- whole paths

written_apart : (p q : List (List ℕ)) → AllByRecursion HasNoDot p → AllByRecursion HasNoDot q → (m n : List ℕ) → HasNoDot m → HasNoDot n → written m p ≡ written n q → m ∷ p ≡ n ∷ q
written_apart [] [] hp hq m n hm hn e = ap (λ x. x ∷ []) e
written_apart [] (b ∷ q) hp hq m n hm hn e = absurd (never_dotted m n (written b q) hm e)
written_apart (a ∷ p) [] hp hq m n hm hn e = absurd (never_dotted n m (written a p) hn (sym e))
written_apart (a ∷ p) (b ∷ q) hp hq m n hm hn e =
    let split = split_once m n (written a p) (written b q) hm hn e in
    let rest = written_apart p q hp.1 hq.1 a b hp.0 hq.0 split.1 in
    (λ i. split.0 i ∷ rest i)

all_plain : (names : List Name) → AllByRecursion (λ (n : Name). IsPlainName n.text) names → AllByRecursion HasNoDot (map (λ (n : Name). folded n.text) names)
all_plain [] h = tt
all_plain (n ∷ names) h = (plain_name n.text h.0, all_plain names h.1)

pub paths_are_apart : PathsAreApart
paths_are_apart m ms n ns hm hn e =
    written_apart (map (λ (x : Name). folded x.text) ms) (map (λ (x : Name). folded x.text) ns) (all_plain ms hm.1) (all_plain ns hn.1)
    (folded m.text) (folded n.text) (plain_name m.text hm.0) (plain_name n.text hn.0) e
