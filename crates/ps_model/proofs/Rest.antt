-- What is left of a list.
use Rattle.std.proofs.Common.{◌≡◌, ℕ, suc, ◌+◌, ◌-◌, ◌<◌, List, [], ◌∷◌, ◌++◌, length, drop, get_or, sym, ap, ◌∙◌, refl, arith, length-append, append-nil}
use Rattle.std.specs.Prelude.{slice_set, slice_get, Some}
use Rattle.std.proofs.lemmas.Option.{slice_get_within, get_or_from_slice_get}
use Rattle.std.proofs.Math.Seq.{drop-cons}
use Rattle.ps_model.specs.declared.node.Node.{Node}
use Rattle.ps_model.specs.declared.node.Shape.{Shape}
use Rattle.ps_model.proofs.NodeLists.{AreListed, one_each}
use Rattle.ps_model.specs.Formula.{Formula}

pub rest_at : {X : Type 0} (xs : List X) (i : ℕ) (x : X) → i < length xs → x ≡ get_or xs i x → drop i xs ≡ x ∷ drop (i + 1) xs
rest_at xs i x h is =
    let next : i + 1 ≡ suc i = omega arith in
    drop-cons xs i x h ∙ ap (λ y. y ∷ drop (suc i) xs) (sym is) ∙ ap (λ n. x ∷ drop n xs) (sym next)

pub set_after : (before : List Node) (r q : Node) (more : List Node) → slice_set (before ++ r ∷ more) (length before) q ≡ before ++ q ∷ more
set_after [] r q more = refl
set_after (b ∷ before) r q more = ap (λ z. b ∷ z) (set_after before r q more)

-- a node's entry gets its size once those below it are written
pub node_gets_size : (list before : List Node) (r : Node) (shape : Shape) (depth : ℕ) (below : List Node) (all : List Formula) (at size : ℕ) →
    AreListed below all → list ++ [] ≡ before ++ r ∷ below → at ≡ length before → size ≡ length list - at →
    slice_set list at (record { shape = shape; size = size; depth = depth }) ≡ before ++ record { shape = shape; size = suc (length all); depth = depth } ∷ below
node_gets_size list before r shape depth below all at size are e here is =
    let whole : list ≡ before ++ r ∷ below = sym (append-nil list) ∙ e in
    let long : length list ≡ length before + suc (length below) = ap length whole ∙ length-append before (r ∷ below) in
    let each : length below ≡ length all = one_each below all are in
    let count : size ≡ suc (length all) = omega arith in
    ap (λ z. slice_set z at (record { shape = shape; size = size; depth = depth })) whole
    ∙ ap (λ z. slice_set (before ++ r ∷ below) z (record { shape = shape; size = size; depth = depth })) here
    ∙ set_after before r (record { shape = shape; size = size; depth = depth }) below
    ∙ ap (λ z. before ++ record { shape = shape; size = z; depth = depth } ∷ below) count

-- a list from a place on
pub rest_found : {X : Type 0} (xs : List X) (k : ℕ) (x : X) → slice_get xs k ≡ Some x → drop k xs ≡ x ∷ drop (k + 1) xs
rest_found xs k x at =
    let inside : k < length xs = slice_get_within xs k x at in
    rest_at xs k x inside (sym (get_or_from_slice_get xs k x x at))
