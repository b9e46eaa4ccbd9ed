-- The operands of what is joined.
use Rattle.std.proofs.Common.{◌≡◌, ◌<◌, ◌++◌, ◌∙◌, List, length, map, sym, ap, append-nil}
use Rattle.ps_base.specs.declared.failing.Place.{Place}
use Rattle.ps_bench_cover.specs.Operands.{Operand, joined, place_of}
use Rattle.ps_bench_cover.proofs.Walking.{joined_few, joined_many}

-- one that stands alone
pub few : {X : Type 0} (f : X → Operand) (xs : List X) → length xs < 2 → (a : List Place) → a ≡ a ++ map place_of (map f (joined xs))
few f xs short a = sym (append-nil a) ∙ ap (λ ys. a ++ map place_of (map f ys)) (sym (joined_few xs short))

-- two or more
pub many : {X : Type 0} (f : X → Operand) (xs ys : List X) → ys ≡ xs → 1 < length xs → (a b : List Place) →
    b ≡ a ++ map place_of (map f ys) → b ≡ a ++ map place_of (map f (joined xs))
many f xs ys are long a b so = so ∙ ap (λ zs. a ++ map place_of (map f zs)) (are ∙ sym (joined_many xs long))
