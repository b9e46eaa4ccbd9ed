-- What a stream in memory gives of the bytes that it holds.
use Rattle.std.proofs.Common.{◌≡◌, ◌∙◌, ◌≤◌, ◌+◌, ◌-◌, ◌++◌, ◌∷◌, [], ℕ, List, length, take, drop, refl, sym, ap, arith, length-take, length-drop}
use Rattle.std.proofs.lemmas.List.{drop-drop, take-append-drop, take-take}
use Rattle.std.specs.Prelude.{min}
use Rattle.ps_outside.specs.Outside.{Rose}

-- the first bytes of those that are left were given, and the others are left
pub given : (bytes slice buf : List ℕ) (at n : ℕ) → slice ≡ bytes → n ≤ length (take (length slice - at) (drop at slice)) →
    take n buf ≡ take n (take (length slice - at) (drop at slice)) → drop at bytes ≡ take n buf ++ drop (at + n) bytes
given bytes slice buf at n same within is =
    let most : n ≤ length slice - at = omega (arith, within, length-take {A = ℕ}) in
    sym (take-append-drop n (drop at bytes)) ∙ ap (λ (l : List ℕ). take n (drop at bytes) ++ l) (drop-drop n at bytes)
    ∙ ap (λ (l : List ℕ). l ++ drop (at + n) bytes)
    (sym (is ∙ take-take n (length slice - at) (drop at slice) most ∙ ap (λ (l : List ℕ). take n (drop at l)) same))

none_there : (bytes : List ℕ) → length bytes ≡ 0 → bytes ≡ []
none_there [] is = refl
none_there (b ∷ bytes) is = absurd (omega (arith, is))

-- where none of those that are left could be given, none is left
pub gone : (bytes slice : List ℕ) (at n : ℕ) → slice ≡ bytes → length (take (length slice - at) (drop at slice)) ≡ 0 → drop (at + n) bytes ≡ []
gone bytes slice at n same is =
    let left : length bytes ≤ at = omega (arith, is, ap (λ (l : List ℕ). length l) same, length-take {A = ℕ}, length-drop {A = ℕ}) in
    none_there (drop (at + n) bytes) (omega (arith, left, length-drop {A = ℕ}))

-- a count that is one more, up to the last one, rose
pub one_more : (before after : ℕ) → after ≡ min (before + 1) 18446744073709551615 → Rose before after
one_more before after is = grind arith
