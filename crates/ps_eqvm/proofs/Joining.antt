-- Parts that are written side by side.
use Rattle.std.proofs.Common.{◌≡◌, ℕ, ◌+◌, ◌-◌, ◌≤◌, Bool, List, ◌++◌, length, take, drop, sym, ap, ◌∙◌, arith, append_assoc, length-append, length-drop}
use Rattle.std.specs.Prelude.{map}
use Rattle.std.proofs.Math.Seq.{drop-append-add, take-add}
use Rattle.std.proofs.lemmas.List.{drop-drop, take_at, length-take-le, length-map, map-append}
use Rattle.ps_machine.specs.Bytes.{bit, replaced}
use Rattle.ps_machine.proofs.Places.{length-replaced}

-- a part, and then one after it
pub replaced_twice : (c : List ℕ) (a b : ℕ) (m m' : List ℕ) → a + length m ≡ b → b + length m' ≤ length c → replaced (replaced c a m) b m' ≡ replaced c a (m ++ m')
replaced_twice c a b m m' is room =
    let pre = take a c ++ m in
    let rest = drop (b + length m') c in
    let part : length (take a c) ≡ a = length-take-le a c (omega (arith, is, room)) in
    let long : length pre ≡ b = omega (arith, length-append (take a c) m, part, is) in
    let flat : replaced c a m ≡ pre ++ drop b c = sym (append_assoc (take a c) m (drop (a + length m) c)) ∙ ap (λ n. pre ++ drop n c) is in
    let front : take b (pre ++ drop b c) ≡ pre = take_at pre (drop b c) b long in
    let back : drop (b + length m') (pre ++ drop b c) ≡ rest =
    ap (λ n. drop (n + length m') (pre ++ drop b c)) (sym long) ∙ drop-append-add pre (drop b c) (length m') ∙ drop-drop (length m') b c in
    let count : b + length m' ≡ a + length (m ++ m') = omega (arith, length-append m m', is) in
    ap (λ l. replaced l b m') flat ∙ (λ x. front x ++ (m' ++ back x)) ∙ append_assoc (take a c) m (m' ++ rest)
    ∙ ap (λ l. take a c ++ l) (sym (append_assoc m m' rest) ∙ ap (λ n. (m ++ m') ++ drop n c) count)

-- of the first values, as cells
taken_long : (n : ℕ) (values : List Bool) → n ≤ length values → length (map bit (take n values)) ≡ n
taken_long n values low = length-map (take n values) bit ∙ length-take-le n values low

pub size_kept : (c now : List ℕ) (a n : ℕ) (values : List Bool) → a + length values ≤ length c → n ≤ length values → now ≡ replaced c a (map bit (take n values)) → length now ≡ length c
size_kept c now a n values room low is = ap length is ∙ length-replaced c a (map bit (take n values)) (let e = taken_long n values low in omega (arith, e, room, low))

-- more values after those that stand in their cells
pub more_values : (c now new : List ℕ) (a n m : ℕ) (values : List Bool) → a + length values ≤ length c → n ≤ m → m ≤ length values → now ≡ replaced c a (map bit (take n values)) →
    new ≡ replaced now (a + n) (map bit (take (m - n) (drop n values))) → new ≡ replaced c a (map bit (take m values))
more_values c now new a n m values room low high is is' =
    let front = map bit (take n values) in
    let part = take (m - n) (drop n values) in
    let front_long : length front ≡ n = taken_long n values (omega (arith, low, high)) in
    let part_long : length part ≡ m - n = length-take-le (m - n) (drop n values) (omega (arith, length-drop n values, high)) in
    let all : n + (m - n) ≡ m = omega (arith, low) in
    is' ∙ ap (λ (l : List ℕ). replaced l (a + n) (map bit part)) is
    ∙ replaced_twice c a (a + n) front (map bit part) (omega (arith, front_long)) (omega (arith, length-map part bit, part_long, room, low, high))
    ∙ ap (replaced c a) (sym (map-append bit (take n values) part) ∙ ap (map bit) (sym (take-add n (m - n) values) ∙ ap (λ k. take k values) all))
