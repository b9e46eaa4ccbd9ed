-- The instances of pin outputs.
use Rattle.std.proofs.Common.{◌≡◌, ℕ, suc, ◌+◌, ◌-◌, ◌≤◌, ◌<◌, List, [], ◌∷◌, ◌++◌, length, replicate, take, Some, refl, sym, ap, ◌∙◌, inl, inr, arith, get_or, append_assoc, append-nil}
use Rattle.std.specs.Prelude.{sum_by, slice_get}
use Rattle.std.proofs.lemmas.List.{length-append, length-replicate, get_or-replicate, get_or_append_left, get_or-append_right}
use Rattle.std.proofs.lemmas.List.Sums.{sum_by-cons}
use Rattle.std.proofs.lemmas.Bool.{cases_lt}
use Rattle.ps_model.specs.declared.named.Instance.{Instance}
use Rattle.ps_model.specs.Blocks.{output_count}
use Rattle.ps_model.specs.Named.{owners_from}

-- how many outputs these instances have
abbrev pub count_outputs : List Instance → ℕ
count_outputs xs = sum_by (λ x. output_count x.kind) xs

-- one more instance owns its outputs, after all others
pub owners-one_more : (n : ℕ) (xs : List Instance) (x : Instance) → owners_from n (xs ++ x ∷ []) ≡ owners_from n xs ++ replicate (output_count x.kind) (n + length xs)
owners-one_more n [] x =
    append-nil (replicate (output_count x.kind) n) ∙ ap (replicate (output_count x.kind)) (let e : n ≡ n + 0 = omega arith in e)
owners-one_more n (y ∷ ys) x =
    ap (λ os. replicate (output_count y.kind) n ++ os) (owners-one_more (n + 1) ys x ∙ ap (λ m. owners_from (n + 1) ys ++ replicate (output_count x.kind) m) (let e : n + 1 + length ys ≡ n + length (y ∷ ys) = omega arith in e))
    ∙ sym (append_assoc (replicate (output_count y.kind) n) (owners_from (n + 1) ys) (replicate (output_count x.kind) (n + length (y ∷ ys))))

pub length-owners : (n : ℕ) (xs : List Instance) → length (owners_from n xs) ≡ count_outputs xs
length-owners n [] = refl
length-owners n (x ∷ xs) =
    omega (arith, sum_by-cons (λ (y : Instance). output_count y.kind) x xs, length-append (replicate (output_count x.kind) n) (owners_from (n + 1) xs), length-replicate (output_count x.kind) n, length-owners (n + 1) xs)

-- Instance i owns place p among the outputs of these instances: its outputs begin at or before p, and end after it.
pub record Owns (xs : List Instance) (p i : ℕ) : Type 0 where
  pub instance : Instance
  pub stands : slice_get xs i ≡ Some instance
  pub begins : count_outputs (take i xs) ≤ p
  pub ends : p < count_outputs (take i xs) + output_count instance.kind

-- the owner that is kept for a place owns it
pub owner_of_place : (n : ℕ) (xs : List Instance) (p : ℕ) → p < count_outputs xs → (i : ℕ) × (get_or (owners_from n xs) p 0 ≡ n + i) × Owns xs p i
owner_of_place n [] p h = absurd (omega arith)
owner_of_place n (x ∷ xs) p h =
    let count = output_count x.kind in
    let all = sum_by-cons (λ (y : Instance). output_count y.kind) x xs in
    elim (cases_lt p count) [
      | inl here ↦
          let kept : get_or (owners_from n (x ∷ xs)) p 0 ≡ n + 0 =
          get_or_append_left (replicate count n) (owners_from (n + 1) xs) 0 p (omega (arith, length-replicate count n))
          ∙ get_or-replicate count p n 0 here ∙ (let e : n ≡ n + 0 = omega arith in e) in
          (0, kept, record { instance = x; stands = refl; begins = omega arith; ends = omega arith })
      | inr later ↦
          let rest = owner_of_place (n + 1) xs (p - count) (omega arith) in
          let owns = rest.2 in
          let front = sum_by-cons (λ (y : Instance). output_count y.kind) x (take rest.0 xs) in
          let begins : count_outputs (take rest.0 xs) ≤ p - count = owns.begins in
          let ends : p - count < count_outputs (take rest.0 xs) + output_count owns.instance.kind = owns.ends in
          let kept : get_or (owners_from n (x ∷ xs)) p 0 ≡ n + suc rest.0 =
          get_or-append_right (replicate count n) (owners_from (n + 1) xs) count p 0 (length-replicate count n) later
          ∙ rest.1 ∙ (let e : n + 1 + rest.0 ≡ n + suc rest.0 = omega arith in e) in
          (suc rest.0, kept, record { instance = owns.instance; stands = owns.stands; begins = omega arith; ends = omega arith })
    ]
