-- A refusal names the first offence.
use Rattle.std.proofs.Common.{◌≡◌, Bool, true, false, ◌⊎◌, inl, inr, List, [], ◌∷◌, ◌++◌, Option, None, Some, Contains, refl, sym, subst, append_assoc, arith, if◌then◌else◌}
use Rattle.std.proofs.lemmas.List.{append-nil}
use Rattle.std.proofs.lemmas.List.Elements.{Contains-append_left, Contains-push, Contains-push_cases}
use Rattle.std.proofs.lemmas.Bool.Decides.{nat_tests}
use Rattle.ps_base.specs.declared.failing.Refusal.{Refusal}
use Rattle.ps_names.specs.Offences.{is_before, first_of, noted, refused, IsFirst}

-- none comes before itself
never_itself : (o : Refusal) → is_before o o ≡ false
never_itself o = grind (arith, nat_tests)

-- what does not come before b does not come before what b does not come after
not_before : (a b c : Refusal) → is_before a b ≡ false → is_before c b ≡ true → is_before a c ≡ false
not_before a b c h i = grind (arith, nat_tests)

first_of_one_more : (seen : List Refusal) (found : Option Refusal) (o : Refusal) → IsFirst seen found → IsFirst (seen ++ o ∷ []) (first_of found o)
first_of_one_more seen None o h = subst (λ s. IsFirst (s ++ o ∷ []) (Some o)) (sym h)
    (Contains-push [] o, λ x there. only x (Contains-push_cases [] o x there))
  where
    only : (x : Refusal) → Contains [] x ⊎ (o ≡ x) → is_before x o ≡ false
    only x (inl left) = absurd (omega (arith, left.1))
    only x (inr e) = subst (λ y. is_before y o ≡ false) e (never_itself o)
first_of_one_more seen (Some a) o h = by (is_before o a) refl
  where
    by : (b : Bool) → is_before o a ≡ b → IsFirst (seen ++ o ∷ []) (if b then Some o else Some a)
    by true e = (Contains-push seen o, λ x there. each x (Contains-push_cases seen o x there))
      where
        each : (x : Refusal) → Contains seen x ⊎ (o ≡ x) → is_before x o ≡ false
        each x (inl left) = not_before x a o (h.1 x left) e
        each x (inr right) = subst (λ y. is_before y o ≡ false) right (never_itself o)
    by false e = (Contains-append_left seen (o ∷ []) a h.0, λ x there. each x (Contains-push_cases seen o x there))
      where
        each : (x : Refusal) → Contains seen x ⊎ (o ≡ x) → is_before x a ≡ false
        each x (inl left) = h.1 x left
        each x (inr right) = subst (λ y. is_before y a ≡ false) right e

pub first_after : (os seen : List Refusal) (found : Option Refusal) → IsFirst seen found → IsFirst (seen ++ os) (noted found os)
first_after [] seen found h = subst (λ s. IsFirst s found) (sym (append-nil seen)) h
first_after (o ∷ os) seen found h =
    subst (λ s. IsFirst s (noted found (o ∷ os))) (append_assoc seen (o ∷ []) os)
    (first_after os (seen ++ o ∷ []) (first_of found o) (first_of_one_more seen found o h))

-- the first offence is refused
pub refused_first : (os : List Refusal) → IsFirst os (refused os)
refused_first os = first_after os [] None refl
