-- Lists of parts of different lengths are not the same.
use Rattle.std.proofs.Common.{◌≡◌, ◌≢◌, suc, false, List, [], ◌∷◌, length, ap, refl}
use Rattle.std.proofs.lemmas.Bool.{and_right}
use Rattle.ps_demand.specs.Requirement.{Requirement, requirements, same, same_parts}

-- lists of different lengths are not the same
pub lengths_differ : (ds es : List Requirement) → length ds ≢ length es → same_parts (requirements ds) (requirements es) ≡ false
lengths_differ [] [] h = absurd (h refl)
lengths_differ [] (e ∷ es) h = refl
lengths_differ (d ∷ ds) [] h = refl
lengths_differ (d ∷ ds) (e ∷ es) h =
    and_right (same d e) (same_parts (requirements ds) (requirements es)) (lengths_differ ds es (λ equal. h (ap suc equal)))
