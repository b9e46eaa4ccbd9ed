-- What is kept for a signal, and what stays of it.
use Rattle.std.proofs.Common.{◌≡◌, ℕ, zero, suc, ◌<◌, false, List, [], ◌∷◌, Option, length, length-set, ap, sym, ◌∙◌, refl, map, arith}
use Rattle.std.specs.Prelude.{slice_index_or, slice_set}
use Rattle.std.proofs.lemmas.Bool.{true≢false}
use Rattle.std.proofs.lemmas.List.{map-set, get_or-set_other}
use Rattle.ps_demand.specs.declared.demand.Demand.{Demand}
use Rattle.ps_demand.specs.Passes.{kept_for, KeepsWanted}
use Rattle.ps_demand.specs.Requirement.{never}
use Rattle.ps_demand.specs.Views.{requirement}
use Rattle.ps_demand.specs.Wanted.{is_wanted}

pub kept_at : (rows : List Demand) (s : ℕ) (d : Demand) → s < length rows → d ≡ slice_index_or rows s d → requirement d ≡ kept_for rows s
kept_at [] s d inside is = absurd (omega arith)
kept_at (r ∷ rows) zero d inside is = ap requirement is
kept_at (r ∷ rows) (suc s) d inside is = kept_at rows s d (omega arith) is

module _ (last : List (Option ℕ)) (k : ℕ) where
  pub keeps_same : (rows : List Demand) → KeepsWanted last k rows rows
  keeps_same rows = record { long = refl; each = λ s wanted. refl }

  pub keeps_both : (old mid new : List Demand) → KeepsWanted last k old mid → KeepsWanted last k mid new → KeepsWanted last k old new
  keeps_both old mid new first second = record {
    long = second.long ∙ first.long;
    each = λ s wanted. second.each s wanted ∙ first.each s wanted;
  }

  -- what is kept for a signal that is not wanted is changed
  pub keeps_others : (rows : List Demand) (s : ℕ) (d : Demand) → is_wanted last k s ≡ false → KeepsWanted last k rows (slice_set rows s d)
  keeps_others rows s d off = record {
    long = length-set rows s d;
    each = λ t wanted.
        ap (λ rs. slice_index_or rs t never) (map-set requirement rows s d)
        ∙ get_or-set_other (map requirement rows) s t (requirement d) never (λ same. true≢false (sym wanted ∙ ap (is_wanted last k) same ∙ off));
  }
