-- The line of a mark by the ways of its kind.
use Rattle.std.proofs.Common.{◌≡◌, ◌∙◌, ℕ, ◌-◌, ◌<◌, ◌≤◌, List, [], Some, None, length, slice_get, ap, refl, sym, subst}
use Rattle.std.specs.Prelude.{slice_index_or}
use Rattle.std.proofs.lemmas.Bool.{cond-false, cond-true, le-ltb, lt-ltb}
use Rattle.std.proofs.lemmas.Option.{slice_get-get_or, slice_get_past}
use Rattle.ps_model.specs.declared.kind.Kind.{Kind}
use Rattle.ps_ways.specs.Tables.{ways_of}
use Rattle.ps_ways.specs.declared.way.Way.{Way}
use Rattle.ps_cover.specs.Lines.{made_line, state_line, way_line}
use Rattle.ps_cover.specs.declared.format.Format.{Format}
use Rattle.ps_cover.specs.declared.format.Format.TheVariants.{Text, Json}

module _ (format : Format) (name : List ℕ) (kind : Kind) (mark : ℕ) (ws : List Way) (are : ws ≡ ways_of kind) where
  abbrev within_line : List ℕ
  within_line = way_line format name kind mark (slice_get (ways_of kind) mark)

  abbrev behind_line : List ℕ
  behind_line = state_line format name kind (slice_get (ways_of kind) (mark - length (ways_of kind)))

  pub taken_line : mark < length ws → (d : Way) → way_line format name kind mark (Some (slice_index_or ws mark d)) ≡ made_line format name kind mark
  taken_line within d =
      ap (way_line format name kind mark) (sym (slice_get-get_or ws mark d within) ∙ ap (λ (vs : List Way). slice_get vs mark) are)
      ∙ sym (cond-true _ within_line behind_line (lt-ltb mark (length (ways_of kind)) (subst (λ (vs : List Way). mark < length vs) are within)))

  behind_is : length ws ≤ mark → made_line format name kind mark ≡ behind_line
  behind_is behind = cond-false _ within_line behind_line (le-ltb mark (length (ways_of kind)) (subst (λ (vs : List Way). length vs ≤ mark) are behind))

  pub entered_line : length ws ≤ mark → mark - length ws < length ws → (d : Way) →
      state_line format name kind (Some (slice_index_or ws (mark - length ws) d)) ≡ made_line format name kind mark
  entered_line behind within d =
      ap (state_line format name kind) (sym (slice_get-get_or ws (mark - length ws) d within) ∙ ap (λ (vs : List Way). slice_get vs (mark - length vs)) are) ∙ sym (behind_is behind)

  none_line : (f : Format) → state_line f name kind None ≡ []
  none_line Text = refl
  none_line Json = refl

  pub no_line : length ws ≤ mark → length ws ≤ mark - length ws → made_line format name kind mark ≡ []
  no_line behind past =
      behind_is behind ∙ ap (state_line format name kind) (slice_get_past (ways_of kind) (mark - length (ways_of kind))
      (subst (λ (vs : List Way). length vs ≤ mark - length vs) are past)) ∙ none_line format
