-- The marks of a step by the ways of its kind.
use Rattle.std.proofs.Common.{◌≡◌, ℕ, ◌-◌, ◌<◌, ◌≤◌, Bool, false, List, length, slice_get, sym, ap, subst, ◌∙◌, ◌&&◌}
use Rattle.std.specs.Prelude.{◌==◌, slice_index_or}
use Rattle.std.proofs.lemmas.Bool.{cond-false, cond-true, le-ltb, lt-ltb}
use Rattle.std.proofs.lemmas.Option.{slice_get-get_or, slice_get_past}
use Rattle.ps_model.specs.declared.kind.Kind.{Kind}
use Rattle.ps_ways.specs.Tables.{ways_of}
use Rattle.ps_ways.specs.declared.way.Way.{Way}
use Rattle.ps_ways.specs.Marks.{made, of_way}

module _ (kind : Kind) (q n q' mark : ℕ) where
  abbrev taking : Way → Bool
  taking w = w.state == q && w.number == n

  abbrev entering : Way → Bool
  entering w = w.state == q'

  made_behind : length (ways_of kind) ≤ mark → made kind q n q' mark ≡ of_way entering (slice_get (ways_of kind) (mark - length (ways_of kind)))
  made_behind behind =
      cond-false _ (of_way taking (slice_get (ways_of kind) mark)) (of_way entering (slice_get (ways_of kind) (mark - length (ways_of kind))))
      (le-ltb mark (length (ways_of kind)) behind)

  pub made_taking : (ws : List Way) → ws ≡ ways_of kind → mark < length ws → (w : Way) →
      (let x = slice_index_or ws mark w in x.state == q && x.number == n) ≡ made kind q n q' mark
  made_taking ws e =
      subst (λ ws. mark < length ws → (w : Way) → taking (slice_index_or ws mark w) ≡ made kind q n q' mark) (sym e)
      (λ within w. sym (cond-true _ (of_way taking (slice_get (ways_of kind) mark)) (of_way entering (slice_get (ways_of kind) (mark - length (ways_of kind))))
      (lt-ltb mark (length (ways_of kind)) within)
      ∙ ap (of_way taking) (slice_get-get_or (ways_of kind) mark w within)))

  pub made_entering : (ws : List Way) → ws ≡ ways_of kind → length ws ≤ mark → mark - length ws < length ws → (w : Way) →
      ((slice_index_or ws (mark - length ws) w).state == q') ≡ made kind q n q' mark
  made_entering ws e =
      subst (λ ws. length ws ≤ mark → mark - length ws < length ws → (w : Way) → entering (slice_index_or ws (mark - length ws) w) ≡ made kind q n q' mark) (sym e)
      (λ behind within w. sym (made_behind behind ∙ ap (of_way entering) (slice_get-get_or (ways_of kind) (mark - length (ways_of kind)) w within)))

  pub made_past : (ws : List Way) → ws ≡ ways_of kind → length ws ≤ mark → length ws ≤ mark - length ws → false ≡ made kind q n q' mark
  made_past ws e =
      subst (λ ws. length ws ≤ mark → length ws ≤ mark - length ws → false ≡ made kind q n q' mark) (sym e)
      (λ behind past. sym (made_behind behind ∙ ap (of_way entering) (slice_get_past (ways_of kind) (mark - length (ways_of kind)) past)))
