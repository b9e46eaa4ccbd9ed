-- The first output that is told to differ does.
use Rattle.std.proofs.Common.{◌≡◌, ◌≢◌, ◌<◌, ◌+◌, ℕ, suc, Bool, true, false, List, [], ◌∷◌, Some, length, refl, sym, ap, subst, ◌∙◌, arith}
use Rattle.std.specs.Prelude.{slice_index_or}
use Rattle.std.proofs.lemmas.List.FromFn.{length-map-range_with_len}
use Rattle.ps_model.specs.Meaning.{Item, Meaning, Past, Runs, first_state, last, nothing, report, restart, scan}
use Rattle.ps_model.specs.Network.{Network, input_count}
use Rattle.ps_model.specs.Scanning.{State, signal_in}
use Rattle.ps_pairs.specs.Outputs.{last_of, outputs_left}
use Rattle.ps_pairs.specs.Promised.{LastDiffers}
use Rattle.ps_pairs.specs.Sides.{unlike}
use Rattle.ps_reach.specs.Telling.{items_of}
use Rattle.ps_reach.specs.declared.asked.Asked.{Asked}
use Rattle.ps_search.specs.declared.answer.End.{End}
use Rattle.ps_search.specs.declared.answer.End.TheVariants.{Whole, Settled, Limit}
use Rattle.ps_search.specs.declared.answer.Path.{Path}
use Rattle.ps_bench_never.specs.Meant.{IsAnswerOfTwo, TellsApartOf}
use Rattle.ps_bench_never.specs.Naming.{NamedDiffers}
use Rattle.ps_bench_never.specs.SameTelling.{IsSaid, first_place}

-- ---- the outputs after scans the last of which leaves others
module _ (net other : Network) where
  outputs_differ : (past past' : Past) (items : List Item) (ws vs : List State) → Runs net past items ws → Runs other past' items vs →
      LastDiffers net other items ws vs → (w v : State) → (report net (last_of w ws)).outs ≢ (report other (last_of v vs)).outs
  outputs_differ past past' [] ws vs runs runs' d w v = absurd d
  outputs_differ past past' (restart ∷ items) ws vs runs runs' d w v = outputs_differ nothing nothing items ws vs runs runs' d w v
  outputs_differ past past' (scan now ins ∷ items) [] vs runs runs' d w v = absurd d
  outputs_differ past past' (scan now ins ∷ items) (x ∷ ws) [] runs runs' d w v = absurd d
  outputs_differ past past' (scan now ins ∷ []) (x ∷ ws) (y ∷ vs) runs runs' d w v = λ e.
      d (ap (λ (more : List State). (report net (last_of x more)).outs) (sym runs.1) ∙ e ∙ ap (λ (more : List State). (report other (last_of y more)).outs) runs'.1)
  outputs_differ past past' (scan now ins ∷ item ∷ items) (x ∷ ws) (y ∷ vs) runs runs' d w v =
      outputs_differ (last now x) (last now y) (item ∷ items) ws vs runs.1 runs'.1 d x y

  told_apart : (meant q : Asked) (end : End) (path : Path) → IsAnswerOfTwo net other meant q end (Some path) → TellsApartOf net other meant q path.inputs.items
  told_apart meant q Whole path h = h
  told_apart meant q Settled path h = h
  told_apart meant q (Limit depth) path h = h

-- ---- the first place at which lists differ
first_differs : (xs ys : List Bool) → length ys ≡ length xs → xs ≢ ys →
    (first_place xs ys < length xs) × (unlike (slice_index_or xs (first_place xs ys) false) (slice_index_or ys (first_place xs ys) false) ≡ true)
first_differs [] [] size d = absurd (d refl)
first_differs [] (y ∷ ys) size d = let no : ⊥ = omega (arith, size) in absurd no
first_differs (x ∷ xs) [] size d = let no : ⊥ = omega (arith, size) in absurd no
first_differs (true ∷ xs) (true ∷ ys) size d =
    let more = first_differs xs ys (omega (arith, size)) (λ e. d (ap (λ (zs : List Bool). true ∷ zs) e)) in
    let next : suc (first_place xs ys) ≡ 1 + first_place xs ys = omega arith in (
      omega (arith, more.0),
      subst (λ (k : ℕ). unlike (slice_index_or (true ∷ xs) k false) (slice_index_or (true ∷ ys) k false) ≡ true) next more.1,
    )
first_differs (true ∷ xs) (false ∷ ys) size d = (omega arith, refl)
first_differs (false ∷ xs) (true ∷ ys) size d = (omega arith, refl)
first_differs (false ∷ xs) (false ∷ ys) size d =
    let more = first_differs xs ys (omega (arith, size)) (λ e. d (ap (λ (zs : List Bool). false ∷ zs) e)) in
    let next : suc (first_place xs ys) ≡ 1 + first_place xs ys = omega arith in (
      omega (arith, more.0),
      subst (λ (k : ℕ). unlike (slice_index_or (false ∷ xs) k false) (slice_index_or (false ∷ ys) k false) ≡ true) next more.1,
    )

outs_length : (net : Network) (ws : List State) → length (outputs_left net ws) ≡ length net.outputs
outs_length net ws = length-map-range_with_len (signal_in (last_of (first_state net) ws)) (input_count net) (length net.outputs)

pub named_differs : NamedDiffers
named_differs t file told many is path e =
    let q = is.asked in
    let said : IsSaid t q is.found (Some path) told.text = subst (λ p. IsSaid t q is.found p told.text) e is.text in
    let apart = told_apart t.net t.other is.meant q is.found.end path (subst (λ p. IsAnswerOfTwo t.net t.other is.meant q is.found.end p) e is.answers) in
    let ends = apart.difference.ends in
    let values = said.0 in
    let others = said.1 in
    let first : values ≡ outputs_left t.net ends.states = said.2 ends.states ends.means in
    let second : others ≡ outputs_left t.other ends.others =
    said.3 ends.others (subst (λ (items : List Item). Meaning t.other items ends.others) (sym apart.same) ends.other_means) in
    let apart_ends = outputs_differ t.net t.other nothing nothing (items_of t.net q path.inputs.items) ends.states ends.others ends.means ends.other_means ends.differs (first_state t.net) (first_state t.other) in
    let unequal : values ≢ others = λ same. apart_ends (sym first ∙ same ∙ second) in
    let long : length values ≡ length t.net.outputs = ap length first ∙ outs_length t.net ends.states in
    let long' : length others ≡ length values = ap length second ∙ outs_length t.other ends.others ∙ many.outputs ∙ sym long in
    let place = first_differs values others long' unequal in
    record {
      values = values;
      others = others;
      place = first_place values others;
      first = said.2;
      second = λ vs means. said.3 vs (subst (λ (items : List Item). Meaning t.other items vs) (sym apart.same) means);
      within = omega (arith, place.0, long);
      differs = place.1;
      tells = said.4;
    }
