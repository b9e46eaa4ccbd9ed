use Rattle.std.proofs.Common.{◌≡◌, ℕ, ◌+◌, ◌<◌, List, [], ◌∷◌, ◌++◌, length, take, drop, sym, ap, ◌∙◌, refl, append_assoc, arith}
use Rattle.std.specs.Prelude.{slice_set}
use Rattle.std.proofs.lemmas.List.{length-set, take_more_set, drop-set-lt}
use Rattle.ps_demand.proofs.table.write_over.Goals as goal

-- once the next value is written, the same whole is to be written
over_next : {X : Type 0} (rows written left rest : List X) (at : ℕ) (x : X) → at < length rows → written ≡ slice_set rows at x → left ≡ x ∷ rest →
    take (at + 1) written ++ (rest ++ drop (at + 1 + length rest) written) ≡ take at rows ++ (left ++ drop (at + length left) rows)
over_next rows written left rest at x inside is next =
    let past = at + 1 + length rest in
    let place : past ≡ at + length (x ∷ rest) = omega arith in
    ap (λ over. take (at + 1) over ++ (rest ++ drop past over)) is
    ∙ ap (λ front. front ++ (rest ++ drop past (slice_set rows at x))) (take_more_set rows at x inside)
    ∙ append_assoc (take at rows) (x ∷ []) (rest ++ drop past (slice_set rows at x))
    ∙ ap (λ back. take at rows ++ x ∷ (rest ++ back)) (drop-set-lt past rows at x (omega arith) ∙ ap (λ n. drop n rows) place)
    ∙ ap (λ values. take at rows ++ (values ++ drop (at + length values) rows)) (sym next)

pub loop-value-preserved : goal.loop-value-preserved
loop-value-preserved g c =
    let next = c.in-Some.ensures.steps.0 in
    let long = ap length next in
    let inside : c.loop-value.at < length c.loop-value.rows.items = omega (arith, long, c.loop-value.invariant.room) in
    record {
      room = omega (arith, long, c.loop-value.invariant.room, length-set c.loop-value.rows.items c.loop-value.at c.in-Some.value);
      whole = over_next c.loop-value.rows.items (slice_set c.loop-value.rows.items c.loop-value.at c.in-Some.value) c.loop-value.value-iterator.rest.items
          c.next.new.self.rest.items c.loop-value.at c.in-Some.value inside refl next ∙ c.loop-value.invariant.whole;
    }
