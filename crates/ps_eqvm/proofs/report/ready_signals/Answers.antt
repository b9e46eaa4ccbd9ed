use Rattle.std.proofs.Common.{◌≡◌, ◌+◌, ◌-◌, ◌<◌, ◌++◌, ◌∷◌, [], inl, inr, ℕ, List, length, ap, ◌∙◌, arith, length-append}
use Rattle.std.specs.Prelude.{slice_index, slice_index_or}
use Rattle.std.proofs.lemmas.Bool.{cases_eq}
use Rattle.std.proofs.lemmas.List.{get_or_append_left, get_or-append_right}
use Rattle.std.proofs.lemmas.Option.{get_or_from_slice_get}
use Rattle.ps_model.specs.declared.kind.Kind.{Kind}
use Rattle.ps_model.specs.declared.kind.Kind.TheVariants.{Equivalent}
use Rattle.ps_model.specs.Blocks.{output_count}
use Rattle.ps_model.proofs.OutputLengths.{output_count_is}
use Rattle.ps_eqvm.proofs.report.ready_signals.Goals as goal

-- one more after those that are there
more : (readies firsts : List ℕ) (kinds : List Kind) (i ready : ℕ) → length readies ≡ i → ready + 2 ≡ slice_index_or firsts i 0 + output_count (slice_index_or kinds i Equivalent) →
    ((k : ℕ) → k < i → slice_index readies k + 2 ≡ slice_index_or firsts k 0 + output_count (slice_index_or kinds k Equivalent)) →
    (k : ℕ) → k < i + 1 → slice_index (readies ++ ready ∷ []) k + 2 ≡ slice_index_or firsts k 0 + output_count (slice_index_or kinds k Equivalent)
more readies firsts kinds i ready count is before k low = elim (cases_eq k i) [
  | inl last ↦
      let none : i - i ≡ 0 = omega arith in
      let own : slice_index (readies ++ ready ∷ []) i ≡ ready = get_or-append_right readies (ready ∷ []) i i 0 count (omega arith) ∙ ap (slice_index (ready ∷ [])) none in
      rw (last, own) is
  | inr other ↦
      let early : k < i = omega (arith, low, other) in
      rw (get_or_append_left readies (ready ∷ []) 0 k (omega (arith, early, count))) (before k early)
]

pub overflow_add-at : goal.overflow_add-at
overflow_add-at c =
    let z = c.args.sizes.now in
    let i = c.loop-i.i in
    let first = get_or_from_slice_get z.first_pins i c.at-in-loop-i.result 0 c.at-in-loop-i.ensures in
    let kind = ap output_count (get_or_from_slice_get z.kinds i c.at.result Equivalent c.at.ensures) in
    let within = z.places.pin_outputs i c.loop-i-test.true in
    omega arith

pub loop-i-preserved : goal.loop-i-preserved
loop-i-preserved c =
    let z = c.args.sizes.now in
    let i = c.loop-i.i in
    let ready = c.at-in-loop-i.result + c.from-outputs.result - 2 in
    let first = get_or_from_slice_get z.first_pins i c.at-in-loop-i.result 0 c.at-in-loop-i.ensures in
    let kind = ap output_count (get_or_from_slice_get z.kinds i c.at.result Equivalent c.at.ensures) in
    let two = output_count_is c.at.result in
    let is : ready + 2 ≡ slice_index_or z.first_pins i 0 + output_count (slice_index_or z.kinds i Equivalent) = omega (arith, two) in
    let added : c.push.new.self.items ≡ c.loop-i.readies.items ++ ready ∷ [] = c.in_ok-push.ensures.items in
    record {
      count = ap length added ∙ length-append c.loop-i.readies.items (ready ∷ []) ∙ ap (λ n. n + 1) c.loop-i.invariant.count;
      each = λ k low. rw added (more c.loop-i.readies.items z.first_pins z.kinds i ready c.loop-i.invariant.count is c.loop-i.invariant.each k low);
    }
