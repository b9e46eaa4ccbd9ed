use Rattle.std.proofs.Common.{◌<◌, ◌+◌, ◌==◌, ◌∙◌, ℕ, List, Some, length, drop, slice_index, if◌then◌else◌, sym, ap, arith}
use Rattle.std.specs.List.{position_from}
use Rattle.std.proofs.lemmas.Grind.{common_steps}
use Rattle.ps_trace.specs.Words.{words}
use Rattle.ps_trace.specs.Header.{input_names, inputs_named, names_another, times_named}
use Rattle.ps_trace.proofs.HeaderLemmas.{named_more, known_more, times_more, places_more, few_more}
use Rattle.ps_trace.proofs.header.read_names.Goals as goal

pub names-preserved : goal.names-preserved
names-preserved c =
    let names = input_names c.args.app.now in
    let first = c.in-Some.ensures.first in
    let named = sym c.input_named.ensures.named ∙ c.in-Some-input_named.is in
    let counted : c.in-Some-input_named.i < length c.names.times = grind (arith, common_steps) in
    let placed : c.in-Some-input_named.i < length c.names.places = grind (arith, common_steps) in
    record {
      within = grind (arith, common_steps);
      few = grind (arith, common_steps);
      places_each = grind (arith, common_steps);
      times_each = grind (arith, common_steps);
      known = c.names.invariant.known ∙ ap (names_another names) first ∙ known_more names _ _ _ named;
      few_times = λ i within. few_more _ _ _ i c.names.count counted c.note.ensures.times (c.names.invariant.few_times i within) (c.names.invariant.few_times c.in-Some-input_named.i (grind (arith, common_steps)));
      times = λ i within. c.names.invariant.times i within
          ∙ ap (λ (ws : List (List ℕ)). slice_index c.names.times i + times_named (inputs_named names ws) i) first
          ∙ ap (λ (is : List ℕ). slice_index c.names.times i + times_named is i) (named_more names _ _ _ named)
          ∙ times_more c.names.times _ (inputs_named names (words (drop c.in-Some.upto c.args.line.now))) _ i counted c.note.ensures.times;
      places = λ i within. c.names.invariant.places i within
          ∙ ap (λ (ws : List (List ℕ)). if slice_index c.names.times i == 0 then position_from (λ j. j == i) c.names.count (inputs_named names ws) else Some (slice_index c.names.places i)) first
          ∙ ap (λ (is : List ℕ). if slice_index c.names.times i == 0 then position_from (λ j. j == i) c.names.count is else Some (slice_index c.names.places i)) (named_more names _ _ _ named)
          ∙ places_more c.names.times _ c.names.places _ (inputs_named names (words (drop c.in-Some.upto c.args.line.now))) _ i c.names.count counted placed c.note.ensures.times c.note.ensures.places;
    }
