use Rattle.std.proofs.Common.{◌≡◌, ◌≤◌, ◌<◌, ◌+◌, ◌-◌, ◌==◌, ℕ, Some, length, drop, slice_index, if◌then◌else◌}
use Rattle.std.specs.List.{position_from}
use Rattle.ps_model.specs.Network.{input_count}
use Rattle.ps_trace.specs.Words.{words}
use Rattle.ps_trace.specs.Header.{input_names, inputs_named, names_another, times_named}
use Rattle.ps_trace.proofs.header.read_names.Given as goal

abbrev pub invariant-names : goal.invariant-names
invariant-names l = record {
  within : l.next ≤ length l.line;
  few : l.count ≤ l.next;
  places_each : length l.places ≡ input_count l.app;
  times_each : length l.times ≡ input_count l.app;
  known : names_another (input_names l.app) (words (drop l.at l.line)) ≡ names_another (input_names l.app) (words (drop l.next l.line));
  few_times : (i : ℕ) → i < input_count l.app → slice_index l.times i ≤ l.count;
  times : (i : ℕ) → i < input_count l.app →
      times_named (inputs_named (input_names l.app) (words (drop l.at l.line))) i
      ≡ slice_index l.times i + times_named (inputs_named (input_names l.app) (words (drop l.next l.line))) i;
  places : (i : ℕ) → i < input_count l.app →
      position_from (λ j. j == i) 0 (inputs_named (input_names l.app) (words (drop l.at l.line)))
      ≡ (if slice_index l.times i == 0 then position_from (λ j. j == i) l.count (inputs_named (input_names l.app) (words (drop l.next l.line)))
      else Some (slice_index l.places i));
}

abbrev pub decreases-names : goal.decreases-names
decreases-names l = length l.line - l.next
