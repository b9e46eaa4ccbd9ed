use Rattle.std.proofs.Common.{◌≡◌, ◌≤◌, ◌<◌, ◌-◌, ◌++◌, ℕ, List, [], length, drop, slice_index_or, option_map}
use Rattle.ps_bench_logs.specs.Fields.{fields_from, fields_of}
use Rattle.ps_bench_logs.specs.Fields.Place.{begins}
use Rattle.ps_bench_logs.specs.Spans.{Shows, part_at}
use Rattle.ps_bench_logs.proofs.fields.cut.Given as goal

abbrev pub invariant-fields : goal.invariant-fields
invariant-fields l = record {
  within : l.at ≤ length l.line;
  few : l.count ≤ l.at;
  size : length l.spans ≡ length l.initial.spans;
  done : List (List ℕ);
  are : fields_of l.line ≡ option_map (λ fs. done ++ fs) (fields_from begins (drop l.at l.line));
  counted : length done ≡ l.count;
  shown : (k : ℕ) → k < l.count → k < length l.spans → Shows (part_at l.line l.spans k) (slice_index_or done k []);
}

abbrev pub decreases-fields : goal.decreases-fields
decreases-fields l = length l.line - l.at
