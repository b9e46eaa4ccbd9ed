use Rattle.std.proofs.Common.{◌≡◌, ◌≤◌, ◌-◌, ℕ, List, length, take, drop}
use Rattle.ps_bench_logs.specs.Fields.{fields_from}
use Rattle.ps_bench_logs.specs.Fields.Place.{quoted}
use Rattle.ps_bench_logs.specs.Spans.{Shows}
use Rattle.ps_bench_logs.proofs.Cutting.{front}
use Rattle.ps_bench_logs.proofs.fields.quoted_field.Given as goal

abbrev pub invariant-steps : goal.invariant-steps
invariant-steps l = record {
  behind : l.at ≤ l.end;
  within : l.end ≤ length l.line;
  field : List ℕ;
  is : fields_from quoted (drop l.at l.line) ≡ front field (fields_from quoted (drop l.end l.line));
  shown : Shows (take (l.end - l.at) (drop l.at l.line)) field;
}

abbrev pub decreases-steps : goal.decreases-steps
decreases-steps l = length l.line - l.end
