use Rattle.std.proofs.Common.{◌≡◌, ◌≤◌, ◌-◌, length, take, drop}
use Rattle.ps_bench_logs.specs.Fields.{fields_from}
use Rattle.ps_bench_logs.specs.Fields.Place.{plain}
use Rattle.ps_bench_logs.proofs.Cutting.{front}
use Rattle.ps_bench_logs.proofs.fields.plain_field.Given as goal

abbrev pub invariant-bytes : goal.invariant-bytes
invariant-bytes l = record {
  behind : l.at ≤ l.end;
  within : l.end ≤ length l.line;
  is : fields_from plain (drop l.at l.line) ≡ front (take (l.end - l.at) (drop l.at l.line)) (fields_from plain (drop l.end l.line));
}

abbrev pub decreases-bytes : goal.decreases-bytes
decreases-bytes l = length l.line - l.end
