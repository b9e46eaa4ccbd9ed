use Rattle.std.proofs.Common.{◌≡◌, ◌++◌, [], map, take}
use Rattle.csv.specs.Records.{fields_of, partial_of}
use Rattle.ps_bench_waves.specs.Shown.{label}
use Rattle.ps_bench_waves.proofs.head.add_labels.Given as goal

abbrev pub invariant-loop-name : goal.invariant-loop-name
invariant-loop-name l = record {
  fields : fields_of l.fields ≡ fields_of l.initial.fields ++ map (label l.app) (take l.name-index l.names);
  partial : partial_of l.fields ≡ [];
}
