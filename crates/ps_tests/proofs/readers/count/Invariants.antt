use Rattle.std.proofs.Common.{◌≡◌, length}
use Rattle.ps_trace.specs.Reading.{input_count_of}
use Rattle.ps_tests.proofs.readers.count.Given as goal

abbrev pub invariant-scans : goal.invariant-scans
invariant-scans l = length l.scan.ins ≡ input_count_of l.reader
