use Rattle.std.proofs.Common.{◌≡◌, ◌+◌, ◌-◌, ℕ, List, IsTrue, Some, IsSome, ◌<◌}
use Rattle.ps_outside.specs.Outside.{CountsStay}
use Rattle.ps_lines.specs.Reader.{IsReading, begin_of, name_of, limits_of, read_of}
use Rattle.ps_lines.proofs.reader.LineReader.next_line.Given as goal

abbrev pub invariant-pieces : goal.invariant-pieces
invariant-pieces g l = record {
  reads : IsTrue (g.F.Files.tells l.initial.files) → (text : List ℕ) → g.F.Files.held l.initial.files (name_of l.initial.self) ≡ Some text →
      IsReading l.initial.self text → IsReading l.self text;
  same_line : begin_of l.self ≡ begin_of l.initial.self;
  found : IsTrue (g.F.Files.tells l.initial.files) → 0 < read_of l.self → read_of l.initial.self ≡ 0 → IsSome (g.F.Files.held l.initial.files (name_of l.initial.self));
  exact : CountsStay (g.F.Files.faults l.initial.files) (g.F.Files.faults l.files);
  kept : g.F.Files.held l.files ≡ g.F.Files.held l.initial.files;
  telling : g.F.Files.tells l.files ≡ g.F.Files.tells l.initial.files;
  name : name_of l.self ≡ name_of l.initial.self;
  limits : limits_of l.self ≡ limits_of l.initial.self;
}

abbrev pub decreases-pieces : goal.decreases-pieces
decreases-pieces g l = l.self.limits.largest + 4097 - l.self.at
