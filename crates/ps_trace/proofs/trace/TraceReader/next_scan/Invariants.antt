use Rattle.std.proofs.Common.{◌≡◌, ◌≤◌, ◌+◌, ◌-◌, ℕ, List, IsTrue, Some, None}
use Rattle.ps_outside.specs.Outside.{CountsStay}
use Rattle.ps_base.specs.declared.limits.TheConstants.{LARGEST_TRACE}
use Rattle.ps_lines.specs.Reader.{begin_of}
use Rattle.ps_trace.specs.Reading.{IsReadingTrace, items_left, file_of, last_of}
use Rattle.ps_trace.proofs.trace.TraceReader.next_scan.Given as goal

abbrev pub invariant-lines : goal.invariant-lines
invariant-lines g l = record {
  reads : IsTrue (g.F.Files.tells l.initial.files) → (text : List ℕ) → g.F.Files.held l.initial.files (file_of l.initial.self) ≡ Some text →
      IsReadingTrace l.initial.self text → IsReadingTrace l.self text;
  left : IsTrue (g.F.Files.tells l.initial.files) → (text : List ℕ) → g.F.Files.held l.initial.files (file_of l.initial.self) ≡ Some text →
      IsReadingTrace l.initial.self text → items_left l.self text ≡ items_left l.initial.self text;
  unrefused : l.self.refusal ≡ None;
  ahead : begin_of l.initial.self.lines ≤ begin_of l.self.lines;
  into : l.into ≡ l.initial.into;
  time : last_of l.self ≡ last_of l.initial.self;
  exact : CountsStay (g.F.Files.faults l.initial.files) (g.F.Files.faults l.files);
  kept : g.F.Files.held l.files ≡ g.F.Files.held l.initial.files;
  telling : g.F.Files.tells l.files ≡ g.F.Files.tells l.initial.files;
  name : file_of l.self ≡ file_of l.initial.self;
  places : l.self.places ≡ l.initial.self.places;
}

abbrev pub decreases-lines : goal.decreases-lines
decreases-lines g l = LARGEST_TRACE + 1 - begin_of l.self.lines
