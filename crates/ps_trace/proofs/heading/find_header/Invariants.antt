use Rattle.std.proofs.Common.{◌≡◌, ◌≤◌, ◌+◌, ◌-◌, ℕ, List, IsTrue, Some}
use Rattle.ps_outside.specs.Outside.{CountsStay}
use Rattle.ps_base.specs.declared.limits.TheConstants.{LARGEST_TRACE}
use Rattle.ps_lines.specs.Reader.{left, begin_of, name_of, limits_of}
use Rattle.ps_trace.specs.Header.{input_names}
use Rattle.ps_trace.specs.Scans.{header_from}
use Rattle.ps_trace.specs.Leaving.{IsUnderWay, shelf}
use Rattle.ps_trace.proofs.heading.find_header.Given as goal

abbrev pub invariant-lines : goal.invariant-lines
invariant-lines g l = record {
  way : IsUnderWay (shelf (g.F.Files.tells l.initial.files) (g.F.Files.held l.initial.files) (g.F.Files.faults l.initial.files)) l.lines;
  said : IsTrue (g.F.Files.tells l.initial.files) → (text : List ℕ) → g.F.Files.held l.initial.files (name_of l.initial.lines) ≡ Some text →
      header_from (input_names l.app) 1 (left l.initial.lines text) ≡ header_from (input_names l.app) l.number (left l.lines text);
  counted : l.number ≤ begin_of l.lines + 1;
  limited : (limits_of l.lines).largest ≡ LARGEST_TRACE;
  behind : begin_of l.initial.lines ≤ begin_of l.lines;
  name : name_of l.lines ≡ name_of l.initial.lines;
  limits : limits_of l.lines ≡ limits_of l.initial.lines;
  exact : CountsStay (g.F.Files.faults l.initial.files) (g.F.Files.faults l.files);
  kept : g.F.Files.held l.files ≡ g.F.Files.held l.initial.files;
  telling : g.F.Files.tells l.files ≡ g.F.Files.tells l.initial.files;
}

abbrev pub decreases-lines : goal.decreases-lines
decreases-lines g l = LARGEST_TRACE + 1 - begin_of l.lines
