use Rattle.std.proofs.Common.{◌≡◌, ◌+◌, ◌-◌, ℕ, List, IsTrue, Some}
use Rattle.ps_outside.specs.Outside.{CountsStay}
use Rattle.ps_lines.specs.Reader.{left, begin_of, name_of, limits_of}
use Rattle.ps_trace.specs.FaultSays.{targets_by}
use Rattle.ps_trace.specs.Found.{AreFound, found_in}
use Rattle.ps_trace.specs.Leaving.{IsUnderWay, shelf}
use Rattle.ps_trace.proofs.fault_file.read_all.Given as goal

abbrev pub invariant-lines : goal.invariant-lines
invariant-lines g l = record {
  way : IsUnderWay (shelf (g.F.Files.tells l.initial.files) (g.F.Files.held l.initial.files) (g.F.Files.faults l.initial.files)) l.lines;
  are : AreFound (targets_by g.W.Target.named_by g.W.Target.is_same g.W.Target.length_of g.W.Target.made l.sizes l.one_alone) g.W.Target.parts l.found;
  said : IsTrue (g.F.Files.tells l.initial.files) → (text : List ℕ) → g.F.Files.held l.initial.files (name_of l.initial.lines) ≡ Some text →
      found_in (targets_by g.W.Target.named_by g.W.Target.is_same g.W.Target.length_of g.W.Target.made l.sizes l.one_alone) l.initial.found (left l.initial.lines text)
      ≡ found_in (targets_by g.W.Target.named_by g.W.Target.is_same g.W.Target.length_of g.W.Target.made l.sizes l.one_alone) l.found (left l.lines text);
  name : name_of l.lines ≡ name_of l.initial.lines;
  limits : limits_of l.lines ≡ limits_of l.initial.lines;
  exact : CountsStay (g.F.Files.faults l.initial.files) (g.F.Files.faults l.files);
  kept : g.F.Files.held l.files ≡ g.F.Files.held l.initial.files;
  telling : g.F.Files.tells l.files ≡ g.F.Files.tells l.initial.files;
}

abbrev pub decreases-lines : goal.decreases-lines
decreases-lines g l = (limits_of l.initial.lines).largest + 1 - begin_of l.lines
