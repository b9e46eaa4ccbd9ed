use Rattle.std.proofs.Common.{◌≡◌, ◌≤◌, ◌+◌, ◌-◌, ℕ, List, IsTrue, Some}
use Rattle.ps_base.specs.declared.limits.TheConstants.{LARGEST_TRACE}
use Rattle.ps_model.specs.Meaning.{Meaning}
use Rattle.ps_model.specs.Network.{input_count}
use Rattle.ps_model.specs.Scanning.{State}
use Rattle.ps_outside.specs.Outside.{CountsStay}
use Rattle.ps_trace.specs.Reading.{IsReadingTrace, file_of, input_count_of, items_left, last_of, place_of}
use Rattle.ps_bench_why.specs.Scanned.{last_upto, scans_of}
use Rattle.ps_bench_why.specs.Walking.{IsWalkerFor, latest}
use Rattle.ps_bench_why.proofs.Going.{Standing}
use Rattle.ps_bench_why.proofs.looping.walk_up_to.Given as goal

-- the loop stands in front of the items that are left
abbrev pub invariant-items : goal.invariant-items
invariant-items g l = record {
  fits : IsWalkerFor l.app l.walker;
  due : latest l.walker ≤ last_of l.trace;
  inputs : input_count_of l.trace ≡ input_count l.app;
  name : file_of l.trace ≡ file_of l.initial.trace;
  reads : IsTrue (g.F.Files.tells l.initial.files) → (text : List ℕ) → g.F.Files.held l.initial.files (file_of l.initial.trace) ≡ Some text →
      IsReadingTrace l.initial.trace text → IsReadingTrace l.trace text;
  stands : IsTrue (g.F.Files.tells l.initial.files) → (text : List ℕ) → g.F.Files.held l.initial.files (file_of l.initial.trace) ≡ Some text →
      IsReadingTrace l.initial.trace text → (states : List State) → Meaning l.app (items_left l.initial.trace text).items states →
      Standing l.app l.time (last_upto l.time (scans_of (items_left l.initial.trace text).items states)) l.walker (last_of l.trace) (items_left l.trace text).items;
  ends : IsTrue (g.F.Files.tells l.initial.files) → (text : List ℕ) → g.F.Files.held l.initial.files (file_of l.initial.trace) ≡ Some text →
      IsReadingTrace l.initial.trace text → (items_left l.trace text).end ≡ (items_left l.initial.trace text).end;
  all_read : CountsStay (g.F.Files.faults l.initial.files) (g.F.Files.faults l.files);
  kept : g.F.Files.held l.files ≡ g.F.Files.held l.initial.files;
  telling : g.F.Files.tells l.files ≡ g.F.Files.tells l.initial.files;
}

abbrev pub decreases-items : goal.decreases-items
decreases-items g l = LARGEST_TRACE + 1 - place_of l.trace
