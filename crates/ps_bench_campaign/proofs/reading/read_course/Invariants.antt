use Rattle.std.proofs.Common.{◌≡◌, ◌≤◌, ◌+◌, ◌-◌, ◌++◌, ℕ, List, IsTrue, Some}
use Rattle.ps_base.specs.declared.limits.TheConstants.{LARGEST_TRACE}
use Rattle.ps_bench_campaign.specs.Courses.{IsRecorder, latest_in}
use Rattle.ps_bench_trials.specs.Steps.{items_in}
use Rattle.ps_model.specs.Network.{input_count}
use Rattle.ps_outside.specs.Outside.{CountsStay}
use Rattle.ps_trace.specs.Reading.{IsReadingTrace, file_of, input_count_of, items_left, last_of, place_of}
use Rattle.ps_bench_campaign.proofs.reading.read_course.Given as goal

abbrev pub invariant-items : goal.invariant-items
invariant-items g l = record {
  inputs : input_count_of l.trace ≡ input_count l.app;
  name : file_of l.trace ≡ file_of l.initial.trace;
  recorded : IsRecorder l.app l.recorder;
  due : latest_in 0 l.recorder.course.steps.items ≤ last_of l.trace;
  room : l.recorder.course.scans ≤ place_of l.trace;
  reads : IsTrue (g.F.Files.tells l.initial.files) → (text : List ℕ) → g.F.Files.held l.initial.files (file_of l.initial.trace) ≡ Some text →
      IsReadingTrace l.initial.trace text → IsReadingTrace l.trace text;
  leads : IsTrue (g.F.Files.tells l.initial.files) → (text : List ℕ) → g.F.Files.held l.initial.files (file_of l.initial.trace) ≡ Some text →
      IsReadingTrace l.initial.trace text →
      items_left l.initial.trace text ≡ record {
        items = items_in l.recorder.course.steps.items ++ (items_left l.trace text).items;
        end = (items_left l.trace text).end;
      };
  all_read : CountsStay (g.F.Files.faults l.initial.files) (g.F.Files.faults l.files);
  kept : g.F.Files.held l.files ≡ g.F.Files.held l.initial.files;
  telling : g.F.Files.tells l.files ≡ g.F.Files.tells l.initial.files;
}

abbrev pub decreases-items : goal.decreases-items
decreases-items g l = LARGEST_TRACE + 1 - place_of l.trace
